use Rattle.hd_log.specs.Events.{event_text}
use Rattle.hd_log.proofs.events.write_event.Goals as goal

pub returns-in-CannotListen : goal.returns-in-CannotListen
unfolding event_text
returns-in-CannotListen c =
    rw c.in-CannotListen.is (rw c.text-in-CannotListen.ensures at c.write_cannot.ensures)

pub returns-in-CannotRead : goal.returns-in-CannotRead
unfolding event_text
returns-in-CannotRead c =
    rw c.in-CannotRead.is (rw c.text-in-CannotRead.ensures at c.write_cannot-in-CannotRead.ensures)

pub returns-in-Unwritten : goal.returns-in-Unwritten
unfolding event_text
returns-in-Unwritten c =
    rw c.in-Unwritten.is
    (rw (c.named-in-Unwritten.ensures, c.text-in-Unwritten.ensures) at c.write_line-in-Unwritten.ensures)

pub returns-in-FewNumbers : goal.returns-in-FewNumbers
unfolding event_text
returns-in-FewNumbers c =
    rw c.in-FewNumbers.is
    (rw (c.number-in-FewNumbers.ensures, c.number-in-FewNumbers-2.ensures) at c.write_few.ensures)

pub returns-in-FewWorkers : goal.returns-in-FewWorkers
unfolding event_text
returns-in-FewWorkers c =
    rw c.in-FewWorkers.is
    (rw (c.number-in-FewWorkers.ensures, c.number-in-FewWorkers-2.ensures)
    at c.write_few-in-FewWorkers.ensures)
