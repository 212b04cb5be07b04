use Rattle.hd_message.proofs.DueLemmas.{printed_is}
use Rattle.hd_message.proofs.days.day_text.Goals as goal

-- the date of the day is the one that is printed
pub returns : goal.returns
returns c =
    printed_is (record { last = c.days_are_dates.ensures.last; one_date = c.days_are_dates.ensures.one_date })
    c.args.day.now
    c.print_due.result c.print_due.ensures
