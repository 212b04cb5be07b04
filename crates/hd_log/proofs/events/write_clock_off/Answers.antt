use Rattle.hd_log.proofs.events.write_clock_off.Goals as goal

pub returns : goal.returns
returns c =
    rw (c.named.ensures, c.text.ensures, c.text-2.ensures, c.number.ensures) at c.write_line.ensures
