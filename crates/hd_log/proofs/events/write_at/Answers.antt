use Rattle.hd_log.proofs.events.write_at.Goals as goal

pub returns-in-LoggedIn : goal.returns-in-LoggedIn
returns-in-LoggedIn c =
    rw c.in-LoggedIn.is (rw (c.named.ensures, c.text.ensures) at c.write_line.ensures)
