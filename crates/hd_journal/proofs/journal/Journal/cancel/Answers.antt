use Rattle.std.proofs.Common.{sym, subst, IfOk}
use Rattle.hd_rules.specs.Messages.{SeatMessage, IsKnownMessage}
use Rattle.hd_journal.specs.Books.{AddsTurn, facts}
use Rattle.hd_journal.proofs.journal.Journal.cancel.Goals as goal

pub take_copy-requires : goal.take_copy-requires
take_copy-requires g c =
    subst (λ (x : SeatMessage). IsKnownMessage (facts c.args.self.now) x.message) (sym c.new.ensures)
    (c.requires.terminal, c.requires.known)

pub returns-clause-turn : goal.returns-clause-turn
returns-clause-turn g c =
    subst (λ (x : SeatMessage). IfOk c.take_copy.result
    (AddsTurn c.args.self.now c.take_copy.new.self x.seat x.message))
    c.new.ensures c.take_copy.ensures.turn
