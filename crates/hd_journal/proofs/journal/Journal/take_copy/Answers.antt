use Rattle.std.proofs.Common.{sym, subst, IfOk}
use Rattle.hd_rules.specs.Messages.{SeatMessage, IsKnownMessage}
use Rattle.hd_journal.specs.Books.{AddsTurn, facts}
use Rattle.hd_journal.proofs.Keeping.{still_book}
use Rattle.hd_journal.proofs.journal.Journal.take_copy.Goals as goal
use Rattle.hd_lemmas.proofs.Results.{on_err}

pub returns-in_err-own-clause-err : goal.returns-in_err-own-clause-err
returns-in_err-own-clause-err g c = on_err _ _ (still_book c.args.self.now)

pub take-requires : goal.take-requires
take-requires g c =
    subst (λ (x : SeatMessage). IsKnownMessage (facts c.args.self.now) x.message)
    (sym c.in_ok-own.ensures.same) c.requires

pub returns-clause-turn : goal.returns-clause-turn
returns-clause-turn g c =
    subst (λ (x : SeatMessage). IfOk c.take.result
    (AddsTurn c.args.self.now c.take.new.self x.seat x.message))
    c.in_ok-own.ensures.same c.take.ensures.turn
