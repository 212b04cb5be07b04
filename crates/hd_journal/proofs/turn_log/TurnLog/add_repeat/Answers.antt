use Rattle.std.proofs.Common.{◌∙◌, ap, sym, subst, List}
use Rattle.hd_rules.specs.Journal.{Turn}
use Rattle.hd_journal.specs.TurnLog.{kept_in, kept_by, AreTurns}
use Rattle.hd_journal.proofs.KeptLines.{kept_after_repeat, turns_after_repeat}
use Rattle.hd_journal.proofs.turn_log.TurnLog.add_repeat.Goals as goal

pub invariant_of-self : goal.invariant_of-self
invariant_of-self g c =
    subst (λ (xs : List Turn). AreTurns xs c.self.inside.places.items) (sym c.push.ensures.items)
    (turns_after_repeat _ _ _ c.self.invariant)

pub returns-clause-kept : goal.returns-clause-kept
returns-clause-kept g c =
    ap (λ (xs : List Turn). kept_in xs c.self.inside.places.items) c.push.ensures.items
    ∙ kept_after_repeat _ _ _ c.self.invariant
    ∙ ap kept_by c.self.view_is
