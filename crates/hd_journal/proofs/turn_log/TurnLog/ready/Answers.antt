use Rattle.std.proofs.Common.{◌∙◌, ap, refl}
use Rattle.hd_journal.specs.TurnLog.{kept_by}
use Rattle.hd_journal.proofs.KeptLines.{kept_same, turns_same}
use Rattle.hd_journal.proofs.turn_log.TurnLog.ready.Goals as goal

pub invariant_of-self : goal.invariant_of-self
invariant_of-self g c = turns_same _ _ _ _ c.ready.ensures.items (λ t. refl) c.self.invariant

pub invariant_of-self-2 : goal.invariant_of-self-2
invariant_of-self-2 g c = turns_same _ _ _ _ c.ready.ensures.items c.reach.ensures.same c.self.invariant

pub returns-clause-kept : goal.returns-clause-kept
returns-clause-kept g c =
    kept_same _ _ _ _ c.ready.ensures.items c.reach.ensures.same ∙ ap kept_by c.self.view_is
