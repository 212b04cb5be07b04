use Rattle.std.proofs.Common.{◌∙◌, ap, arith}
use Rattle.std.proofs.lemmas.List.{take_all}
use Rattle.hd_rules.specs.Same.{real_changes}
use Rattle.hd_desk.proofs.Making.{picked-start, picked-one, picked-none}
use Rattle.hd_desk.proofs.accepted.put_real_changes.Goals.{then-is_real, else-is_real}
use Rattle.hd_desk.proofs.accepted.put_real_changes.Goals as goal

pub push-requires : goal.push-requires
push-requires c = omega (arith, c.loop-change.invariant.few, c.loop-change-test.true, c.requires.few)

pub loop-change-init : goal.loop-change-init
loop-change-init c = picked-start c.args.changes.now c.args.footprint.now c.requires.empty

pub loop-change-preserved : goal.loop-change-preserved
loop-change-preserved c = elim c.if-is_real.branch [
  | then-is_real w ↦ picked-one c.args.changes.now c.loop-change.change-index c.loop-change.footprint _
      c.change-item.result _
      c.loop-change.invariant c.loop-change-test.true c.change-item.is c.is_real.ensures w.if-is_real.true
      (w.footprint-is ∙ w.push.ensures)
  | else-is_real w ↦ picked-none c.args.changes.now c.loop-change.change-index c.loop-change.footprint _
      c.change-item.result _
      c.loop-change.invariant c.loop-change-test.true c.change-item.is c.is_real.ensures w.if-is_real.false
      w.footprint-is
]

pub returns : goal.returns
returns c = c.loop-change.invariant.are
    ∙ ap real_changes (take_all c.loop-change.change-index c.args.changes.now (omega arith))
