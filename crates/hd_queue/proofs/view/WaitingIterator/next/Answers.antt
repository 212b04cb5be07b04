use Rattle.std.proofs.Common.{◌≡◌, ◌∙◌, arith, filter}
use Rattle.std.proofs.lemmas.Grind.{common_steps}
use Rattle.hd_queue.specs.Wanted.{wants_at}
use Rattle.hd_queue.proofs.view.WaitingIterator.next.Goals as goal

pub loop-hold-init : goal.loop-hold-init
loop-hold-init g c = c.pass_over.ensures.kept c.self.inside.wanted ∙ c.self.view_is

pub loop-hold-preserved : goal.loop-hold-preserved
loop-hold-preserved g c =
    let inside = c.loop-hold.self-inside in
    let left : filter (wants_at inside.wanted inside.pickup) c.next.new.self ≡ c.args.self.now =
    grind (
      arith,
      common_steps,
      c.loop-hold.invariant,
      c.in-Some.ensures.steps,
      c.admits_at.ensures,
      c.if-admits_at.false,
    ) in
    c.pass_over-in-Some.ensures.kept inside.wanted ∙ left
