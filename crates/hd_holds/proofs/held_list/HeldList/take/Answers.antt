use Rattle.std.proofs.Common.{◌≡◌, ap}
use Rattle.hd_holds.specs.HeldListsValue.{HeldListValue}
use Rattle.hd_holds.proofs.Rising.{absent, taken, taken_rises}
use Rattle.hd_holds.proofs.held_list.HeldList.take.Goals as goal

pub invariant_of-self : goal.invariant_of-self
invariant_of-self g c =
    rw c.remove.ensures.items
    (taken_rises c.self.inside.titles.items c.number_before-at.result c.args.held.now c.self.invariant
    (rw c.deref.ensures.value at c.number_before-at.ensures.before) c.stands_at.result c.if-stands_at.true
    (rw c.deref-2.ensures.value at c.stands_at.ensures))

pub returns-then-stands_at-clause-each : goal.returns-then-stands_at-clause-each
returns-then-stands_at-clause-each g c =
    let xs = c.self.inside.titles.items in
    let same : xs ≡ c.args.self.now.titles = ap (λ (l : HeldListValue). l.titles) c.self.view_is in
    λ x. rw (c.remove.ensures.items, ← same)
    (taken xs c.number_before-at.result c.args.held.now c.self.invariant
    (rw c.deref.ensures.value at c.number_before-at.ensures.before) c.stands_at.result c.if-stands_at.true
    (rw c.deref-2.ensures.value at c.stands_at.ensures) x)

pub returns-else-stands_at-clause-each : goal.returns-else-stands_at-clause-each
returns-else-stands_at-clause-each g c =
    let xs = c.self.inside.titles.items in
    let same : xs ≡ c.args.self.now.titles = ap (λ (l : HeldListValue). l.titles) c.self.view_is in
    λ x. rw (← same) (absent xs c.number_before-at.result c.args.held.now c.self.invariant
    (rw c.deref.ensures.value at c.number_before-at.ensures.before) c.stands_at.result c.if-stands_at.false
    (rw c.deref-2.ensures.value at c.stands_at.ensures) x)
