use Rattle.std.proofs.Common.{◌≡◌, ◌∙◌, arith, ap, sym, subst}
use Rattle.std.specs.List.{insert}
use Rattle.std.specs.Prelude.{◌↔◌, ◌⊎◌}
use Rattle.std.specs.List.{Contains}
use Rattle.std.proofs.lemmas.Grind.{common_steps}
use Rattle.hd_holds.specs.HeldListsValue.{HeldListValue}
use Rattle.hd_holds.specs.HeldTitles.{IsRising}
use Rattle.hd_holds.proofs.Rising.{put_rises, put_there}
use Rattle.hd_holds.proofs.held_list.HeldList.put.Goals as goal

pub invariant_of-self : goal.invariant_of-self
invariant_of-self g c =
    let xs = c.self.inside.titles.items in
    let at = c.number_before-at.result in
    let items : c.insert.new.self.items ≡ insert xs at c.args.held.now = grind (arith, common_steps) in
    rw items (put_rises xs at c.args.held.now c.self.invariant
    (rw c.deref.ensures.value at c.number_before-at.ensures.before) c.stands_at.result
    c.if-not-stands_at.true (rw c.deref-2.ensures.value at c.stands_at.ensures))

pub returns-then-not-stands_at-clause-each : goal.returns-then-not-stands_at-clause-each
returns-then-not-stands_at-clause-each g c =
    let xs = c.self.inside.titles.items in
    let at = c.number_before-at.result in
    let held = c.args.held.now in
    let items : c.insert.new.self.items ≡ insert xs at held = grind (arith, common_steps) in
    let same : xs ≡ c.args.self.now.titles = ap (λ (l : HeldListValue). l.titles) c.self.view_is in
    λ x. rw (items, ← same)
    (put_there xs at held c.self.invariant (rw c.deref.ensures.value at c.number_before-at.ensures.before) x)
