use Rattle.std.proofs.Common.{◌≡◌, ◌<◌, ℕ, Some, ap, subst}
use Rattle.std.specs.Arc.{arc_value}
use Rattle.std.specs.List.{Contains}
use Rattle.std.proofs.lemmas.List.Elements.{All-contains_itself, All-weaker, recursion_from_All}
use Rattle.hd_rules.specs.declared.holds.Hold.{Hold}
use Rattle.hd_holds.specs.declared.held_title.HeldTitle.{HeldTitle}
use Rattle.hd_holds.specs.Held.{facts, patron_hold}
use Rattle.hd_holds.specs.HeldListsValue.{AreListed}
use Rattle.hd_holds.specs.HoldsValue.{HoldsValue}
use Rattle.hd_holds.specs.Places.{kept}
use Rattle.hd_holds.proofs.Listed.{held_by}
use Rattle.hd_holds.proofs.Queues.{held-within}
use Rattle.hd_holds.proofs.holds.Holds.of_patron.Goals as goal

pub returns-clause-titles : goal.returns-clause-titles
returns-clause-titles g c =
    let listed = subst (AreListed c.self.inside.held) (ap patron_hold c.self.view_is) c.self.invariant.1 in
    record {
      each = λ x. (
        λ has. (held_by c.self.inside.held (patron_hold c.args.self.now) c.args.patron x listed).0
            ((c.of.ensures.each x).0 has),
        λ held. (c.of.ensures.each x).1
            ((held_by c.self.inside.held (patron_hold c.args.self.now) c.args.patron x listed).1 held),
      );
      rising = c.of.ensures.rising;
    }

pub returns-clause-known : goal.returns-clause-known
returns-clause-known g c =
    let within = subst (λ (v : HoldsValue). (t p : ℕ) (h : Hold) → patron_hold v t p ≡ Some h
    → t < (facts v).titles) c.self.view_is
    (held-within (kept (arc_value c.self.inside.catalogue) c.self.inside.places.items
    c.self.inside.queues.items c.self.inside.held.room)
    c.self.invariant.0.titles) in
    let titles = c.of.result.now in
    let all = returns-clause-titles g c in
    recursion_from_All (λ (x : HeldTitle). x.title < (facts c.args.self.now).titles) titles
    (All-weaker (Contains titles) (λ (x : HeldTitle). x.title < (facts c.args.self.now).titles)
    (λ x has. let held = ((all.each x).0 has).1 in within x.title x.patron held.0 held.1) titles
    (All-contains_itself titles))
