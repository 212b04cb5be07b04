use Rattle.std.proofs.Common.{◌≡◌, ◌∙◌, ℕ, [], ◌∷◌, ap, replicate}
use Rattle.std.specs.Arc.{arc_value}
use Rattle.hd_rules.specs.Facts.{AreInRange}
use Rattle.hd_catalogue.specs.Contents.{Contents, facts_of}
use Rattle.hd_holds.specs.Held.{patron_hold}
use Rattle.hd_holds.specs.Places.{kept}
use Rattle.hd_holds.proofs.Listed.{listed_none}
use Rattle.hd_holds.proofs.Placed.{none-first, placed-first}
use Rattle.hd_holds.proofs.Queues.{held-empty}
use Rattle.hd_holds.proofs.holds.Holds.open.Goals as goal

pub invariant_of-result : goal.invariant_of-result
invariant_of-result g c =
    let titles : c.titles.result ≡ (facts_of (arc_value c.args.catalogue)).titles =
    c.titles.ensures.count ∙ ap (λ (k : Contents). (facts_of k).titles) c.deref.ensures in
    let range : AreInRange (facts_of (arc_value c.args.catalogue)) =
    rw c.deref.ensures at c.titles.ensures.facts in
    let places : c.in_ok-places.places.items ≡ replicate (facts_of (arc_value c.args.catalogue)).titles 0 =
    c.in_ok-places.ensures.items_if_clones_equal (λ y e. e) ∙ ap (λ (n : ℕ). replicate n 0) titles in
    let queues : c.push.new.self.items ≡ c.new.result ∷ [] =
    rw c.new-queues.ensures.items at c.in_ok-push.ensures.items in
    let made = kept (arc_value c.args.catalogue) c.in_ok-places.places.items c.push.new.self.items
    c.in_ok-held.held.room in (
      rw (places, queues) (placed-first (facts_of (arc_value c.args.catalogue)) c.new.result range
          c.new.ensures),
      listed_none c.in_ok-held.held (patron_hold made)
          (held-empty made (λ t. rw (c.in_ok-places.ensures.items_if_clones_equal (λ y e. e))
          (none-first c.push.new.self.items c.titles.result t)))
          c.in_ok-held.ensures,
    )

pub returns-clause-none : goal.returns-clause-none
returns-clause-none g c =
    held-empty (kept (arc_value c.args.catalogue) c.in_ok-places.places.items c.push.new.self.items
    c.in_ok-held.held.room)
    (λ t. rw (c.in_ok-places.ensures.items_if_clones_equal (λ y e. e))
    (none-first c.push.new.self.items c.titles.result t))
