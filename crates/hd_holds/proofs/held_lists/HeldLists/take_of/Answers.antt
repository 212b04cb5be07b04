use Rattle.std.proofs.Common.{◌≡◌, ◌≢◌, ◌↔◌, ◌⊎◌, Option, subst, sym}
use Rattle.hd_rules.specs.declared.holds.Hold.{Hold}
use Rattle.hd_holds.specs.declared.held_title.HeldTitle.{HeldTitle}
use Rattle.hd_holds.specs.HeldListsValue.{IsListed}
use Rattle.hd_holds.specs.HeldTitles.{IsOf}
use Rattle.hd_holds.proofs.held_lists.HeldLists.take_of.Goals as goal

pub returns-in-Some-clause-each : goal.returns-in-Some-clause-each
returns-in-Some-clause-each g c =
    λ x. subst (λ (o : Option Hold). IsListed c.take.new.self x ↔
    ((IsOf c.args.title o x → ⊥) × IsListed c.args.self.now x)) (sym c.in-Some.is)
    (subst (λ (y : HeldTitle). IsListed c.take.new.self x ↔ ((x ≢ y) × IsListed c.args.self.now x))
    c.of_hold.ensures (c.take.ensures.each x))
