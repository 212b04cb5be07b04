-- What is listed where a patron's hold of a title becomes another, or ends.
use Rattle.std.proofs.Common.{◌≡◌, ℕ, ◌==◌, ◌&&◌, Bool, true, false, cond, Option, None, Some, refl, ap, sym}
use Rattle.std.proofs.Common.{◌∙◌, inl, inr, ◌⊎◌, eq-eqb}
use Rattle.std.specs.Prelude.{◌↔◌}
use Rattle.std.proofs.lemmas.Bool.{eqb-true, false≢true}
use Rattle.hd_rules.specs.declared.holds.Hold.{Hold}
use Rattle.hd_holds.specs.declared.held_title.HeldTitle.{HeldTitle}
use Rattle.hd_holds.specs.HeldListsValue.{AreListed, HeldListsValue, IsListed}
use Rattle.hd_holds.specs.HeldTitles.{AreHeldBy, IsHeld, IsOf, held_title}
use Rattle.hd_holds.proofs.Rising.{same_fields}

of_hold : (t : ℕ) (o : Option Hold) (x : HeldTitle) → IsOf t o x
    → (h : Hold) × (o ≡ Some h) × (x ≡ held_title t h)
of_hold t None x is = absurd is
of_hold t (Some h) x is = (h, refl, is)

is_of : (t : ℕ) (o : Option Hold) (x : HeldTitle) (h : Hold) → o ≡ Some h → x ≡ held_title t h → IsOf t o x
is_of t None x h some is = absurd (let no : ⊥ = cc in no)
is_of t (Some g) x h some is = is ∙ ap (held_title t) (let same : h ≡ g = cc in same)

-- one that is listed for a hold is of its title and its patron
of_own : (t p : ℕ) (o : Option Hold) (x : HeldTitle) → ((h : Hold) → o ≡ Some h → h.patron ≡ p) → IsOf t o x
    → (t ≡ x.title) × (p ≡ x.patron)
of_own t p o x own is =
    let one = of_hold t o x is in (
      sym (ap (λ (y : HeldTitle). y.title) one.2),
      sym
          (ap (λ (y : HeldTitle). y.patron) one.2 ∙ own one.0 one.1),
    )

-- a patron's hold of a title, that was one and now is another, or none
module _ (v u w : HeldListsValue) (t p : ℕ) (was now : Option Hold) (holds new : ℕ → ℕ → Option Hold)
    (listed : AreListed v holds)
    (is : was ≡ holds t p) (own_was : (h : Hold) → was ≡ Some h → h.patron ≡ p)
    (own_now : (h : Hold) → now ≡ Some h → h.patron ≡ p)
    (taken : (x : HeldTitle) → IsListed u x ↔ ((IsOf t was x → ⊥) × IsListed v x))
    (put : (x : HeldTitle) → IsListed w x ↔ (IsOf t now x ⊎ IsListed u x)) where
  its : (o : Option Hold) (x : HeldTitle) (h : Hold) → t ≡ x.title → p ≡ x.patron
      → ((g : Hold) → o ≡ Some g → g.patron ≡ p) → o ≡ Some h →
      h.stamp ≡ x.stamp → IsOf t o x
  its o x h title patron own some stamp =
      is_of t o x h some (same_fields x (held_title t h) (sym (own h some ∙ patron)) (sym stamp) (sym title))

  here : (x : HeldTitle) → t ≡ x.title → p ≡ x.patron → new x.title x.patron ≡ now
      → IsListed w x ↔ IsHeld new x
  here x title patron e = (
    λ has. from ((put x).0 has),
    λ held. (put x).1 (inl (its now x held.0 title patron own_now (sym e ∙ held.1) held.2)),
  )
    where
      from : IsOf t now x ⊎ IsListed u x → IsHeld new x
      from (inl of) = let one = of_hold t now x of in
          (one.0, e ∙ one.1, sym (ap (λ (y : HeldTitle). y.stamp) one.2))
      from (inr there) =
          let left = (taken x).0 there in
          let held = (listed x).0 left.1 in
          let some : was ≡ Some held.0 = is ∙ (λ i. holds (title i) (patron i)) ∙ held.1 in
          absurd (left.0 (its was x held.0 title patron own_was some held.2))

  away : (x : HeldTitle) → (t ≡ x.title → p ≡ x.patron → ⊥) → new x.title x.patron ≡ holds x.title x.patron
      → IsListed w x ↔ IsHeld new x
  away x other e = (
    λ has. from ((put x).0 has),
    λ held. (put x).1 (inr ((taken x).1 (
      (λ of. let own = of_own t p was x own_was of in other own.0 own.1),
      (listed x).1 (held.0, sym e ∙ held.1, held.2),
    ))),
  )
    where
      from : IsOf t now x ⊎ IsListed u x → IsHeld new x
      from (inl of) = let own = of_own t p now x own_now of in absurd (other own.0 own.1)
      from (inr there) = let held = (listed x).0 ((taken x).0 there).1 in (held.0, e ∙ held.1, held.2)

  pub listed_put : new ≡ (λ a q. cond ((t == a) && (p == q)) now (holds a q)) → AreListed w new
  listed_put e x = by_cell (t == x.title) (p == x.patron) refl refl (λ i. e i x.title x.patron)
    where
      by_cell : (b d : Bool) → (t == x.title) ≡ b → (p == x.patron) ≡ d → new x.title x.patron
          ≡ cond (b && d) now (holds x.title x.patron) →
          IsListed w x ↔ IsHeld new x
      by_cell true true b d cell = here x (eqb-true t x.title b) (eqb-true p x.patron d) cell
      by_cell true false b d cell =
          away x (λ title patron. false≢true (sym d ∙ eq-eqb p x.patron patron)) cell
      by_cell false d b same cell = away x (λ title patron. false≢true (sym b ∙ eq-eqb t x.title title)) cell

-- nothing is listed where nothing is held
pub listed_none : (v : HeldListsValue) (holds : ℕ → ℕ → Option Hold) → holds ≡ (λ t p. None)
    → ((x : HeldTitle) → IsListed v x → ⊥) → AreListed v holds
listed_none v holds none empty x = (
  λ has. absurd (empty x has),
  λ held. let nothing : holds x.title x.patron ≡ None = (λ i. none i x.title x.patron) in
      let some : holds x.title x.patron ≡ Some held.0 = held.1 in
      absurd (let no : ⊥ = cc in no),
)

-- what is listed of a patron is what the patron holds
pub held_by : (v : HeldListsValue) (holds : ℕ → ℕ → Option Hold) (p : ℕ) (x : HeldTitle) → AreListed v holds →
    ((x.patron ≡ p) × IsListed v x) ↔ ((x.patron ≡ p) × IsHeld holds x)
held_by v holds p x listed = (λ one. (one.0, (listed x).0 one.1), λ one. (one.0, (listed x).1 one.1))
