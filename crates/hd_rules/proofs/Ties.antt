-- Holds and the copies that they have stay in step.
use Rattle.std.proofs.Common.{ℕ, ◌≡◌, refl, sym, ◌∙◌, ap, subst, Bool, true, false, ◌==◌, cond, Option, Some}
use Rattle.std.proofs.Common.{None}
use Rattle.hd_rules.specs.Words.{Hold, CopyState, Shelf, OnLoan, OnHoldShelf, InTransit, CopyCell, HoldCell}
use Rattle.hd_rules.specs.Words.{CopyHas, HoldHas}
use Rattle.hd_rules.specs.Facts.{Facts}
use Rattle.hd_rules.specs.Desk.{Desk, put}
use Rattle.hd_rules.specs.Settle.{with_copy}
use Rattle.hd_rules.specs.Sound.{Has, Tied, Tie}
use Rattle.hd_rules.proofs.Puts.{copy_cases, hold_cases, other_hold}
use Rattle.hd_rules.proofs.Tests.{number_is, number_not, other_number}

-- no hold, or one without a copy
abbrev pub Bare : Option Hold → Type 0
Bare None = Unit {0}
Bare (Some h) = h.copy ≡ None

abbrev pub Untied : CopyState → Type 0
Untied s = (p : ℕ) (b : ℕ) → Tied s p b → ⊥

pub bare_has : (o : Option Hold) (c : ℕ) (b : ℕ) → Bare o → Has o c b → ⊥
bare_has None c b bare h = h
bare_has (Some g) c b bare h = let e : None ≡ Some c = sym bare ∙ h.0 in cc

pub has_one : (o : Option Hold) (c x : ℕ) (a b : ℕ) → Has o c a → Has o x b → c ≡ x
has_one None c x a b h g = absurd h
has_one (Some o) c x a b h g = let e : Some c ≡ Some x = sym h.0 ∙ g.0 in cc

pub tied_one : (s : CopyState) (p q : ℕ) (a b : ℕ) → Tied s p a → Tied s q b → p ≡ q
tied_one (Shelf x) p q a b h g = absurd h
tied_one (OnLoan l) p q a b h g = absurd h
tied_one (OnHoldShelf s) p q a b h g = sym h.0 ∙ g.0
tied_one (InTransit t) p q a b h g = let e : Some p ≡ Some q = sym h.0 ∙ g.0 in cc

pub tied_there : (s : CopyState) (p q : ℕ) (a b : ℕ) → Tied s p a → Tied s q b → a ≡ b
tied_there (Shelf x) p q a b h g = absurd h
tied_there (OnLoan l) p q a b h g = absurd h
tied_there (OnHoldShelf s) p q a b h g = sym h.1 ∙ g.1
tied_there (InTransit t) p q a b h g = sym h.1 ∙ g.1

pub tied_as : (s : CopyState) (p q : ℕ) (a b : ℕ) → p ≡ q → a ≡ b → Tied s p a → Tied s q b
tied_as s p q a b e f h = subst (λ (x : ℕ). Tied s x b) e (subst (λ (y : ℕ). Tied s p y) f h)

tied_copy : (d : Desk) (c x : ℕ) (p : ℕ) (b : ℕ) → c ≡ x → Tied (d.copy c) p b → Tied (d.copy x) p b
tied_copy d c x p b e h = subst (λ (y : ℕ). Tied (d.copy y) p b) e h

has_at : (d : Desk) (t u : ℕ) (p q : ℕ) (c : ℕ) (b : ℕ) → t ≡ u → p ≡ q → Has (d.hold t p) c b
    → Has (d.hold u q) c b
has_at d t u p q c b e f h =
    subst (λ (v : ℕ). Has (d.hold v q) c b) e (subst (λ (r : ℕ). Has (d.hold t r) c b) f h)

-- No hold has the copy c; all others are in step, whatever c is.
pub record Loose (k : Facts) (c : ℕ) (d : Desk) : Type 0 where
  pub tied : (t : ℕ) (p : ℕ) (x : ℕ) (b : ℕ) → Has (d.hold t p) x b
      → ((c == x) ≡ false) × (k.title_of x ≡ t) × Tied (d.copy x) p b
  pub has : (p : ℕ) (x : ℕ) (b : ℕ) → (c == x) ≡ false → Tied (d.copy x) p b
      → Has (d.hold (k.title_of x) p) x b

-- a copy that is tied to nobody is loose
pub loose_untied : (k : Facts) (c : ℕ) (d : Desk) → Tie k d → Untied (d.copy c) → Loose k c d
loose_untied k c d tie free = record {
  tied = λ t p x b h. let r : (k.title_of x ≡ t) × Tied (d.copy x) p b = tie.tied t p x b h in
      (other_number c x (λ e. free p b (tied_copy d x c p b (sym e) r.1)), r.0, r.1);
  has = λ p x b other h. tie.has p x b h;
}

-- a hold without a copy ends, begins or changes
pub tie_edit : (k : Facts) (d : Desk) (t : ℕ) (p : ℕ) (o : Option Hold) → Tie k d → Bare (d.hold t p) → Bare o
    → Tie k (put d (HoldCell t p) (HoldHas o))
tie_edit k d t p o tie was is = record {
  tied =
      λ u q x b. hold_cases (λ v. Has v x b → (k.title_of x ≡ u) × Tied (d.copy x) q b) t u p q o (d.hold u q)
      (λ e f h. absurd (bare_has o x b is h)) (λ other h. tie.tied u q x b h);
  has = λ q x b h. hold_cases (λ v. Has v x b) t (k.title_of x) p q o (d.hold (k.title_of x) q)
      (λ e f. absurd (bare_has (d.hold t p) x b was
      (has_at d (k.title_of x) t q p x b (sym e) (sym f) (tie.has q x b h))))
      (λ other. tie.has q x b h);
}

pub loose_edit : (k : Facts) (c : ℕ) (d : Desk) (t : ℕ) (p : ℕ) (o : Option Hold) → Loose k c d
    → Bare (d.hold t p) → Bare o → Loose k c (put d (HoldCell t p) (HoldHas o))
loose_edit k c d t p o loose was is = record {
  tied = λ u q x b. hold_cases
      (λ v. Has v x b → ((c == x) ≡ false) × (k.title_of x ≡ u) × Tied (d.copy x) q b) t u p q o (d.hold u q)
      (λ e f h. absurd (bare_has o x b is h)) (λ other h. loose.tied u q x b h);
  has = λ q x b apart h. hold_cases (λ v. Has v x b) t (k.title_of x) p q o (d.hold (k.title_of x) q)
      (λ e f. absurd (bare_has (d.hold t p) x b was
      (has_at d (k.title_of x) t q p x b (sym e) (sym f) (loose.has q x b apart h))))
      (λ other. loose.has q x b apart h);
}

-- the hold that has the copy ends, or goes on without it
pub loosen : (k : Facts) (c : ℕ) (d : Desk) (t : ℕ) (p : ℕ) (a : ℕ) (o : Option Hold) → Tie k d
    → Has (d.hold t p) c a → Bare o → Loose k c (put d (HoldCell t p) (HoldHas o))
loosen k c d t p a o tie had is = record {
  tied = λ u q x b. hold_cases
      (λ v. Has v x b → ((c == x) ≡ false) × (k.title_of x ≡ u) × Tied (d.copy x) q b) t u p q o (d.hold u q)
      (λ e f h. absurd (bare_has o x b is h))
      (λ other h.
      let r : (k.title_of x ≡ u) × Tied (d.copy x) q b = tie.tied u q x b h in
      let s : (k.title_of c ≡ t) × Tied (d.copy c) p a = tie.tied t p c a had in (
        other_number c x (λ e. other_hold t u p q other
            (sym s.0 ∙ ap k.title_of e ∙ r.0)
            (tied_one (d.copy x) p q a b (tied_copy d c x p a e s.1) r.1)),
        r.0,
        r.1,
      ));
  has = λ q x b apart h. hold_cases (λ v. Has v x b) t (k.title_of x) p q o (d.hold (k.title_of x) q)
      (λ e f. absurd
      (number_not c x apart (has_one (d.hold t p) c x a b had
      (has_at d (k.title_of x) t q p x b (sym e) (sym f) (tie.has q x b h)))))
      (λ other. tie.has q x b h);
}

-- a loose copy may go anywhere
pub loose_copy : (k : Facts) (c : ℕ) (d : Desk) (s : CopyState) → Loose k c d
    → Loose k c (put d (CopyCell c) (CopyHas s))
loose_copy k c d s loose = record {
  tied = λ t p x b h.
      let r : ((c == x) ≡ false) × (k.title_of x ≡ t) × Tied (d.copy x) p b = loose.tied t p x b h in (
        r.0,
        r.1,
        copy_cases (λ v. Tied v p b) c x s (d.copy x) (λ e. absurd (number_not c x r.0 e)) (λ other. r.2),
      );
  has = λ p x b apart h. loose.has p x b apart (subst (λ t. Tied (cond t s (d.copy x)) p b) apart h);
}

-- a loose copy that is tied to nobody is in step
pub close : (k : Facts) (c : ℕ) (d : Desk) → Loose k c d → Untied (d.copy c) → Tie k d
close k c d loose free = record {
  tied = λ t p x b h. let r : ((c == x) ≡ false) × (k.title_of x ≡ t) × Tied (d.copy x) p b =
      loose.tied t p x b h in (r.1, r.2);
  has = λ p x b h. loose.has p x b (other_number c x (λ e. free p b (tied_copy d x c p b (sym e) h))) h;
}

-- a loose copy that is tied to a hold's patron is given to that hold
pub give : (k : Facts) (c : ℕ) (d : Desk) (q : ℕ) (h : Hold) → Loose k c d
    → d.hold (k.title_of c) q ≡ Some h → h.copy ≡ None → Tied (d.copy c) q h.pickup
    → Tie k (put d (HoldCell (k.title_of c) q) (HoldHas (Some (with_copy (Some c) h))))
give k c d q h loose was none to = record {
  tied = λ u r x b. hold_cases (λ v. Has v x b
      → (k.title_of x ≡ u) × Tied (d.copy x) r b) (k.title_of c) u q r (Some (with_copy (Some c) h))
      (d.hold u r)
      (λ e f has. let same : c ≡ x = some_one c x has.0 in
      (ap k.title_of (sym same) ∙ e, tied_copy d c x r b same (tied_as (d.copy c) q r h.pickup b f has.1 to)))
      (λ other has. let s : ((c == x) ≡ false) × (k.title_of x ≡ u) × Tied (d.copy x) r b =
      loose.tied u r x b has in (s.1, s.2));
  has = λ r x b tied. hold_cases (λ v. Has v x b) (k.title_of c) (k.title_of x) q r
      (Some (with_copy (Some c) h)) (d.hold (k.title_of x) r)
      (λ e f. here r x b tied e f (c == x) refl)
      (λ other. loose.has r x b
      (other_number c x (λ e. other_hold (k.title_of c) (k.title_of x) q r other (ap k.title_of e)
      (tied_one (d.copy c) q r h.pickup b to (tied_copy d x c r b (sym e) tied)))) tied);
}
  where
    some_one : (c x : ℕ) → (let s : Option ℕ = Some c in s ≡ Some x) → c ≡ x
    some_one c x e = cc

    bare : Bare (d.hold (k.title_of c) q)
    bare = subst Bare (sym was) none

    here : (r : ℕ) (x : ℕ) (b : ℕ) → Tied (d.copy x) r b → k.title_of c ≡ k.title_of x → q ≡ r → (t : Bool)
        → (c == x) ≡ t → Has (Some (with_copy (Some c) h)) x b
    here r x b tied e f true is =
        let same : c ≡ x = number_is c x is in (
          ap (λ (y : ℕ). Some y) same,
          tied_there (d.copy c) q r h.pickup b to (tied_copy d x c r b (sym same) tied),
        )
    here r x b tied e f false is =
        absurd (bare_has (d.hold (k.title_of c) q) x b bare
        (has_at d (k.title_of x) (k.title_of c) r q x b (sym e) (sym f) (loose.has r x b is tied)))

-- a copy moves, tied as before
pub tie_move : (k : Facts) (c : ℕ) (d : Desk) (s : CopyState)
    → Tie k d → ((p : ℕ) (b : ℕ) → Tied s p b → Tied (d.copy c) p b)
    → ((p : ℕ) (b : ℕ) → Tied (d.copy c) p b → Tied s p b) → Tie k (put d (CopyCell c) (CopyHas s))
tie_move k c d s tie back on = record {
  tied = λ t p x b h. let r : (k.title_of x ≡ t) × Tied (d.copy x) p b = tie.tied t p x b h in (
    r.0,
    copy_cases (λ v. Tied v p b) c x s (d.copy x) (λ e. on p b (tied_copy d x c p b (sym e) r.1))
        (λ other. r.1),
  );
  has = λ p x b. copy_cases (λ v. Tied v p b → Has (d.hold (k.title_of x) p) x b) c x s (d.copy x)
      (λ e h. tie.has p x b (tied_copy d c x p b e (back p b h))) (λ other h. tie.has p x b h);
}
