-- How commands end: which changes they are accepted with, and why the desk is sound after them.
use Rattle.std.proofs.Common.{arith, ◌≡◌, refl, sym, ap, subst, ℕ, ◌+◌, ◌≤◌, ◌==◌, cond, [], ◌∷◌, Option}
use Rattle.std.proofs.Common.{Some, None, inl, inr}
use Rattle.hd_rules.specs.Words.{Hold, HoldPlace, Loan, CopyState, OnLoan, OnHoldShelf, CopyCell, HoldCell}
use Rattle.hd_rules.specs.Words.{CopyHas, HoldHas, Reply}
use Rattle.hd_rules.specs.Facts.{Facts}
use Rattle.hd_rules.specs.Desk.{Desk, put}
use Rattle.hd_rules.specs.Settle.{copy_becomes, hold_becomes, with_copy}
use Rattle.hd_rules.specs.Step.{accept}
use Rattle.hd_rules.specs.Sound.{Tied, HoldsFit, PlacesFit, Sound}
use Rattle.hd_rules.proofs.Puts.{copy_cases}
use Rattle.hd_rules.proofs.Ties.{Bare, Untied, Loose, loose_copy, close, give}
use Rattle.hd_rules.proofs.Fits.{Follows, follows_with, holds_put, holds_later, Welcome, places_put}
use Rattle.hd_rules.proofs.Leads.{Leads, accepted}
use Rattle.hd_rules.proofs.Tests.{number_not}

pub next : (n : ℕ) (f : ℕ → ℕ → Option Hold) → HoldsFit n f → HoldsFit (n + 1) f
next n f fit = holds_later n (n + 1) f (let le : n ≤ n + 1 = omega arith in le) fit

pub accepted_copy : (k : Facts) (n m : ℕ) (d : Desk) (c : ℕ) (old new : CopyState) (r : Reply)
    → d.copy c ≡ old → Sound k m (put d (CopyCell c) (CopyHas new))
    → Leads k m d (accept k n (copy_becomes c old new ∷ []) r)
accepted_copy k n m d c old new r was sound =
    accepted k n m d (copy_becomes c old new ∷ []) r (ap CopyHas was, tt, tt, tt) (inl tt) sound

pub accepted_hold : (k : Facts) (n m : ℕ) (d : Desk) (t : ℕ) (p : ℕ) (old new : Option Hold) (r : Reply)
    → d.hold t p ≡ old → Sound k m (put d (HoldCell t p) (HoldHas new))
    → Leads k m d (accept k n (hold_becomes t p old new ∷ []) r)
accepted_hold k n m d t p old new r was sound =
    accepted k n m d (hold_becomes t p old new ∷ []) r (ap HoldHas was, tt, tt, tt) (inl tt) sound

pub accepted_both : (k : Facts) (n m : ℕ) (d : Desk) (c : ℕ)
    (old new : CopyState) (t : ℕ) (p : ℕ) (o v : Option Hold) (r : Reply)
    → d.copy c ≡ old → d.hold t p ≡ o → ((h : Hold) → v ≡ Some h → Follows o h)
    → Sound k m (put (put d (CopyCell c) (CopyHas new)) (HoldCell t p) (HoldHas v))
    → Leads k m d (accept k n (copy_becomes c old new ∷ hold_becomes t p o v ∷ []) r)
accepted_both k n m d c old new t p o v r was held mild sound =
    accepted k n m d (copy_becomes c old new ∷ hold_becomes t p o v ∷ []) r (
      ap CopyHas was,
      tt,
      (refl, tt),
      (ap HoldHas held, tt, tt, tt),
    ) (inr ((tt, (mild, tt)), (tt, tt))) sound

-- a copy that stands on no hold shelf needs no place
abbrev pub Placed : Facts → Desk → ℕ → CopyState → Type 0
Placed k d c v = (s : HoldPlace) → v ≡ OnHoldShelf s → Welcome k d.copy c s

pub untied_at : (c : ℕ) (s v : CopyState) → Untied s → Untied (cond (c == c) s v)
untied_at c s v free = copy_cases Untied c c s v (λ e. free) (λ is. absurd (number_not c c is refl))

-- a loose copy becomes tied to nobody
pub loose_sound : (k : Facts) (n : ℕ) (d : Desk) (c : ℕ) (v : CopyState)
    → HoldsFit n d.hold → PlacesFit k d.copy → Loose k c d → Untied v → Placed k d c v
    → Sound k (n + 1) (put d (CopyCell c) (CopyHas v))
loose_sound k n d c v holds places loose free placed = record {
  holds = next n d.hold holds;
  places = places_put k d c v places placed;
  tie = close k c (put d (CopyCell c) (CopyHas v)) (loose_copy k c d v loose) (untied_at c v (d.copy c) free);
}

-- a loose copy is given to a hold
pub give_sound : (k : Facts) (n : ℕ) (d : Desk) (c : ℕ) (v : CopyState) (q : ℕ) (h : Hold)
    → HoldsFit n d.hold → PlacesFit k d.copy → Loose k c d → d.hold (k.title_of c) q ≡ Some h
    → h.copy ≡ None → Tied v q h.pickup → Placed k d c v → Sound k (n + 1)
    (put (put d (CopyCell c) (CopyHas v)) (HoldCell (k.title_of c) q) (HoldHas (Some (with_copy (Some c) h))))
give_sound k n d c v q h holds places loose was none to placed = record {
  holds = next n _ (holds_put n d (k.title_of c) q (Some (with_copy (Some c) h)) holds
      (λ g is. follows_with (Some c) _ h g was is));
  places = places_put k d c v places placed;
  tie = give k c (put d (CopyCell c) (CopyHas v)) q h (loose_copy k c d v loose) was none
      (copy_cases (λ s. Tied s q h.pickup) c c v (d.copy c) (λ e. to)
      (λ is. absurd (number_not c c is refl)));
}

pub on_loan_placed : (k : Facts) (d : Desk) (c : ℕ) (l : Loan) → Placed k d c (OnLoan l)
on_loan_placed k d c l s is = cc

-- a loan, and the holds that change with it
pub loan_sound : (k : Facts) (n : ℕ) (d : Desk) (c : ℕ) (l : Loan) → HoldsFit n d.hold → PlacesFit k d.copy
    → Loose k c d → Sound k (n + 1) (put d (CopyCell c) (CopyHas (OnLoan l)))
loan_sound k n d c l holds places loose =
    loose_sound k n d c (OnLoan l) holds places loose (λ p b h. h) (on_loan_placed k d c l)

pub untied_as : (s v : CopyState) → s ≡ v → Untied v → Untied s
untied_as s v is free = subst Untied (sym is) free

pub bare_as : (o v : Option Hold) → o ≡ v → Bare v → Bare o
bare_as o v is bare = subst Bare (sym is) bare
