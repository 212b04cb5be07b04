-- What a loan that took place already leads to.
use Rattle.std.proofs.Common.{◌≡◌, refl, sym, ◌∙◌, ap, subst, ℕ, ◌+◌, ◌⊎◌, inl, inr, Bool, true, false, ◌==◌}
use Rattle.std.proofs.Common.{◌&&◌, cond, List, [], ◌∷◌}
use Rattle.std.proofs.Common.{◌++◌, Option, Some, None}
use Rattle.hd_rules.specs.Words.{Hold, CopyState, Shelf, OnLoan, OnHoldShelf, InTransit, HoldCell, CopyHas}
use Rattle.hd_rules.specs.Words.{HoldHas, Change}
use Rattle.hd_rules.specs.Facts.{Facts}
use Rattle.hd_rules.specs.Desk.{Desk, put}
use Rattle.hd_rules.specs.Choose.{admits}
use Rattle.hd_rules.specs.Settle.{tied_to, copy_becomes, hold_becomes, with_copy}
use Rattle.hd_rules.specs.Step.{ends_with, end_of_hold, release_of_hold, lend_off_line, off_line_at}
use Rattle.hd_rules.specs.Sound.{Has, Tied, Tie, Sound}
use Rattle.hd_rules.proofs.Puts.{hold_cases}
use Rattle.hd_rules.proofs.Ties.{Untied, bare_has, tied_one, tied_as, Loose, loose_untied, tie_edit}
use Rattle.hd_rules.proofs.Ties.{loose_edit, loosen}
use Rattle.hd_rules.proofs.Fits.{none_follows, follows_with, holds_put, holds_end}
use Rattle.hd_rules.proofs.Leads.{Leads, asked, either, accepted}
use Rattle.hd_rules.proofs.Ends.{accepted_copy, accepted_both, loan_sound, bare_as}
use Rattle.hd_rules.proofs.Tests.{number_is, number_not, some_is}

-- what an off-line loan does to its patron's hold: nothing, and then it doesn't have the copy, or it ends
ended_cases : (P : List Change → Type 0) (k : Facts) (c : ℕ) (p : ℕ) (held : Option Hold)
    → (((b : ℕ) → Has held c b → ⊥) → P []) → ((h : Hold) → held ≡ Some h
    → (h.copy ≡ None) ⊎ (h.copy ≡ Some c) → P (hold_becomes (k.title_of c) p (Some h) None ∷ []))
    → P (end_of_hold k c p held)
ended_cases P k c p None stays ends = stays (λ b h. h)
ended_cases P k c p (Some h) stays ends = by_copy h.copy refl
  where
    by_test : (t : Bool) → ((t ≡ true) → (h.copy ≡ None) ⊎ (h.copy ≡ Some c))
        → ((t ≡ false) → (b : ℕ) → Has (Some h) c b → ⊥)
        → P (cond t (hold_becomes (k.title_of c) p (Some h) None ∷ []) [])
    by_test true ending other = ends h refl (ending refl)
    by_test false ending other = stays (other refl)

    by_copy : (o : Option ℕ) → h.copy ≡ o
        → P (cond (ends_with k c h o) (hold_becomes (k.title_of c) p (Some h) None ∷ []) [])
    by_copy None is = by_test (admits k h.kind h.pickup c) (λ t. inl is)
        (λ t b has. let e : None ≡ Some c = sym is ∙ has.0 in cc)
    by_copy (Some x) is = by_test (x == c)
        (λ t. inr (is ∙ ap (λ (y : ℕ). Some y) (number_is x c t)))
        (λ t b has. number_not x c t (some_is x c (sym is ∙ has.0)))

-- the hold that ends leaves the copy loose
loose_end : (k : Facts) (c : ℕ) (d : Desk) (p : ℕ) (h : Hold) → Tie k d → d.hold (k.title_of c) p ≡ Some h
    → (h.copy ≡ None → Untied (d.copy c)) → (h.copy ≡ None) ⊎ (h.copy ≡ Some c)
    → Loose k c (put d (HoldCell (k.title_of c) p) (HoldHas None))
loose_end k c d p h tie was free (inl none) =
    loose_edit k c d (k.title_of c) p None (loose_untied k c d tie (free none))
    (bare_as _ (Some h) was none) tt
loose_end k c d p h tie was free (inr has) =
    loosen k c d (k.title_of c) p h.pickup None tie
    (subst (λ (o : Option Hold). Has o c h.pickup) (sym was) (has, refl)) tt

-- a copy that was tied to nobody
free_leads : (k : Facts) (n : ℕ) (d : Desk) (p : ℕ) (c : ℕ) (due : ℕ) (old : CopyState) (held : Option Hold)
    → Sound k n d → d.copy c ≡ old → d.hold (k.title_of c) p ≡ held → Untied (d.copy c)
    → Leads k (n + 1) d (lend_off_line k n p c due old (end_of_hold k c p held))
free_leads k n d p c due old held sound was has free =
    ended_cases (λ holds. Leads k (n + 1) d (lend_off_line k n p c due old holds)) k c p held
    (λ none.
    accepted_copy k n (n + 1) d c old (OnLoan _) _ was
    (loan_sound k n d c _ sound.holds sound.places (loose_untied k c d sound.tie free)))
    (λ h is copy. accepted_both k n (n + 1) d c old (OnLoan _) (k.title_of c) p (Some h) None _ was (has ∙ is)
    (none_follows (Some h))
    (loan_sound k n (put d (HoldCell (k.title_of c) p) (HoldHas None)) c _
    (holds_end n d (k.title_of c) p sound.holds) sound.places
    (loose_end k c d p h sound.tie (has ∙ is) (λ none. free) copy)))

-- a copy that was tied to the patron
own_leads : (k : Facts) (n : ℕ) (d : Desk) (p : ℕ) (c : ℕ) (due : ℕ) (old : CopyState) (held : Option Hold)
    (a : ℕ) → Sound k n d → d.copy c ≡ old → d.hold (k.title_of c) p ≡ held → Tied (d.copy c) p a
    → Leads k (n + 1) d (lend_off_line k n p c due old (end_of_hold k c p held))
own_leads k n d p c due old held a sound was has tied =
    ended_cases (λ holds. Leads k (n + 1) d (lend_off_line k n p c due old holds)) k c p held
    (λ none. absurd (none a (subst (λ (o : Option Hold). Has o c a) has (sound.tie.has p c a tied))))
    (λ h is copy. accepted_both k n (n + 1) d c old (OnLoan _) (k.title_of c) p (Some h) None _ was (has ∙ is)
    (none_follows (Some h))
    (loan_sound k n (put d (HoldCell (k.title_of c) p) (HoldHas None)) c _
    (holds_end n d (k.title_of c) p sound.holds) sound.places
    (loose_end k c d p h sound.tie (has ∙ is)
    (λ none. absurd (bare_has (d.hold (k.title_of c) p) c a (bare_as _ (Some h) (has ∙ is) none)
    (sound.tie.has p c a tied))) copy)))

and_false : (a b : Bool) → b ≡ false → (a && b) ≡ false
and_false true b h = h
and_false false b h = refl

-- a copy that was tied to another patron q, whose hold goes on without it
freed_leads : (k : Facts) (n : ℕ) (d : Desk) (p q : ℕ) (c : ℕ) (due : ℕ) (old : CopyState)
    (held other : Option Hold) (a : ℕ) → Sound k n d → d.copy c ≡ old → d.hold (k.title_of c) p ≡ held
    → d.hold (k.title_of c) q ≡ other → (q == p) ≡ false → Tied (d.copy c) q a → Leads k (n + 1) d
    (lend_off_line k n p c due old (end_of_hold k c p held ++ release_of_hold k c q other))
freed_leads k n d p q c due old held None a sound was has its apart tied =
    absurd (subst (λ (o : Option Hold). Has o c a) its (sound.tie.has q c a tied))
freed_leads k n d p q c due old held (Some g) a sound was has its apart tied =
    ended_cases (λ holds. Leads k (n + 1) d
    (lend_off_line k n p c due old (holds ++ release_of_hold k c q (Some g)))) k c p held
    (λ none.
    accepted_both k n (n + 1) d c old (OnLoan _) (k.title_of c) q (Some g) (Some (with_copy None g)) _ was its
    (λ h is. follows_with None (Some g) g h refl is)
    (loan_sound k n (put d (HoldCell (k.title_of c) q) (HoldHas (Some (with_copy None g)))) c _
    (holds_put n d (k.title_of c) q (Some (with_copy None g)) sound.holds
    (λ h is. follows_with None _ g h its is)) sound.places
    (loosen k c d (k.title_of c) q a (Some (with_copy None g)) sound.tie (sound.tie.has q c a tied) refl)))
    (λ h is copy. both h is copy)
  where
    without : Desk
    without = put d (HoldCell (k.title_of c) p) (HoldHas None)

    still : (P : Option Hold → Type 0) → P (d.hold (k.title_of c) q)
        → P (cond (((k.title_of c) == (k.title_of c)) && (p == q)) None (d.hold (k.title_of c) q))
    still P its =
        hold_cases P (k.title_of c) (k.title_of c) p q None (d.hold (k.title_of c) q)
        (λ e f. absurd (number_not q p apart (sym f)))
        (λ other. its)

    both : (h : Hold) → held ≡ Some h → (h.copy ≡ None) ⊎ (h.copy ≡ Some c) → Leads k (n + 1) d (lend_off_line
        k n p c due old (hold_becomes (k.title_of c) p (Some h) None ∷ release_of_hold k c q (Some g)))
    both h is (inl none) =
        accepted k n (n + 1) d
        (copy_becomes c old (OnLoan (record { patron = p; due = due; renewals = 0 })) ∷ hold_becomes
        (k.title_of c) p (Some h) None
        ∷ release_of_hold k c q (Some g)) _ (
          ap CopyHas was,
          tt,
          (refl, (refl, tt)),
          (ap HoldHas (has ∙ is), tt, (and_false _ _ apart, tt), (ap HoldHas its, tt, tt, tt)),
        )
        (inr (
          (tt, (none_follows (Some h), ((λ v is. follows_with None (Some g) g v refl is), tt))),
          (tt, (tt, tt)),
        ))
        (loan_sound k n
        (put (put d (HoldCell (k.title_of c) p) (HoldHas None)) (HoldCell (k.title_of c) q)
        (HoldHas (Some (with_copy None g)))) c _
        (holds_put n (put d (HoldCell (k.title_of c) p) (HoldHas None)) (k.title_of c) q
        (Some (with_copy None g))
        (holds_end n d (k.title_of c) p sound.holds)
        (λ h is. follows_with None _ g h (still (λ o. o ≡ Some g) its) is)) sound.places
        (loosen k c (put d (HoldCell (k.title_of c) p) (HoldHas None)) (k.title_of c) q a
        (Some (with_copy None g))
        (tie_edit k d (k.title_of c) p None sound.tie (bare_as _ (Some h) (has ∙ is) none) tt)
        (still (λ o. Has o c a) (sound.tie.has q c a tied)) refl))
    both h is (inr copy) =
        let mine : (k.title_of c ≡ k.title_of c) × Tied (d.copy c) p h.pickup =
        sound.tie.tied (k.title_of c) p c h.pickup
        (subst (λ (o : Option Hold). Has o c h.pickup) (sym (has ∙ is)) (copy, refl)) in
        absurd (number_not q p apart (tied_one (d.copy c) q p a h.pickup tied mine.1))

-- where the copy is tied
pub record TiedTo (s : CopyState) (p : ℕ) : Type 0 where
  pub branch : ℕ
  pub tied : Tied s p branch

pub tied_to_is : (s : CopyState) (p : ℕ) → tied_to s ≡ Some p → TiedTo s p
tied_to_is (Shelf b) p is = cc
tied_to_is (OnLoan l) p is = cc
tied_to_is (OnHoldShelf s) p is = let e : s.patron ≡ p = cc in record { branch = s.branch; tied = (e, refl) }
tied_to_is (InTransit t) p is = record { branch = t.to; tied = (is, refl) }

pub untied_is : (s : CopyState) → tied_to s ≡ None → Untied s
untied_is (Shelf b) is p x h = h
untied_is (OnLoan l) is p x h = h
untied_is (OnHoldShelf s) is p x h = cc
untied_is (InTransit t) is p x h = let e : None ≡ Some p = sym is ∙ h.0 in cc

pub off_line_leads : (k : Facts) (n : ℕ) (d : Desk) (p : ℕ) (c : ℕ) (due : ℕ) (old : CopyState)
    (held : Option Hold) (tied : Option ℕ) → Sound k n d → d.copy c ≡ old → d.hold (k.title_of c) p ≡ held
    → tied_to (d.copy c) ≡ tied → Leads k (n + 1) d (off_line_at k n p c due old held tied)
off_line_leads k n d p c due old held None sound was has is =
    free_leads k n d p c due old held sound was has (untied_is (d.copy c) is)
off_line_leads k n d p c due old held (Some q) sound was has is = either _ _ _ (q == p) _ _
    (λ its. own_leads k n d p c due old held at.branch sound was has
    (tied_as (d.copy c) q p at.branch at.branch (number_is q p its) refl at.tied))
    (λ apart. asked
    (λ other told. freed_leads k n d p q c due old held other at.branch sound was has told apart at.tied))
  where
    at : TiedTo (d.copy c) q
    at = tied_to_is (d.copy c) q is
