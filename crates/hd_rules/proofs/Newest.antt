-- The search for a target finds the newest, and the only one.
use Rattle.std.proofs.Common.{◌≡◌, refl, ◌∙◌, ap, subst, ℕ, Bool, true, false, cond, ◌↔◌, List, [], ◌∷◌, ◌++◌}
use Rattle.std.proofs.Common.{Option, Some, None}
use Rattle.hd_rules.specs.Words.{Cancel, Survivor}
use Rattle.hd_rules.specs.Target.{Split, is_target, NoTarget, IsTarget}
use Rattle.hd_rules.specs.Searches.{newest_of, target}
use Rattle.hd_rules.proofs.Tests.{some_is}

none_fits : (t : ℕ) (what : Cancel) (ss : List Survivor) → target t what ss ≡ None → NoTarget t what ss
none_fits t what [] is = tt
none_fits t what (s ∷ ss) is = cases (target t what ss) refl is (none_fits t what ss)
  where
    by_test : (b : Bool) → is_target t what s ≡ b
        → cond {A = Option Split} b (Some (record { older = []; survivor = s; newer = ss })) None ≡ None
        → b ≡ false
    by_test true fits is = cc
    by_test false fits is = refl

    cases : (o : Option Split) → target t what ss ≡ o → newest_of t what s ss o ≡ None
        → (target t what ss ≡ None → NoTarget t what ss) → NoTarget t what (s ∷ ss)
    cases (Some at) found is more = cc
    cases None found is more = (by_test (is_target t what s) refl is, more found)

target_fits : (t : ℕ) (what : Cancel) (ss : List Survivor) (at : Split) → target t what ss ≡ Some at
    → IsTarget t what ss at
target_fits t what [] at is = cc
target_fits t what (s ∷ ss) at is = cases (target t what ss) refl is (target_fits t what ss)
  where
    here : (b : Bool) → is_target t what s ≡ b → NoTarget t what ss
        → cond {A = Option Split} b (Some (record { older = []; survivor = s; newer = ss })) None ≡ Some at
        → IsTarget t what (s ∷ ss) at
    here true fits none is =
        subst (λ (x : Split). IsTarget t what (s ∷ ss) x)
        (some_is (record { older = []; survivor = s; newer = ss }) at is)
        (record { split = refl; fits = fits; newest = none })
    here false fits none is = cc

    cases : (o : Option Split) → target t what ss ≡ o → newest_of t what s ss o ≡ Some at
        → ((x : Split) → target t what ss ≡ Some x → IsTarget t what ss x) → IsTarget t what (s ∷ ss) at
    cases (Some x) found is more =
        let later : IsTarget t what ss x = more x found in
        subst (λ (y : Split). IsTarget t what (s ∷ ss) y)
        (some_is (record { older = s ∷ x.older; survivor = x.survivor; newer = x.newer }) at is)
        (record {
          split = ap (λ (xs : List Survivor). s ∷ xs) later.split;
          fits = later.fits;
          newest = later.newest;
        })
    cases None found is more = here (is_target t what s) refl (none_fits t what ss found) is

fits_none : (t : ℕ) (what : Cancel) (ss : List Survivor) → NoTarget t what ss → target t what ss ≡ None
fits_none t what [] none = refl
fits_none t what (s ∷ ss) none = rw (fits_none t what ss none.1, none.0) refl

pub found_at : (t : ℕ) (what : Cancel) (older : List Survivor) (c : Survivor) (newer : List Survivor)
    → is_target t what c ≡ true → NoTarget t what newer
    → target t what (older ++ c ∷ newer) ≡ Some (record { older = older; survivor = c; newer = newer })
found_at t what [] c newer fits none = rw (fits_none t what newer none, fits) refl
found_at t what (s ∷ ss) c newer fits none =
    ap (newest_of t what s (ss ++ c ∷ newer)) (found_at t what ss c newer fits none)

fits_target : (t : ℕ) (what : Cancel) (ss : List Survivor) (at : Split) → IsTarget t what ss at
    → target t what ss ≡ Some at
fits_target t what ss at is =
    ap (target t what) is.split ∙ found_at t what at.older at.survivor at.newer is.fits is.newest

pub target_is : (t : ℕ) (what : Cancel) (ss : List Survivor) (at : Split)
    → (target t what ss ≡ Some at) ↔ IsTarget t what ss at
target_is t what ss at = (target_fits t what ss at, fits_target t what ss at)

pub no_target_is : (t : ℕ) (what : Cancel) (ss : List Survivor)
    → (target t what ss ≡ None) ↔ NoTarget t what ss
no_target_is t what ss = (none_fits t what ss, fits_none t what ss)
