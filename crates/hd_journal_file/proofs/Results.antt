-- What is said of results.
use Rattle.std.proofs.Common.{◌≡◌, Bool, true, false, Result, Ok, Err, IfErr, IsOk, IsTrue, refl, subst, sym}
use Rattle.std.specs.Result.{IsErr, IsErrAnd, IsOkAnd, MatchResult}

-- what a `?` passes on
pub passes : {A E : Type 0} (r : Result A E) (why : E) (P : E → Type 0) → IsErrAnd r (λ e. e ≡ why) → P why
    → IfErr r P
passes (Ok x) why P is holds = absurd is
passes (Err e) why P is holds = subst P (sym is) holds

pub not_both : {A E : Type 0} (r : Result A E) → IsErr r → IsOk r → ⊥
not_both (Ok x) err ok = cc
not_both (Err e) err ok = cc

-- what is said of a value, where there is one
pub on_ok_and : {A E : Type 0} (r : Result A E) (P : A → Type 0) (Q : A → Type 0) (R : E → Type 0)
    → IsOkAnd r P → ((x : A) → P x → Q x) → MatchResult r Q R
on_ok_and (Ok x) P Q R is then = then x is
on_ok_and (Err e) P Q R is then = absurd is

-- a test that doesn't hold
pub is_false : (b : Bool) → ¬ IsTrue b → b ≡ false
is_false true not = absurd (not refl)
is_false false not = refl
