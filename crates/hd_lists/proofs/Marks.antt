-- Bytes with a mark are cut there.
use Rattle.std.proofs.Common.{◌≡◌, ◌∙◌, ◌==◌, ◌+◌, ◌<◌, ap, refl, sym, arith, eq-eqb, true, false, not}
use Rattle.std.proofs.Common.{◌&&◌, Bool, cond, ℕ}
use Rattle.std.proofs.Common.{List, [], ◌∷◌, ◌++◌, length, drop, Option, Some, None, All, append-nil}
use Rattle.std.specs.List.{list_all, position, position_or_len}
use Rattle.std.proofs.Math.Seq.{drop-append_seam, take-append_seam}
use Rattle.std.proofs.lemmas.Bool.{cond-true, cond-false, le-ltb, lt-ltb}
use Rattle.std.proofs.lemmas.List.{length-append}
use Rattle.std.proofs.lemmas.List.Elements.{All-head, All-tail}
use Rattle.std.proofs.lemmas.List.Folds.{list_all-append}
use Rattle.std.specs.Prelude.{nat_lt}
use Rattle.hd_lists.specs.Cuts.{before_mark, after_mark, rest_at, before_place, after_place, rest_place}

-- the mark isn't among the bytes
abbrev pub lacks : ℕ → List ℕ → Bool
lacks mark bytes = list_all (λ b. not (b == mark)) bytes

pub lacks_all : (P : ℕ → Type 0) (mark : ℕ) → ((b : ℕ) → P b → not (b == mark) ≡ true)
    → (bytes : List ℕ) → All P bytes → lacks mark bytes ≡ true
lacks_all P mark step [] all = refl
lacks_all P mark step (b ∷ bytes) all =
    let one = step b (All-head P b bytes all) in
    let more = lacks_all P mark step bytes (All-tail P b bytes all) in
    rw (one, more) refl

pub lacks_both : (mark : ℕ) (front rest : List ℕ) → lacks mark front ≡ true → lacks mark rest ≡ true
    → lacks mark (front ++ rest) ≡ true
lacks_both mark front rest one other = list_all-append _ front rest ∙ rw (one, other) refl

first_step : (mark b : ℕ) (front rest : List ℕ) (test : Bool) → not (b == mark) ≡ test
    → (test && lacks mark front) ≡ true
    → (lacks mark front ≡ true → position_or_len (λ x. x == mark) (front ++ rest) ≡ length front + 0)
    → position_or_len (λ x. x == mark) ((b ∷ front) ++ rest) ≡ length (b ∷ front)
first_step mark b front rest true is both more =
    let later = more both in rw is (omega (arith, later))
first_step mark b front rest false is both more = cc

-- the first mark is after bytes that lack it
first_is : (mark : ℕ) (front rest : List ℕ) → lacks mark front ≡ true
    → position_or_len (λ x. x == mark) (front ++ mark ∷ rest) ≡ length front
first_is mark [] rest none = let same = eq-eqb mark mark refl in rw same refl
first_is mark (b ∷ front) rest none =
    first_step mark b front (mark ∷ rest) (not (b == mark)) refl none
    (λ all. let it = first_is mark front rest all in omega (arith, it))

none_step : (mark b : ℕ) (bytes : List ℕ) (test : Bool) → not (b == mark) ≡ test
    → (test && lacks mark bytes) ≡ true
    → (lacks mark bytes ≡ true → position_or_len (λ x. x == mark) bytes ≡ length bytes)
    → position_or_len (λ x. x == mark) (b ∷ bytes) ≡ length (b ∷ bytes)
none_step mark b bytes true is both more = let later = more both in rw is (omega (arith, later))
none_step mark b bytes false is both more = cc

none_is : (mark : ℕ) (bytes : List ℕ) → lacks mark bytes ≡ true
    → position_or_len (λ x. x == mark) bytes ≡ length bytes
none_is mark [] none = refl
none_is mark (b ∷ bytes) none = none_step mark b bytes (not (b == mark)) refl none (none_is mark bytes)

pub position_at : (mark : ℕ) (front rest : List ℕ) → lacks mark front ≡ true
    → position (λ x. x == mark) (front ++ mark ∷ rest) ≡ Some (length front)
position_at mark front rest none =
    let within : length front < length (front ++ mark ∷ rest) = omega
    (arith, length-append front (mark ∷ rest)) in
    ap (λ (n : ℕ). cond (nat_lt n (length (front ++ mark ∷ rest))) (Some n) None)
    (first_is mark front rest none)
    ∙ cond-true _ _ _ (lt-ltb _ _ within)

pub position_none : (mark : ℕ) (bytes : List ℕ) → lacks mark bytes ≡ true
    → position (λ x. x == mark) bytes ≡ None
position_none mark bytes none =
    ap (λ (n : ℕ). cond (nat_lt n (length bytes)) (Some n) None) (none_is mark bytes none)
    ∙ cond-false _ _ _ (le-ltb (length bytes) (length bytes) (omega arith))

-- so the bytes are cut there
pub before_at : (mark : ℕ) (front rest : List ℕ) → lacks mark front ≡ true
    → before_mark mark (front ++ mark ∷ rest) ≡ front
before_at mark front rest none =
    ap (λ (at : Option ℕ). before_place at (front ++ mark ∷ rest)) (position_at mark front rest none)
    ∙ take-append_seam front (mark ∷ rest)

pub after_at : (mark : ℕ) (front rest : List ℕ) → lacks mark front ≡ true
    → after_mark mark (front ++ mark ∷ rest) ≡ Some rest
after_at mark front rest none =
    ap (λ (at : Option ℕ). after_place at (front ++ mark ∷ rest)) (position_at mark front rest none)
    ∙ ap (λ (t : List ℕ). Some (drop 1 t)) (drop-append_seam front (mark ∷ rest))

pub before_none : (mark : ℕ) (bytes : List ℕ) → lacks mark bytes ≡ true → before_mark mark bytes ≡ bytes
before_none mark bytes none =
    ap (λ (at : Option ℕ). before_place at bytes) (position_none mark bytes none)

pub after_none : (mark : ℕ) (bytes : List ℕ) → lacks mark bytes ≡ true → after_mark mark bytes ≡ None
after_none mark bytes none =
    ap (λ (at : Option ℕ). after_place at bytes) (position_none mark bytes none)

-- nothing, or bytes that begin with the mark
abbrev pub IsFrom : ℕ → List ℕ → Type 0
IsFrom mark [] = Unit {0}
IsFrom mark (b ∷ bytes) = b ≡ mark

pub before_rest : (mark : ℕ) (front rest : List ℕ) → lacks mark front ≡ true → IsFrom mark rest
    → before_mark mark (front ++ rest) ≡ front
before_rest mark front [] none from =
    ap (before_mark mark) (append-nil front) ∙ before_none mark front none
before_rest mark front (b ∷ rest) none from =
    ap (λ (x : ℕ). before_mark mark (front ++ x ∷ rest)) from ∙ before_at mark front rest none

pub rest_from : (mark : ℕ) (front rest : List ℕ) → lacks mark front ≡ true → IsFrom mark rest
    → rest_at mark (front ++ rest) ≡ rest
rest_from mark front [] none from =
    ap (rest_at mark) (append-nil front)
    ∙ ap (λ (at : Option ℕ). rest_place at front) (position_none mark front none)
rest_from mark front (b ∷ rest) none from =
    ap (λ (x : ℕ). rest_at mark (front ++ x ∷ rest)) from
    ∙ ap (λ (at : Option ℕ). rest_place at (front ++ mark ∷ rest)) (position_at mark front rest none)
    ∙ drop-append_seam front (mark ∷ rest)
    ∙ ap (λ (x : ℕ). x ∷ rest) (sym from)
