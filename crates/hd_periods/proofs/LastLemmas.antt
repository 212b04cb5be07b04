-- Which of the periods so far is the last complete one.
use Rattle.std.proofs.Common.{ap, arith, ◌≡◌, ◌∙◌, inl, inr, length, ℕ, ◌+◌, ◌<◌, List, Option, Some, None}
use Rattle.std.proofs.Common.{subst}
use Rattle.std.specs.Prelude.{slice_index_or}
use Rattle.std.specs.List.{Contains}
use Rattle.std.proofs.lemmas.Bool.{cases_lt}
use Rattle.std.proofs.lemmas.List.{get_or_default}
use Rattle.hd_periods.specs.declared.name.FileName.{FileName}
use Rattle.std.proofs.lemmas.List.Elements.{AllWithin-more}
use Rattle.std.specs.List.{AllWithin}
use Rattle.hd_periods.specs.Periods.{IsComplete, IsLastComplete, IsUpTo}

-- Each complete period that one of the first names, up to a count, is of is at most the last one.
abbrev pub AreUpTo : List FileName → ℕ → Option ℕ → Type 0
AreUpTo names count last = (k : ℕ) (other : FileName) → k < count
    → IsComplete (Contains names) (slice_index_or names k other).file.number
    → IsUpTo last (slice_index_or names k other).file.number

-- so with one more name
pub more_up_to : (names : List FileName) (count : ℕ) (last next : Option ℕ) (name : FileName)
    → count < length names → AreUpTo names count last
    → ((number : ℕ) → IsUpTo last number → IsUpTo next number)
    → (IsComplete (Contains names) (slice_index_or names count name).file.number
    → IsUpTo next (slice_index_or names count name).file.number)
    → AreUpTo names (count + 1) next
more_up_to names count last next name within before later this k other below complete =
    elim (cases_lt k count) [
      | inl less ↦ later _ (before k other less complete)
      | inr most ↦
          let same : count ≡ k = omega (arith, below, most) in
          let at : slice_index_or names count name ≡ slice_index_or names k other =
          get_or_default names count name other within ∙ ap (λ n. slice_index_or names n other) same in
          subst (λ (n : FileName). IsComplete (Contains names) n.file.number → IsUpTo next n.file.number) at
          this complete
    ]

-- what holds of each name so far, with one more
pub more_within : (P : FileName → Type 0) (names : List FileName) (count : ℕ) (name : FileName)
    → count < length names → AllWithin P names 0 count → P (slice_index_or names count name)
    → AllWithin P names 0 (count + 1)
more_within P names count name within before here =
    AllWithin-more P names 0 count before (λ d. subst P (get_or_default names count name d within) here)

-- a complete period is up to the last complete one
pub complete_is_up_to : (there : FileName → Type 0) (last : Option ℕ) (number : ℕ) → IsLastComplete there last
    → IsComplete there number → IsUpTo last number
complete_is_up_to there None number is complete = is number complete
complete_is_up_to there (Some last) number is complete = is.1 number complete
