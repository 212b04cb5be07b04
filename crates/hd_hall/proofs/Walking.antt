-- The turns of a journal, by number and by place, and the receipts of a seat, one after another.
use Rattle.std.proofs.Common.{◌≡◌, ℕ, zero, suc, ◌+◌, ◌-◌, ◌<◌, List, Some, get_or, length, slice_get, arith}
use Rattle.std.proofs.Common.{sym, subst, ◌∙◌}
use Rattle.std.proofs.lemmas.List.{get_or_default}
use borrow.Author.Count.{below_more}
use Rattle.hd_rules.specs.Journal.{Turn}
use Rattle.hd_journal.specs.Books.{turn_numbered}
use Rattle.hd_hall.specs.Receipts.{Receipted}

-- the turn of a number stands at the place before it
pub place_of : (turns : List Turn) (n : ℕ) (t : Turn) → 0 < n → turn_numbered turns n ≡ Some t
    → slice_get turns (n - 1) ≡ Some t
place_of turns zero t some is = absurd (omega arith)
place_of turns (suc n) t some is = let e : suc n - 1 ≡ n = omega arith in
    subst (λ k. slice_get turns k ≡ Some t) (sym e) is

pub number_of : (turns : List Turn) (k : ℕ) (t : Turn) → slice_get turns k ≡ Some t
    → turn_numbered turns (k + 1) ≡ Some t
number_of turns k t is = let e : k + 1 ≡ suc k = omega arith in
    subst (λ n. turn_numbered turns n ≡ Some t) (sym e) is

-- each of the first i is so
abbrev pub FirstAre : (Receipted → Type 0) → ℕ → List Receipted → Type 0
FirstAre P i rs = (k : ℕ) → k < i → (d : Receipted) → P (get_or rs k d)

pub first_more : (P : Receipted → Type 0) (i : ℕ) (rs : List Receipted) (x : Receipted) → i < length rs
    → x ≡ get_or rs i x → P x → FirstAre P i rs → FirstAre P (i + 1) rs
first_more P i rs x within is so first =
    below_more (λ (k : ℕ). (d : Receipted) → P (get_or rs k d)) i first
    (λ d. subst P (is ∙ get_or_default rs i x d within) so)
