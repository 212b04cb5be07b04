-- What a write of two counts does to a stock.
use Rattle.std.proofs.Common.{◌≡◌, ℕ, ◌+◌, ◌<◌, Bool, true, false, ◌==◌, ◌&&◌, if◌then◌else◌, Option, Some}
use Rattle.std.proofs.Common.{IsSome, unwrap_or, List, length}
use Rattle.std.proofs.Common.{length-set, set, get_or, slice_index, refl, sym, ap, ◌∙◌, arith}
use Rattle.std.specs.Map.{lookup}
use Rattle.std.proofs.lemmas.Bool.Decides.{nat_tests}
use Rattle.std.proofs.lemmas.Grind.{common_steps}
use Rattle.std.proofs.lemmas.List.{get_or_read}
use Rattle.hd_open_shelf.specs.StockValue.{StockValue}
use Rattle.hd_open_shelf.specs.Counts.{is_home, of_title, of_home, HasEntry, HasOneCopyMore, KeepsEntries}

-- the new stock has these counts of the title and of its copies with this home, and keeps the other counts
pub record IsWritten (old new : StockValue) (title branch count count_of_home : ℕ) : Type 0 where
  pub within : title < length old.titles
  pub titles : new.titles ≡ set old.titles title count
  pub homes : (t b : ℕ) → lookup (is_home t b) new.homes
      ≡ (if (title == t) && (branch == b) then Some count_of_home else lookup (is_home t b) old.homes)

title_at : (xs : List ℕ) (i count t : ℕ) → i < length xs
    → get_or (set xs i count) t 0 ≡ (if i == t then count else get_or xs t 0)
title_at xs i count t within = grind (arith, nat_tests, common_steps)

home_at : (e : Bool) (count : ℕ) (found : Option ℕ) →
    unwrap_or (if e then Some count else found) 0 ≡ (if e then count else unwrap_or found 0)
home_at true count found = refl
home_at false count found = refl

is_some_at : (e : Bool) (count : ℕ) (found : Option ℕ) → IsSome found
    → IsSome (if e then Some count else found)
is_some_at true count found some = refl
is_some_at false count found some = some

module _ (old new : StockValue) (title branch count count_of_home : ℕ)
    (written : IsWritten old new title branch count count_of_home) where
  -- the count of each title
  pub of_title-written : (t : ℕ) → of_title new t ≡ (if title == t then count else of_title old t)
  of_title-written t = rw (written.titles) (title_at old.titles title count t written.within)

  -- the count of each home
  pub of_home-written : (t b : ℕ)
      → of_home new t b ≡ (if (title == t) && (branch == b) then count_of_home else of_home old t b)
  of_home-written t b = rw (written.homes t b)
      (home_at ((title == t) && (branch == b)) count_of_home (lookup (is_home t b) old.homes))

  -- no count loses its place
  pub keeps_entries : KeepsEntries old new
  keeps_entries = record {
    titles = rw (written.titles) (length-set old.titles title count);
    homes = λ t b entry. record {
      of_title = rw (written.titles, length-set old.titles title count) entry.of_title;
      of_home =
          rw (written.homes t b) (is_some_at ((title == t) && (branch == b)) count_of_home
          (lookup (is_home t b) old.homes) entry.of_home);
    };
  }

-- what a read of a title's count gave
pub read_at : (counts : List ℕ) (i title read : ℕ) → i ≡ title → title < length counts
    → read ≡ get_or counts i read → read ≡ slice_index counts title
read_at counts i title read same within is = get_or_read counts i read (omega (arith, same, within)) is 0
    ∙ ap (λ k. slice_index counts k) same

-- only a title with a count has copies
pub within_counts : (counts : List ℕ) (title : ℕ) → 0 < slice_index counts title → title < length counts
within_counts counts title some = grind (arith, common_steps)

own_home : (i j count : ℕ) (found : Option ℕ) → IsSome (if (i == i) && (j == j) then Some count else found)
own_home i j count found = grind (arith, nat_tests)

-- the title has a count, and so have its copies with this home
pub has_entry : (old new : StockValue) (title branch count count_of_home : ℕ)
    → IsWritten old new title branch count count_of_home → HasEntry new title branch
has_entry old new title branch count count_of_home written = record {
  of_title = rw (written.titles, length-set old.titles title count) written.within;
  of_home = rw (written.homes title branch)
      (own_home title branch count_of_home (lookup (is_home title branch) old.homes));
}

more_at : (i t count was : ℕ) → (i ≡ t → count ≡ was + 1)
    → (if i == t then count else was) ≡ was + (if i == t then 1 else 0)
more_at i t count was more = grind (arith, nat_tests)

more_at_home : (i t j b count was : ℕ) → (i ≡ t → j ≡ b → count ≡ was + 1) →
    (if (i == t) && (j == b) then count else was) ≡ was + (if (i == t) && (j == b) then 1 else 0)
more_at_home i t j b count was more = grind (arith, nat_tests)

less_at : (i t count was : ℕ) → (i ≡ t → was ≡ count + 1)
    → was ≡ (if i == t then count else was) + (if i == t then 1 else 0)
less_at i t count was less = grind (arith, nat_tests)

less_at_home : (i t j b count was : ℕ) → (i ≡ t → j ≡ b → was ≡ count + 1) →
    was ≡ (if (i == t) && (j == b) then count else was) + (if (i == t) && (j == b) then 1 else 0)
less_at_home i t j b count was less = grind (arith, nat_tests)

-- both counts were raised by one
pub one_more : (old new : StockValue) (title branch count count_of_home : ℕ) → count ≡ of_title old title + 1
    → count_of_home ≡ of_home old title branch + 1 → IsWritten old new title branch count count_of_home
    → HasOneCopyMore new old title branch
one_more old new title branch count count_of_home more more_of_home written = record {
  titles = λ t. of_title-written old new title branch count count_of_home written t
      ∙ more_at title t count (of_title old t) (λ e. more ∙ ap (λ i. of_title old i + 1) e);
  homes = λ t b. of_home-written old new title branch count count_of_home written t b
      ∙ more_at_home title t branch b count_of_home (of_home old t b) (λ e f. rw (← e, ← f) more_of_home);
}

-- both counts were lowered by one
pub one_less : (old new : StockValue) (title branch count count_of_home : ℕ) → of_title old title ≡ count + 1
    → of_home old title branch ≡ count_of_home + 1 → IsWritten old new title branch count count_of_home
    → HasOneCopyMore old new title branch
one_less old new title branch count count_of_home less less_of_home written = record {
  titles = λ t. less_at title t count (of_title old t) (λ e. ap (λ i. of_title old i) (sym e) ∙ less)
      ∙ ap (λ n. n + (if title == t then 1 else 0))
      (sym (of_title-written old new title branch count count_of_home written t));
  homes =
      λ t b. less_at_home title t branch b count_of_home (of_home old t b) (λ e f. rw (← e, ← f) less_of_home)
      ∙ ap (λ n. n + (if (title == t) && (branch == b) then 1 else 0))
      (sym (of_home-written old new title branch count count_of_home written t b));
}
