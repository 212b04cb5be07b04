-- The record of a target.
use Rattle.std.proofs.Common.{arith, ◌≡◌, refl, sym, ◌∙◌, ap, subst, ℕ, ◌+◌, ◌<◌, ◌≤◌}
use Rattle.std.proofs.Common.{List, [], ◌∷◌, ◌++◌, length, length-append, Option, Some, None, option_map}
use Rattle.std.proofs.lemmas.Bool.Decides.{nat_tests}
use Rattle.std.proofs.lemmas.Option.{same_Some}
use Rattle.hd_rules.specs.declared.commands.Cancel.{Cancel}
use Rattle.hd_rules.specs.declared.commands.Survivor.{Survivor}
use Rattle.hd_rules.specs.Record.{Record}
use Rattle.hd_rules.specs.Run.{Rising}
use Rattle.hd_rules.specs.Target.{IsTarget, Split}
use Rattle.hd_rules.specs.Searches.{target}
use Rattle.hd_records.specs.Survivors.{newer, older, record_of, survivor_of, survivors_of, target_of}
use Rattle.hd_journal.specs.Deciding.{IsAt, split_of}
use Rattle.hd_journal.specs.Laws.{CancellationLaws}

-- records above a number, and records below it
all_newer : (n m : ℕ) (rs : List Record) → n < m → Rising m (survivors_of rs) → newer n rs ≡ rs
all_newer n m [] below rising = refl
all_newer n m (x ∷ xs) below rising =
    let up : n < x.number = omega (arith, below, rising.0) in
    let rest : newer n xs ≡ xs = all_newer n (x.number + 1) xs (omega (arith, up)) rising.1 in
    grind (arith, nat_tests, up, rest)

none_older : (n m : ℕ) (rs : List Record) → n ≤ m → Rising m (survivors_of rs) → older n rs ≡ []
none_older n m [] le rising = refl
none_older n m (x ∷ xs) le rising =
    let up : n ≤ x.number = omega (arith, le, rising.0) in
    let rest : older n xs ≡ [] = none_older n (x.number + 1) xs (omega (arith, up)) rising.1 in
    grind (arith, nat_tests, up, rest)

-- records cut where their survivors are
pub record Cut (m n : ℕ) (rs : List Record) (ss : List Survivor) (s : Survivor)
    (ts : List Survivor) : Type 0 where
  pub aim : Record
  pub is : survivor_of aim ≡ s
  pub at : IsAt rs n aim
  pub before : survivors_of (older n rs) ≡ ss
  pub after : survivors_of (newer n rs) ≡ ts
  pub above : m ≤ n

no_nil : (ss : List Survivor) (s : Survivor) (ts : List Survivor) → [] ≡ ss ++ s ∷ ts → ⊥
no_nil ss s ts is = (let same = ap length is in omega (arith, same, length-append ss (s ∷ ts)))

abbrev first_or : Survivor → List Survivor → Survivor
first_or s [] = s
first_or s (x ∷ xs) = x

abbrev rest_of : List Survivor → List Survivor
rest_of [] = []
rest_of (x ∷ xs) = xs

here : (m n : ℕ) (x : Record) (xs : List Record) (s : Survivor) (ts : List Survivor)
    → Rising m (survivors_of (x ∷ xs))
    → survivor_of x ≡ s → survivors_of xs ≡ ts → s.number ≡ n → Cut m n (x ∷ xs) [] s ts
here m n x xs s ts rising head tail number =
    let same : x.number ≡ n = ap (λ (y : Survivor). y.number) head ∙ number in
    let low : older n xs ≡ [] = none_older n (x.number + 1) xs (omega (arith, same)) rising.1 in
    let up : newer n xs ≡ xs = all_newer n (x.number + 1) xs (omega (arith, same)) rising.1 in
    let before : older n (x ∷ xs) ≡ [] = grind (arith, nat_tests, same, low) in
    let after : newer n (x ∷ xs) ≡ xs = grind (arith, nat_tests, same, up) in
    let there : record_of n (x ∷ xs) ≡ Some x = grind (arith, nat_tests, same) in
    record {
      aim = x;
      is = head;
      at = record { there = there; split = (λ j. sym before j ++ x ∷ sym after j) };
      before = ap survivors_of before;
      after = ap survivors_of after ∙ tail;
      above = omega (arith, same, rising.0);
    }

pub cut : (m n : ℕ) (rs : List Record) (ss : List Survivor) (s : Survivor) (ts : List Survivor)
    → Rising m (survivors_of rs)
    → survivors_of rs ≡ ss ++ s ∷ ts → s.number ≡ n → Cut m n rs ss s ts
cut m n [] ss s ts rising is number = absurd (no_nil ss s ts is)
cut m n (x ∷ xs) [] s ts rising is number =
    here m n x xs s ts rising (ap (first_or s) is) (ap rest_of is) number
cut m n (x ∷ xs) (y ∷ ys) s ts rising is number =
    let rest : Cut (x.number + 1) n xs ys s ts =
    cut (x.number + 1) n xs ys s ts rising.1 (ap rest_of is) number in
    let low : x.number < n = omega (arith, rest.above) in
    let before : older n (x ∷ xs) ≡ x ∷ older n xs = grind (arith, nat_tests, low) in
    let after : newer n (x ∷ xs) ≡ newer n xs = grind (arith, nat_tests, low) in
    let skip : record_of n (x ∷ xs) ≡ record_of n xs = grind (arith, nat_tests, low) in
    record {
      aim = rest.aim;
      is = rest.is;
      at = record {
        there = skip ∙ rest.at.there;
        split = ap (λ (zs : List Record). x ∷ zs) rest.at.split
            ∙ (λ j. sym before j ++ rest.aim ∷ sym after j);
      };
      before = ap survivors_of before ∙ (λ j. ap (first_or (survivor_of x)) is j ∷ rest.before j);
      after = ap survivors_of after ∙ rest.after;
      above = omega (arith, low, rising.0);
    }

-- the record of the target's number
pub record Aimed (terminal : ℕ) (what : Cancel) (rs : List Record) (n : ℕ) : Type 0 where
  pub aim : Record
  pub number : aim.number ≡ n
  pub at : IsAt rs n aim
  pub is_target : target terminal what (survivors_of rs) ≡ Some (split_of rs n aim)

no_number : (n : ℕ) → Some n ≡ None → ⊥
no_number n is = subst (λ (o : Option ℕ). IsNumber o) is tt
  where
    IsNumber : Option ℕ → Type 0
    IsNumber None = ⊥
    IsNumber (Some x) = Unit {0}

pub aimed : (laws : CancellationLaws) (terminal : ℕ) (what : Cancel) (rs : List Record) (n m : ℕ)
    → Rising m (survivors_of rs)
    → Some n ≡ target_of terminal what rs → Aimed terminal what rs n
aimed laws terminal what rs n m rising is = by_target (target terminal what (survivors_of rs)) refl
  where
    by_target : (o : Option Split) → target terminal what (survivors_of rs) ≡ o → Aimed terminal what rs n
    by_target None found = absurd
        (no_number n (is ∙ ap (option_map (λ (at : Split). at.survivor.number)) found))
    by_target (Some at) found =
        let parts : IsTarget terminal what (survivors_of rs) at =
        (laws.target.found terminal what (survivors_of rs) at).0 found in
        let number : at.survivor.number ≡ n =
        sym (same_Some n at.survivor.number (is
        ∙ ap (option_map (λ (x : Split). x.survivor.number)) found)) in
        let there : Cut m n rs at.older at.survivor at.newer =
        cut m n rs at.older at.survivor at.newer rising parts.split number in
        record {
          aim = there.aim;
          number = ap (λ (s : Survivor). s.number) there.is ∙ number;
          at = there.at;
          is_target = found
              ∙ (λ j. Some (record {
                older = sym there.before j;
                survivor = sym there.is j;
                newer = sym there.after j;
              }));
        }

-- a record that was lent is the one there
pub lent_is : (lent r : Record) (o : Option Record) → Some lent ≡ o → o ≡ Some r → lent ≡ r
lent_is lent r o is there = ap (λ (x : Option Record). record_or x) (is ∙ there)
  where
    record_or : Option Record → Record
    record_or None = r
    record_or (Some x) = x

pub lent_changes : (lent r : Record) (o : Option Record) → Some lent ≡ o → o ≡ Some r
    → lent.changes ≡ r.changes
lent_changes lent r o is there = ap (λ (x : Record). x.changes) (lent_is lent r o is there)

-- no number, no target
pub none_aimed : (o : Option Split) → None ≡ option_map (λ (at : Split). at.survivor.number) o → o ≡ None
none_aimed None is = refl
none_aimed (Some at) is = absurd (no_number at.survivor.number (sym is))
