-- What lending and ending keep of the links, said of one test of numbers.
use Rattle.std.proofs.Common.{◌≡◌, ◌≢◌, ℕ, ◌+◌, ◌<◌, ◌≤◌, ◌⊎◌, ◌==◌, Bool, true, false, Option, None, Some}
use Rattle.std.proofs.Common.{arith, ◌∙◌, sym, inl}
use Rattle.std.proofs.Common.{inr}
use Rattle.std.specs.Prelude.{IfSome}
use Rattle.std.proofs.lemmas.Bool.Decides.{nat_tests, Decides-eqb}
use Rattle.std.proofs.lemmas.Bool.{cases_Bool, cases_lt}
use Rattle.hd_rules.specs.declared.limits.TheConstants.{MOST_COPIES}
use Rattle.hd_loans.specs.Links.{LeadsOn, IsLastBelow}

-- tests that agree have the same links
pub leads-same : (t u : ℕ → Bool) (from link : ℕ) → ((q : ℕ) → u q ≡ t q) → LeadsOn t from link
    → LeadsOn u from link
leads-same t u from link same l = record {
  onward = l.onward;
  passes = λ m. same link ∙ l.passes m;
  first = λ q a b. same q ∙ l.first q a b;
}

-- tests that differ at one number alone have the same link where it isn't between
pub leads-elsewhere : (t u : ℕ → Bool) (k from link : ℕ) → ((q : ℕ) → q ≢ k → u q ≡ t q) →
    (k < from) ⊎ (link < k) → LeadsOn t from link → LeadsOn u from link
leads-elsewhere t u k from link same away l = elim away [
  | inl before ↦ record {
    onward = l.onward;
    passes = λ m. same link (λ at. let no : ⊥ = omega (arith, l.onward) in no) ∙ l.passes m;
    first = λ q a b. same q (λ at. let no : ⊥ = omega arith in no) ∙ l.first q a b;
  }
  | inr behind ↦ record {
    onward = l.onward;
    passes = λ m. same link (λ at. let no : ⊥ = omega arith in no) ∙ l.passes m;
    first = λ q a b. same q (λ at. let no : ⊥ = omega arith in no) ∙ l.first q a b;
  }
]

-- a link to a number that passes, with none before it
pub leads-here : (u : ℕ → Bool) (k from : ℕ) → from ≤ k → u k ≡ true
    → ((q : ℕ) → from ≤ q → q < k → u q ≡ false) → LeadsOn u from k
leads-here u k from a here none = record { onward = a; passes = λ m. here; first = none }

-- a link goes on past numbers that don't pass
pub leads-past : (u : ℕ → Bool) (k from link : ℕ) → from ≤ k → ((q : ℕ) → from ≤ q → q ≤ k → u q ≡ false) →
    LeadsOn u (k + 1) link → LeadsOn u from link
leads-past u k from link a none l = record {
  onward = omega (arith, l.onward);
  passes = l.passes;
  first = λ q low high. elim (cases_lt k q) [
    | inl past ↦ l.first q (omega arith) high
    | inr here ↦ none q low here
  ];
}

-- it is also one from a later number that it doesn't pass
pub leads-later : (t : ℕ → Bool) (from later link : ℕ) → from ≤ later → later ≤ link → LeadsOn t from link
    → LeadsOn t later link
leads-later t from later link a b l = record {
  onward = b;
  passes = l.passes;
  first = λ q low high. l.first q (omega arith) high;
}

-- it never goes past a number that passes
pub leads-no_further : (t : ℕ → Bool) (from link q : ℕ) → LeadsOn t from link → from ≤ q
    → t q ≡ true → link ≤ q
leads-no_further t from link q l a is = elim (cases_lt q link) [
  | inl skipped ↦ absurd (let no : true ≡ false = sym is ∙ l.first q a skipped in cc)
  | inr well ↦ well
]

-- and goes past all that don't
pub leads-beyond : (t : ℕ → Bool) (from link k : ℕ) → LeadsOn t from link → k < MOST_COPIES →
    ((q : ℕ) → from ≤ q → q ≤ k → t q ≡ false) → k < link
leads-beyond t from link k l m none = elim (cases_lt k link) [
  | inl well ↦ well
  | inr short ↦ absurd (let no : true ≡ false = sym (l.passes (omega arith)) ∙ none link l.onward short in cc)
]

-- a walk has come to this link, behind the last number below the limit, if there is one yet
abbrev pub IsReached : (ℕ → Bool) → ℕ → Option ℕ → ℕ → Type 0
IsReached t limit None link = LeadsOn t 0 link
IsReached t limit (Some last) link = (last < limit) × (t last ≡ true) × LeadsOn t (last + 1) link

-- a link that the walk has come to leads to a number that passes
pub reached-passes : (t : ℕ → Bool) (limit : ℕ) (o : Option ℕ) (link : ℕ) → IsReached t limit o link
    → link < MOST_COPIES → t link ≡ true
reached-passes t limit None link l m = l.passes m
reached-passes t limit (Some last) link l m = l.2.passes m

-- the last number below a limit is below all that are above the limit
pub last-room : (t : ℕ → Bool) (limit n : ℕ) (o : Option ℕ) → IsLastBelow t limit o → limit < n
    → IfSome o (λ last. last < n)
last-room t limit n None l m = tt
last-room t limit n (Some last) l m = let small : last < limit = l.0 in omega arith
