-- How many numbers of a span pass a test, and what one number more or fewer does to the counts.
use Rattle.std.proofs.Common.{◌≡◌, ◌≢◌, ℕ, zero, suc, ◌+◌, ◌-◌, ◌*◌, ◌/◌, ◌<◌, ◌≤◌, Bool, true, false, cond}
use Rattle.std.proofs.Common.{List, length, get_or, set}
use Rattle.std.proofs.Common.{refl, sym, ap, ◌∙◌, inl, inr, arith, get_or-set_same, get_or-set_other}
use Rattle.std.proofs.Common.{length-set}
use Rattle.std.specs.Prelude.{slice_index}
use Rattle.std.specs.List.{range_with_len}
use Rattle.std.proofs.lemmas.Bool.{cases_lt, cases_eq, true≢false}
use Rattle.std.proofs.lemmas.List.{get_or_past}
use Rattle.std.proofs.lemmas.List.FromFn.{length-range_with_len}
use Rattle.std.proofs.lemmas.List.Sums.{sum_by-cons, count_by-le-length}
use Rattle.hd_shelf.specs.declared.boards.TheConstants.{SPAN}
use Rattle.hd_shelf.specs.Taken.{count_from, AreCounts}

-- nothing is counted of no numbers
empty : (test : ℕ → Bool) (first : ℕ) → count_from test first zero ≡ 0
unfolding count_from
empty test first = refl

-- the first number counts if it passes
step : (test : ℕ → Bool) (first many : ℕ) →
    count_from test first (suc many) ≡ cond (test first) 1 0 + count_from test (first + 1) many
unfolding count_from
step test first many = sum_by-cons (λ k. cond (test k) 1 0) first (range_with_len (first + 1) many)

-- no more pass than there are
pub count_from-le : (test : ℕ → Bool) (first many : ℕ) → count_from test first many ≤ many
unfolding count_from
count_from-le test first many =
    omega (arith, count_by-le-length test (range_with_len first many), length-range_with_len first many)

one_at_most : (b : Bool) → cond b 1 0 ≤ 1
one_at_most true = omega arith
one_at_most false = omega arith

-- and fewer where one fails
pub count_from-lt : (test : ℕ → Bool) (first many at : ℕ) → first ≤ at → at < first + many → test at ≡ false →
    count_from test first many < many
count_from-lt test first zero at low high off = absurd (omega arith)
count_from-lt test first (suc many) at low high off = elim (cases_lt first at) [
  | inl later ↦
      omega (
        arith,
        step test first many,
        one_at_most (test first),
        count_from-lt test (first + 1) many at (omega arith) (omega arith) off,
      )
  | inr now ↦
      let is : at ≡ first = omega arith
      in let here : test first ≡ false = ap test (sym is) ∙ off
      in rw (step test first many, here) (omega (arith, count_from-le test (first + 1) many))
]

-- tests that agree on these numbers pass as many
pub same_count : (test other : ℕ → Bool) (first many : ℕ)
    → ((k : ℕ) → first ≤ k → k < first + many → test k ≡ other k)
    → count_from test first many ≡ count_from other first many
same_count test other first zero same = empty test first ∙ sym (empty other first)
same_count test other first (suc many) same =
    let here : test first ≡ other first = same first (omega arith) (omega arith)
    in let rest : count_from test (first + 1) many ≡ count_from other (first + 1) many =
    same_count test other (first + 1) many (λ k low high. same k (omega arith) (omega arith))
    in rw (step test first many, step other first many, here, rest)

-- one number that passes besides is one more
pub one_more : (test other : ℕ → Bool) (first many at : ℕ) → first ≤ at → at < first + many
    → test at ≡ false → other at ≡ true → ((k : ℕ) → k ≢ at → test k ≡ other k)
    → count_from other first many ≡ count_from test first many + 1
one_more test other first zero at low high off on same = absurd (omega arith)
one_more test other first (suc many) at low high off on same = elim (cases_lt first at) [
  | inl later ↦
      let here : test first ≡ other first = same first (λ e. omega arith)
      in let rest : count_from other (first + 1) many ≡ count_from test (first + 1) many + 1 =
      one_more test other (first + 1) many at (omega arith) (omega arith) off on same
      in rw (step test first many, step other first many, here, rest) (omega arith)
  | inr now ↦
      let is : at ≡ first = omega arith
      in let before : test first ≡ false = ap test (sym is) ∙ off
      in let after : other first ≡ true = ap other (sym is) ∙ on
      in let rest : count_from test (first + 1) many ≡ count_from other (first + 1) many =
      same_count test other (first + 1) many (λ k above below. same k (λ e. omega arith))
      in rw (step test first many, step other first many, before, after, rest) (omega arith)
]

-- none is counted where none passes
pub none_counted : (test : ℕ → Bool) (first many : ℕ)
    → ((k : ℕ) → first ≤ k → k < first + many → test k ≡ false) → count_from test first many ≡ 0
none_counted test first zero off = empty test first
none_counted test first (suc many) off =
    let here : test first ≡ false = off first (omega arith) (omega arith)
    in rw (step test first many, here)
    (omega (arith, none_counted test (first + 1) many (λ k low high. off k (omega arith) (omega arith))))

off_if_none : (b : Bool) (n : ℕ) → cond b 1 0 + n ≡ 0 → b ≡ false
off_if_none true n e = absurd (omega arith)
off_if_none false n e = refl

-- none passes where none is counted
pub fails : (test : ℕ → Bool) (first many k : ℕ) → count_from test first many ≡ 0 → first ≤ k
    → k < first + many → test k ≡ false
fails test first zero k none low high = absurd (omega arith)
fails test first (suc many) k none low high =
    let parts : cond (test first) 1 0 + count_from test (first + 1) many ≡ 0 =
    sym (step test first many) ∙ none
    in elim (cases_lt first k) [
      | inl later ↦ fails test (first + 1) many k (omega arith) (omega arith) (omega arith)
      | inr now ↦
          let is : k ≡ first = omega arith
          in ap test is ∙ off_if_none (test first) (count_from test (first + 1) many) parts
    ]

-- what passes is counted
pub counted : (test : ℕ → Bool) (first many k : ℕ) → test k ≡ true → first ≤ k → k < first + many
    → 1 ≤ count_from test first many
counted test first many k on low high = elim (cases_lt 0 (count_from test first many)) [
  | inl some ↦ omega arith
  | inr none ↦
      let nothing : count_from test first many ≡ 0 = omega arith
      in absurd (true≢false (sym on ∙ fails test first many k nothing low high))
]

-- a span has no more than its numbers, and fewer where one fails
pub AreCounts-le : (test : ℕ → Bool) (counts : List ℕ) (span : ℕ) → AreCounts test counts
    → span < length counts → slice_index counts span ≤ SPAN
AreCounts-le test counts span are within =
    omega (arith, are.each span within, count_from-le test (SPAN * span) SPAN)

pub AreCounts-lt : (test : ℕ → Bool) (counts : List ℕ) (at : ℕ) → AreCounts test counts
    → at / SPAN < length counts → test at ≡ false → slice_index counts (at / SPAN) < SPAN
AreCounts-lt test counts at are within off =
    omega (
      arith,
      are.each (at / SPAN) within,
      count_from-lt test (SPAN * (at / SPAN)) SPAN at (omega arith) (omega arith) off,
    )

-- what passes is counted in its span
pub AreCounts-some : (test : ℕ → Bool) (counts : List ℕ) (at : ℕ) → AreCounts test counts
    → at / SPAN < length counts → test at ≡ true → 0 < slice_index counts (at / SPAN)
AreCounts-some test counts at are within on =
    omega (
      arith,
      are.each (at / SPAN) within,
      counted test (SPAN * (at / SPAN)) SPAN at on (omega arith) (omega arith),
    )

-- none passes in a span that counts none
pub AreCounts-none : (test : ℕ → Bool) (counts : List ℕ) (at : ℕ) → AreCounts test counts
    → at / SPAN < length counts → slice_index counts (at / SPAN) ≡ 0 → test at ≡ false
AreCounts-none test counts at are within none =
    fails test (SPAN * (at / SPAN)) SPAN at (sym (are.each (at / SPAN) within) ∙ none) (omega arith)
    (omega arith)

-- a span that counts some doesn't lie where none passes
pub AreCounts-begins : (test : ℕ → Bool) (counts : List ℕ) (span end : ℕ) → AreCounts test counts
    → span < length counts → 0 < slice_index counts span → ((k : ℕ) → end ≤ k → test k ≡ false)
    → SPAN * span < end
AreCounts-begins test counts span end are within some off = elim (cases_lt (SPAN * span) end) [
  | inl before ↦ before
  | inr past ↦
      let none = none_counted test (SPAN * span) SPAN (λ k low high. off k (omega arith))
      in absurd (omega (arith, are.each span within, none))
]

-- the counts of a test are those of one that agrees with it
pub AreCounts-agree : (test other : ℕ → Bool) (counts : List ℕ) → AreCounts test counts
    → ((k : ℕ) → test k ≡ other k) → AreCounts other counts
AreCounts-agree test other counts are same = record {
  each = λ span within. are.each span within
      ∙ same_count test other (SPAN * span) SPAN (λ k low high. same k);
}

-- spans behind the others, in which none passes, count none
pub AreCounts-longer : (test : ℕ → Bool) (counts more : List ℕ) → AreCounts test counts
    → ((span : ℕ) → slice_index more span ≡ slice_index counts span)
    → ((k : ℕ) → SPAN * length counts ≤ k → test k ≡ false) → AreCounts test more
AreCounts-longer test counts more are same off = record {
  each = λ span within. elim (cases_lt span (length counts)) [
    | inl there ↦ same span ∙ are.each span there
    | inr past ↦ same span ∙ get_or_past counts span 0 past
        ∙ sym (none_counted test (SPAN * span) SPAN (λ k low high. off k (omega arith)))
  ];
}

-- where one number changes, other spans count as before
others_stay : (test other : ℕ → Bool) (counts : List ℕ) (at span value : ℕ) → AreCounts test counts →
    ((k : ℕ) → k ≢ at → test k ≡ other k) → span ≢ at / SPAN → span < length counts →
    get_or (set counts (at / SPAN) value) span 0 ≡ count_from other (SPAN * span) SPAN
others_stay test other counts at span value are same apart within =
    get_or-set_other counts (at / SPAN) span value 0 apart ∙ are.each span within
    ∙ same_count test other (SPAN * span) SPAN (λ k low high. same k (λ e. apart (omega arith)))

-- one count is written, that of the span of a number that changes
written : (test other : ℕ → Bool) (counts : List ℕ) (at value : ℕ) → AreCounts test counts
    → at / SPAN < length counts → ((k : ℕ) → k ≢ at → test k ≡ other k)
    → value ≡ count_from other (SPAN * (at / SPAN)) SPAN → AreCounts other (set counts (at / SPAN) value)
written test other counts at value are within same is = record {
  each = λ span there. elim (cases_eq span (at / SPAN)) [
    | inl here ↦ rw here (get_or-set_same counts (at / SPAN) value 0 within ∙ is)
    | inr apart ↦ others_stay test other counts at span value are same apart
        (omega (arith, there, length-set counts (at / SPAN) value))
  ];
}

-- one number that passes besides raises the count of its span
pub AreCounts-raise : (test other : ℕ → Bool) (counts : List ℕ) (at : ℕ) → AreCounts test counts
    → at / SPAN < length counts → test at ≡ false → other at ≡ true → ((k : ℕ) → k ≢ at → test k ≡ other k)
    → AreCounts other (set counts (at / SPAN) (slice_index counts (at / SPAN) + 1))
AreCounts-raise test other counts at are within off on same =
    let more = one_more test other (SPAN * (at / SPAN)) SPAN at (omega arith) (omega arith) off on same
    in written test other counts at (slice_index counts (at / SPAN) + 1) are within same
    (omega (arith, more, are.each (at / SPAN) within))

-- and one that passes no more lowers it
pub AreCounts-lower : (test other : ℕ → Bool) (counts : List ℕ) (at : ℕ) → AreCounts test counts
    → at / SPAN < length counts → test at ≡ true → other at ≡ false → ((k : ℕ) → k ≢ at → test k ≡ other k)
    → AreCounts other (set counts (at / SPAN) (slice_index counts (at / SPAN) - 1))
AreCounts-lower test other counts at are within on off same =
    let more = one_more other test (SPAN * (at / SPAN)) SPAN at (omega arith) (omega arith) off on
    (λ k apart. sym (same k apart))
    in written test other counts at (slice_index counts (at / SPAN) - 1) are within same
    (omega (arith, more, are.each (at / SPAN) within))
