-- What lending, ending and renewing keep of the counts.
use Rattle.std.proofs.Common.{◌≡◌, ◌≢◌, ℕ, ◌+◌, ◌<◌, ◌≤◌, ◌^◌, ◌==◌, true, false, Option, None, Some, List}
use Rattle.std.proofs.Common.{length, get_or, set}
use Rattle.std.proofs.Common.{get_or-set_other, refl, ap, arith, ◌∙◌, sym, inl, inr}
use Rattle.std.proofs.Math.ListN.{length-set}
use Rattle.std.proofs.lemmas.Bool.Decides.{nat_tests, Decides-eqb}
use Rattle.std.proofs.lemmas.Bool.{cases_Bool}
use Rattle.std.proofs.lemmas.Grind.{get_or-set_at}
use Rattle.std.specs.Ordering.{nat_cmp}
use Rattle.std.specs.FinMap.{FinMap, get, insert, remove, empty, get-empty}
use Rattle.hd_lemmas.proofs.Maps.{get-insert_number, get-remove_number}
use Rattle.hd_rules.specs.declared.copies.Loan.{Loan}
use Rattle.hd_loans.specs.Counts.{is_loan_to, loans_of, AreLoanCounts, with_renewal, renewed_loan}
use Rattle.hd_lemmas.proofs.Counts.{one, count_below-same, count_below-changed, count_below-none}
use Rattle.hd_lemmas.proofs.Counts.{count_below-some, count_below-free}

-- a loan changes the answer for its copy alone
pub insert_other : (m : FinMap nat_cmp Loan) (k p : ℕ) (loan : Loan) (q : ℕ) → q ≢ k →
    is_loan_to p (get (insert m k loan) q) ≡ is_loan_to p (get m q)
insert_other m k p loan q ne = ap (is_loan_to p) (get-insert_number m k loan q ∙ grind (arith, nat_tests))

pub insert_here : (m : FinMap nat_cmp Loan) (k p : ℕ) (loan : Loan)
    → is_loan_to p (get (insert m k loan) k) ≡ (loan.patron == p)
insert_here m k p loan =
    let here : get (insert m k loan) k ≡ Some loan = get-insert_number m k loan k ∙ grind (arith, nat_tests)
    in ap (is_loan_to p) here

-- and adds one to the number of its patron's loans
pub loans_of-insert : (m : FinMap nat_cmp Loan) (n k p : ℕ) (loan : Loan) → k < n → get m k ≡ None →
    loans_of (insert m k loan) n p ≡ loans_of m n p + one (loan.patron == p)
loans_of-insert m n k p loan l none =
    let changed =
    count_below-changed (λ c. is_loan_to p (get m c)) (λ c. is_loan_to p (get (insert m k loan) c)) n k l
    (insert_other m k p loan)
    in let before : is_loan_to p (get m k) ≡ false = ap (is_loan_to p) none
    in let after : is_loan_to p (get (insert m k loan) k) ≡ (loan.patron == p) = insert_here m k p loan
    in omega (arith, changed, ap one before, ap one after)

pub remove_other : (m : FinMap nat_cmp Loan) (k p : ℕ) (q : ℕ) → q ≢ k
    → is_loan_to p (get (remove m k) q) ≡ is_loan_to p (get m q)
remove_other m k p q ne = ap (is_loan_to p) (get-remove_number m k q ∙ grind (arith, nat_tests))

pub remove_here : (m : FinMap nat_cmp Loan) (k p : ℕ) → is_loan_to p (get (remove m k) k) ≡ false
remove_here m k p =
    let here : get (remove m k) k ≡ None = get-remove_number m k k ∙ grind (arith, nat_tests)
    in ap (is_loan_to p) here

-- a loan that ends takes one from it
pub loans_of-remove : (m : FinMap nat_cmp Loan) (n k p : ℕ) (loan : Loan) → k < n → get m k ≡ Some loan →
    loans_of (remove m k) n p + one (loan.patron == p) ≡ loans_of m n p
loans_of-remove m n k p loan l some =
    let changed = count_below-changed (λ c. is_loan_to p (get m c))
    (λ c. is_loan_to p (get (remove m k) c)) n k l (remove_other m k p)
    in let before : is_loan_to p (get m k) ≡ (loan.patron == p) = ap (is_loan_to p) some
    in let after : is_loan_to p (get (remove m k) k) ≡ false = remove_here m k p
    in omega (arith, changed, ap one before, ap one after)

-- one number of the list is written
set_count : (cs : List ℕ) (i p v w : ℕ) → i < length cs → ((p ≡ i) → v ≡ w) → ((p ≢ i) → get_or cs p 0 ≡ w)
    → get_or (set cs i v) p 0 ≡ w
set_count cs i p v w l same other = elim (cases_Bool (p == i)) [
  | inl e ↦ let at : p ≡ i = (Decides-eqb p i).0 e in get_or-set_at cs i p v 0 at l ∙ same at
  | inr e ↦ let apart : p ≢ i = λ at. grind (arith, nat_tests) in
      get_or-set_other cs i p v 0 apart ∙ other apart
]

-- without loans each count is 0
pub AreCounts-empty : (n : ℕ) (cs : List ℕ) → n < 2 ^ 32 → ((p : ℕ) → p < length cs → get_or cs p 0 ≡ 0)
    → AreLoanCounts empty n cs
AreCounts-empty n cs few zeros = record {
  each = λ p l. zeros p l ∙ sym
      (count_below-none (λ c. is_loan_to p (get empty c)) n (λ k m. ap (is_loan_to p) (get-empty nat_cmp k)));
  within = λ copy loan e. absurd (let none = get-empty {X = Loan} nat_cmp copy in cc);
  few = few;
}

lend_each : (m : FinMap nat_cmp Loan) (n k v : ℕ) (cs : List ℕ) (loan : Loan) → AreLoanCounts m n cs
    → get m k ≡ None → k < n → loan.patron < length cs → v ≡ get_or cs loan.patron 0 + 1 → (p : ℕ)
    → p < length cs → get_or (set cs loan.patron v) p 0 ≡ loans_of (insert m k loan) n p
lend_each m n k v cs loan a none kn pl e p l =
    let more : loans_of (insert m k loan) n p ≡ loans_of m n p + one (loan.patron == p) =
    loans_of-insert m n k p loan kn none
    in let had : get_or cs p 0 ≡ loans_of m n p = a.each p l
    in set_count cs loan.patron p v (loans_of (insert m k loan) n p) pl
    (λ at. let same : get_or cs loan.patron 0 ≡ get_or cs p 0 = ap (λ i. get_or cs i 0) (sym at) in
    grind (arith, nat_tests, more, had, same, e, at))
    (λ apart. grind (arith, nat_tests, more, had, apart))

lend_within : (m : FinMap nat_cmp Loan) (n k : ℕ) (cs : List ℕ) (loan : Loan) → AreLoanCounts m n cs
    → k < n → loan.patron < length cs → (copy : ℕ) (other : Loan) → get (insert m k loan) copy ≡ Some other
    → (copy < n) × (other.patron < length cs)
lend_within m n k cs loan a kn pl copy other s = elim (cases_Bool (copy == k)) [
  | inl e ↦
      let same : Some loan ≡ Some other = sym (get-insert_number m k loan copy ∙ rw e) ∙ s
      in (grind (arith, nat_tests), grind (arith, same))
  | inr e ↦ a.within copy other (sym (get-insert_number m k loan copy ∙ rw e) ∙ s)
]

end_each : (m : FinMap nat_cmp Loan) (n k v : ℕ) (cs : List ℕ) (loan : Loan) → AreLoanCounts m n cs
    → get m k ≡ Some loan → v + 1 ≡ get_or cs loan.patron 0 → (p : ℕ) → p < length cs
    → get_or (set cs loan.patron v) p 0 ≡ loans_of (remove m k) n p
end_each m n k v cs loan a some e p l =
    let less : loans_of (remove m k) n p + one (loan.patron == p) ≡ loans_of m n p =
    loans_of-remove m n k p loan (a.within k loan some).0 some
    in let had : get_or cs p 0 ≡ loans_of m n p = a.each p l
    in set_count cs loan.patron p v (loans_of (remove m k) n p) (a.within k loan some).1
    (λ at. let same : get_or cs loan.patron 0 ≡ get_or cs p 0 = ap (λ i. get_or cs i 0) (sym at) in
    grind (arith, nat_tests, less, had, same, e, at))
    (λ apart. grind (arith, nat_tests, less, had, apart))

end_within : (m : FinMap nat_cmp Loan) (n k : ℕ) (cs : List ℕ) → AreLoanCounts m n cs
    → (copy : ℕ) (other : Loan) → get (remove m k) copy ≡ Some other → (copy < n) × (other.patron < length cs)
end_within m n k cs a copy other s = elim (cases_Bool (copy == k)) [
  | inl e ↦ absurd (let none : get (remove m k) copy ≡ None = get-remove_number m k copy ∙ rw e in cc)
  | inr e ↦ a.within copy other (sym (get-remove_number m k copy ∙ rw e) ∙ s)
]

pub replace_alike : (m : FinMap nat_cmp Loan) (k p : ℕ) (loan other : Loan) → get m k ≡ Some loan
    → other.patron ≡ loan.patron → (c : ℕ) → is_loan_to p (get (insert m k other) c) ≡ is_loan_to p (get m c)
replace_alike m k p loan other some same c = elim (cases_Bool (c == k)) [
  | inl e ↦
      let at : c ≡ k = (Decides-eqb c k).0 e
      in rw (at, some) (insert_here m k p other ∙ ap (λ q. q == p) same)
  | inr e ↦ insert_other m k p other c (λ at. grind (arith, nat_tests))
]

-- a copy is lent, and its patron's number is one more
pub AreCounts-lend : (m : FinMap nat_cmp Loan) (n k v : ℕ) (cs : List ℕ) (loan : Loan) → AreLoanCounts m n cs
    → get m k ≡ None → k < n → loan.patron < length cs → v ≡ get_or cs loan.patron 0 + 1
    → AreLoanCounts (insert m k loan) n (set cs loan.patron v)
AreCounts-lend m n k v cs loan a none kn pl e = record {
  each = λ p l. lend_each m n k v cs loan a none kn pl e p (rw length-set at l);
  within = λ copy other s. rw length-set (lend_within m n k cs loan a kn pl copy other s);
  few = a.few;
}

-- a loan ends, and its patron's number is one less
pub AreCounts-end : (m : FinMap nat_cmp Loan) (n k v : ℕ) (cs : List ℕ) (loan : Loan)
    → AreLoanCounts m n cs → get m k ≡ Some loan → v + 1 ≡ get_or cs loan.patron 0
    → AreLoanCounts (remove m k) n (set cs loan.patron v)
AreCounts-end m n k v cs loan a some e = record {
  each = λ p l. end_each m n k v cs loan a some e p (rw length-set at l);
  within = λ copy other s. rw length-set (end_within m n k cs a copy other s);
  few = a.few;
}

-- another loan of the copy to the same patron
pub AreCounts-replace : (m : FinMap nat_cmp Loan) (n k : ℕ) (cs : List ℕ) (loan other : Loan)
    → AreLoanCounts m n cs → get m k ≡ Some loan → other.patron ≡ loan.patron
    → AreLoanCounts (insert m k other) n cs
AreCounts-replace m n k cs loan other a some same = record {
  each = λ p l. a.each p l
      ∙ sym (count_below-same (λ c. is_loan_to p (get m c)) (λ c. is_loan_to p (get (insert m k other) c)) n
      (λ c _. replace_alike m k p loan other some same c));
  within = λ copy which s. lend_within m n k cs other a (a.within k loan some).0
      (rw same (a.within k loan some).1) copy which s;
  few = a.few;
}

-- a patron with a loan is counted once at least
pub counted : (m : FinMap nat_cmp Loan) (n k : ℕ) (cs : List ℕ) (loan : Loan) → AreLoanCounts m n cs
    → get m k ≡ Some loan → 1 ≤ get_or cs loan.patron 0
counted m n k cs loan a some =
    let lent : is_loan_to loan.patron (get m k) ≡ true =
    ap (is_loan_to loan.patron) some ∙ grind (arith, nat_tests)
    in let one : 1 ≤ loans_of m n loan.patron =
    count_below-some (λ c. is_loan_to loan.patron (get m c)) n k (a.within k loan some).0 lent
    in omega (arith, one, a.each loan.patron (a.within k loan some).1)

-- while a copy is not on loan, no patron has as many loans as there are copies
pub not_all : (m : FinMap nat_cmp Loan) (n k p : ℕ) (cs : List ℕ) → AreLoanCounts m n cs → get m k ≡ None
    → k < n → p < length cs → get_or cs p 0 < n
not_all m n k p cs a none kn pl =
    let fewer : loans_of m n p < n =
    count_below-free (λ c. is_loan_to p (get m c)) n k kn (ap (is_loan_to p) none)
    in omega (arith, fewer, a.each p pl)

pub not_lent : (o : Option Loan) (p n : ℕ) → n ≤ p → ((loan : Loan) → o ≡ Some loan → loan.patron < n)
    → is_loan_to p o ≡ false
not_lent None p n l h = refl
not_lent (Some loan) p n l h = grind (arith, nat_tests, h loan refl)

-- patrons above all that have room have no loans
pub loans_of-past : (m : FinMap nat_cmp Loan) (n : ℕ) (cs : List ℕ) (p : ℕ) → AreLoanCounts m n cs
    → length cs ≤ p → loans_of m n p ≡ 0
loans_of-past m n cs p a l =
    count_below-none (λ c. is_loan_to p (get m c)) n
    (λ c _. not_lent (get m c) p (length cs) l (λ loan e. (a.within c loan e).1))

-- a loan is renewed
pub AreCounts-renew : (m : FinMap nat_cmp Loan) (n k due : ℕ) (cs : List ℕ) → AreLoanCounts m n cs →
    AreLoanCounts (with_renewal m k due) n cs
AreCounts-renew m n k due cs a = by_loan (get m k) refl
  where
    by_loan : (o : Option Loan) → get m k ≡ o →
        AreLoanCounts (elim o [ None ↦ m | Some loan ↦ insert m k (renewed_loan loan due) ]) n cs
    by_loan None e = a
    by_loan (Some loan) e = AreCounts-replace m n k cs loan (renewed_loan loan due) a e refl
