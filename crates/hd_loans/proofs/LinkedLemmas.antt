-- What lending, ending and renewing keep of the lists of the patrons' copies.
use Rattle.std.proofs.Common.{◌≡◌, ◌≢◌, ℕ, ◌+◌, ◌<◌, ◌≤◌, ◌==◌, true, false, Option, None, Some, List, length}
use Rattle.std.proofs.Common.{get_or, set, get_or-set_other, refl, ap, arith, ◌∙◌, sym, inl, inr}
use Rattle.std.proofs.Math.ListN.{length-set}
use Rattle.std.proofs.lemmas.Bool.Decides.{nat_tests, Decides-eqb}
use Rattle.std.proofs.lemmas.Bool.{cases_Bool, cases_lt, eqb-true, eq-eqb}
use Rattle.std.proofs.lemmas.Grind.{get_or-set_at}
use Rattle.std.specs.Ordering.{nat_cmp}
use Rattle.std.specs.FinMap.{get, insert, remove, empty, get-empty}
use Rattle.hd_lemmas.proofs.Maps.{get-insert_number, get-remove_number}
use Rattle.hd_rules.specs.declared.copies.Loan.{Loan}
use Rattle.hd_rules.specs.declared.limits.TheConstants.{MOST_COPIES}
use Rattle.hd_loans.specs.LoansValue.{LoansMap}
use Rattle.hd_loans.specs.Counts.{AreBelow, is_loan_to}
use Rattle.hd_loans.specs.Lent.{is_lent_to}
use Rattle.hd_loans.specs.Links.{LeadsOn, IsLastBelow, AreKnown, AreLinked, LinksValue}
use Rattle.hd_loans.proofs.LoansLemmas.{insert_other, insert_here, remove_other, remove_here, replace_alike}
use Rattle.hd_loans.proofs.LinksLemmas.{leads-same, leads-elsewhere, leads-here, leads-past, leads-later}
use Rattle.hd_loans.proofs.LinksLemmas.{leads-no_further, leads-beyond}

-- links to the first copies, and to the next ones
abbrev pub both : List ℕ → List ℕ → LinksValue
both fs ns = record { firsts = fs; nexts = ns }

-- a copy is lent to one patron
one_patron : (o : Option Loan) (p q : ℕ) → is_loan_to p o ≡ true → is_loan_to q o ≡ true → p ≡ q
one_patron None p q a b = absurd (let no : false ≡ true = a in cc)
one_patron (Some loan) p q a b = sym (eqb-true loan.patron p a) ∙ eqb-true loan.patron q b

-- and then there is a loan
lent_some : (m : LoansMap) (p c : ℕ) → is_lent_to m p c ≡ true → (loan : Loan) × (get m c ≡ Some loan)
lent_some m p c is = some (get m c) refl is
  where
    some : (o : Option Loan) → get m c ≡ o → is_loan_to p o ≡ true → (loan : Loan) × (get m c ≡ Some loan)
    some None e b = absurd (let no : false ≡ true = b in cc)
    some (Some loan) e b = (loan, e)

-- so it has a number and room
pub lent_known : (m : LoansMap) (n ps p c : ℕ) → AreKnown m n ps → is_lent_to m p c ≡ true →
    (c < n) × (c < MOST_COPIES)
lent_known m n ps p c a is =
    let some = lent_some m p c is in ((a.within c some.0 some.1).0, (a.known c some.0 some.1).0)

-- no loans are known
pub AreKnown-empty : (n ps : ℕ) → AreKnown empty n ps
AreKnown-empty n ps = record {
  within = λ c loan e. absurd (let none = get-empty {X = Loan} nat_cmp c in cc);
  known = λ c loan e. absurd (let none = get-empty {X = Loan} nat_cmp c in cc);
}

below-insert : (m : LoansMap) (n ps k : ℕ) (loan : Loan) → AreBelow m n ps → k < n → loan.patron < ps →
    AreBelow (insert m k loan) n ps
below-insert m n ps k loan a kn pl copy other s = elim (cases_Bool (copy == k)) [
  | inl e ↦
      let same : Some loan ≡ Some other = sym (get-insert_number m k loan copy ∙ rw e) ∙ s
      in (grind (arith, nat_tests), grind (arith, same))
  | inr e ↦ a copy other (sym (get-insert_number m k loan copy ∙ rw e) ∙ s)
]

below-remove : (m : LoansMap) (n ps k : ℕ) → AreBelow m n ps → AreBelow (remove m k) n ps
below-remove m n ps k a copy other s = elim (cases_Bool (copy == k)) [
  | inl e ↦ absurd (let none : get (remove m k) copy ≡ None = get-remove_number m k copy ∙ rw e in cc)
  | inr e ↦ a copy other (sym (get-remove_number m k copy ∙ rw e) ∙ s)
]

pub AreKnown-insert : (m : LoansMap) (n ps k : ℕ) (loan : Loan) → AreKnown m n ps → k < n → k < MOST_COPIES →
    loan.patron < ps → AreKnown (insert m k loan) n ps
AreKnown-insert m n ps k loan a kn km pl = record {
  within = below-insert m n ps k loan a.within kn pl;
  known = below-insert m MOST_COPIES ps k loan a.known km pl;
}

pub AreKnown-remove : (m : LoansMap) (n ps k : ℕ) → AreKnown m n ps → AreKnown (remove m k) n ps
AreKnown-remove m n ps k a = record {
  within = below-remove m n ps k a.within;
  known = below-remove m MOST_COPIES ps k a.known;
}

-- other patrons' tests are what they were, where a free copy is lent
insert_others : (m : LoansMap) (k : ℕ) (loan : Loan) (p : ℕ) → get m k ≡ None → p ≢ loan.patron → (q : ℕ) →
    is_lent_to (insert m k loan) p q ≡ is_lent_to m p q
insert_others m k loan p none apart q = elim (cases_Bool (q == k)) [
  | inl e ↦
      let at : q ≡ k = eqb-true q k e
      in let before : is_lent_to m p k ≡ false = ap (is_loan_to p) none
      in let other : (loan.patron == p) ≡ false = grind (arith, nat_tests)
      in rw at (insert_here m k p loan ∙ other ∙ sym before)
  | inr e ↦ insert_other m k p loan q (λ at. grind (arith, nat_tests))
]

-- and where its loan ends
remove_others : (m : LoansMap) (k : ℕ) (loan : Loan) (p : ℕ) → get m k ≡ Some loan → p ≢ loan.patron → (q : ℕ)
    → is_lent_to (remove m k) p q ≡ is_lent_to m p q
remove_others m k loan p some apart q = elim (cases_Bool (q == k)) [
  | inl e ↦
      let at : q ≡ k = eqb-true q k e
      in let before : is_lent_to m p k ≡ (loan.patron == p) = ap (is_loan_to p) some
      in let other : (loan.patron == p) ≡ false = grind (arith, nat_tests)
      in rw at (remove_here m k p ∙ sym (before ∙ other))
  | inr e ↦ remove_other m k p q (λ at. grind (arith, nat_tests))
]

-- a copy that is lent afterwards, and isn't the one, was lent before
was_lent : (m : LoansMap) (k : ℕ) (loan : Loan) (p c : ℕ) → c ≢ k → is_lent_to (insert m k loan) p c ≡ true →
    is_lent_to m p c ≡ true
was_lent m k loan p c apart is = sym (insert_other m k p loan c apart) ∙ is

still_lent : (m : LoansMap) (k p c : ℕ) → is_lent_to (remove m k) p c ≡ true →
    (c ≢ k) × (is_lent_to m p c ≡ true)
still_lent m k p c is =
    let apart : c ≢ k = λ at. let no : true ≡ false = sym is ∙ rw at (remove_here m k p) in cc
    in (apart, sym (remove_other m k p c apart) ∙ is)

-- the copy that is lent now is its patron's
now_lent : (m : LoansMap) (k : ℕ) (loan : Loan) (p c : ℕ) → c ≡ k → is_lent_to (insert m k loan) p c ≡ true →
    p ≡ loan.patron
now_lent m k loan p c same is =
    let here : (loan.patron == p) ≡ true = sym (insert_here m k p loan) ∙ (rw same at is)
    in sym (eqb-true loan.patron p here)

is_lent_now : (m : LoansMap) (k : ℕ) (loan : Loan) → is_lent_to (insert m k loan) loan.patron k ≡ true
is_lent_now m k loan = insert_here m k loan.patron loan ∙ eq-eqb loan.patron loan.patron refl

-- the copy wasn't lent
was_free : (m : LoansMap) (p k : ℕ) → get m k ≡ None → is_lent_to m p k ≡ false
was_free m p k none = ap (is_loan_to p) none

-- no copy up to one is lent where it isn't, and none below it is
none_to : (m : LoansMap) (p k from : ℕ) → is_lent_to m p k ≡ false
    → ((q : ℕ) → from ≤ q → q < k → is_lent_to m p q ≡ false) → (q : ℕ) → from ≤ q → q ≤ k
    → is_lent_to m p q ≡ false
none_to m p k from here below q low high = elim (cases_lt q k) [
  | inl small ↦ below q low small
  | inr at ↦
      let same : q ≡ k = omega arith
      in rw same here
]

-- the link from the copy that is lent now is the one that led past it
lent_next : (m : LoansMap) (k : ℕ) (loan : Loan) (from link : ℕ) → get m k ≡ None
    → k < MOST_COPIES → from ≤ k → ((q : ℕ) → from ≤ q → q < k → is_lent_to m loan.patron q ≡ false)
    → LeadsOn (is_lent_to m loan.patron) from link
    → LeadsOn (is_lent_to (insert m k loan) loan.patron) (k + 1) link
lent_next m k loan from link none km low below l =
    let t = is_lent_to m loan.patron
    in let past : k < link =
    leads-beyond t from link k l km (none_to m loan.patron k from (was_free m loan.patron k none) below)
    in leads-elsewhere t (is_lent_to (insert m k loan) loan.patron) k (k + 1) link
    (insert_other m k loan.patron loan)
    (inl (omega arith)) (leads-later t from (k + 1) link (omega arith) (omega arith) l)

-- and the one that led past it leads to it
lent_here : (m : LoansMap) (k : ℕ) (loan : Loan) (from : ℕ) → from ≤ k →
    ((q : ℕ) → from ≤ q → q < k → is_lent_to m loan.patron q ≡ false) →
    LeadsOn (is_lent_to (insert m k loan) loan.patron) from k
lent_here m k loan from low below =
    leads-here (is_lent_to (insert m k loan) loan.patron) k from low (is_lent_now m k loan)
    (λ q a b. insert_other m k loan.patron loan q (λ at. let no : ⊥ = omega arith in no) ∙ below q a b)

-- a link that led past a copy whose loan ends leads to what followed it
ended_past : (m : LoansMap) (k p from link : ℕ) → from ≤ k →
    ((q : ℕ) → from ≤ q → q < k → is_lent_to m p q ≡ false) → LeadsOn (is_lent_to m p) (k + 1) link →
    LeadsOn (is_lent_to (remove m k) p) from link
ended_past m k p from link low below l =
    leads-past (is_lent_to (remove m k) p) k from link low
    (none_to (remove m k) p k from (remove_here m k p)
    (λ q a b. remove_other m k p q (λ at. let no : ⊥ = omega arith in no) ∙ below q a b))
    (leads-elsewhere (is_lent_to m p) (is_lent_to (remove m k) p) k (k + 1) link (remove_other m k p)
    (inl (omega arith)) l)

-- Links of the loan's patron that don't lead past the copy.
-- behind it
insert_behind : (m : LoansMap) (k : ℕ) (loan : Loan) (p from link : ℕ) → k < from
    → LeadsOn (is_lent_to m p) from link → LeadsOn (is_lent_to (insert m k loan) p) from link
insert_behind m k loan p from link low l =
    leads-elsewhere (is_lent_to m p) (is_lent_to (insert m k loan) p) k from link
    (insert_other m k p loan) (inl low) l

remove_behind : (m : LoansMap) (k p from link : ℕ) → k < from → LeadsOn (is_lent_to m p) from link →
    LeadsOn (is_lent_to (remove m k) p) from link
remove_behind m k p from link low l =
    leads-elsewhere (is_lent_to m p) (is_lent_to (remove m k) p) k from link (remove_other m k p) (inl low) l

-- and before the last one below it
insert_before : (m : LoansMap) (k : ℕ) (loan : Loan) (p from link last : ℕ) → from ≤ last
    → last < k → is_lent_to m p last ≡ true → LeadsOn (is_lent_to m p) from link
    → LeadsOn (is_lent_to (insert m k loan) p) from link
insert_before m k loan p from link last low small is l =
    let short : link ≤ last = leads-no_further (is_lent_to m p) from link last l low is
    in leads-elsewhere (is_lent_to m p) (is_lent_to (insert m k loan) p) k from link (insert_other m k p loan)
    (inr (omega arith)) l

remove_before : (m : LoansMap) (k p from link last : ℕ) → from ≤ last → last < k → is_lent_to m p last ≡ true
    → LeadsOn (is_lent_to m p) from link → LeadsOn (is_lent_to (remove m k) p) from link
remove_before m k p from link last low small is l =
    let short : link ≤ last = leads-no_further (is_lent_to m p) from link last l low is
    in leads-elsewhere (is_lent_to m p) (is_lent_to (remove m k) p) k from link (remove_other m k p)
    (inr (omega arith)) l

-- other patrons' links
insert_away : (m : LoansMap) (k : ℕ) (loan : Loan) (p from link : ℕ) → get m k ≡ None → p ≢ loan.patron →
    LeadsOn (is_lent_to m p) from link → LeadsOn (is_lent_to (insert m k loan) p) from link
insert_away m k loan p from link none apart l =
    leads-same (is_lent_to m p) (is_lent_to (insert m k loan) p) from link
    (insert_others m k loan p none apart) l

remove_away : (m : LoansMap) (k : ℕ) (loan : Loan) (p from link : ℕ) → get m k ≡ Some loan → p ≢ loan.patron →
    LeadsOn (is_lent_to m p) from link → LeadsOn (is_lent_to (remove m k) p) from link
remove_away m k loan p from link some apart l =
    leads-same (is_lent_to m p) (is_lent_to (remove m k) p) from link (remove_others m k loan p some apart) l

-- one link of the list is written
written : (P : ℕ → Type 0) (xs : List ℕ) (i j v : ℕ) → i < length xs → (j ≡ i → P v)
    → (j ≢ i → P (get_or xs j 0)) → P (get_or (set xs i v) j 0)
written P xs i j v l same other = elim (cases_Bool (j == i)) [
  | inl e ↦ let at : j ≡ i = eqb-true j i e in rw (get_or-set_at xs i j v 0 at l) (same at)
  | inr e ↦
      let apart : j ≢ i = λ at. grind (arith, nat_tests)
      in rw (get_or-set_other xs i j v 0 apart) (other apart)
]

lend_first_first : (m : LoansMap) (n k : ℕ) (loan : Loan) (fs ns : List ℕ) → AreLinked m n (both fs ns)
    → get m k ≡ None → loan.patron < length fs → IsLastBelow (is_lent_to m loan.patron) k None → (p : ℕ)
    → p < length fs → LeadsOn (is_lent_to (insert m k loan) p) 0 (get_or (set fs loan.patron k) p 0)
lend_first_first m n k loan fs ns a none pl below p l =
    written (LeadsOn (is_lent_to (insert m k loan) p) 0) fs loan.patron p k pl
    (λ at. rw at (lent_here m k loan 0 (omega arith) (λ q _ b. below q b)))
    (λ apart. insert_away m k loan p 0 (get_or fs p 0) none apart (a.first p l))

lend_first_next : (m : LoansMap) (n k : ℕ) (loan : Loan) (fs ns : List ℕ)
    → AreLinked m n (both fs ns) → get m k ≡ None → k < n → k < MOST_COPIES → loan.patron < length fs
    → IsLastBelow (is_lent_to m loan.patron) k None → (p c : ℕ) → is_lent_to (insert m k loan) p c ≡ true
    → LeadsOn (is_lent_to (insert m k loan) p) (c + 1) (get_or (set ns k (get_or fs loan.patron 0)) c 0)
lend_first_next m n k loan fs ns a none kn km pl below p c is =
    written (LeadsOn (is_lent_to (insert m k loan) p) (c + 1)) ns k c (get_or fs loan.patron 0)
    (omega (arith, a.room))
    (λ at. rw (now_lent m k loan p c at is, at)
    (lent_next m k loan 0 (get_or fs loan.patron 0) none km (omega arith) (λ q _ b. below q b)
    (a.first loan.patron pl)))
    (λ apart.
    let was : is_lent_to m p c ≡ true = was_lent m k loan p c apart is
    in let led = a.next p c was
    in elim (cases_Bool (p == loan.patron)) [
      | inl e ↦
          let same : p ≡ loan.patron = eqb-true p loan.patron e
          in elim (cases_lt c k) [
            | inl small ↦ absurd (let no : true ≡ false = sym was ∙ rw same (below c small) in cc)
            | inr high ↦ insert_behind m k loan p (c + 1) (get_or ns c 0) (omega arith) led
          ]
      | inr e ↦ insert_away m k loan p (c + 1) (get_or ns c 0) none (λ at. grind (arith, nat_tests)) led
    ])

-- a copy is lent that is its patron's first
pub AreLinked-lend_first : (m : LoansMap) (n k : ℕ) (loan : Loan) (fs ns : List ℕ)
    → AreLinked m n (both fs ns) → get m k ≡ None → k < n → k < MOST_COPIES
    → loan.patron < length fs → IsLastBelow (is_lent_to m loan.patron) k None
    → AreLinked (insert m k loan) n (both (set fs loan.patron k) (set ns k (get_or fs loan.patron 0)))
AreLinked-lend_first m n k loan fs ns a none kn km pl below = record {
  loan = rw length-set (AreKnown-insert m n (length fs) k loan a.loan kn km pl);
  room = length-set ns k (get_or fs loan.patron 0) ∙ a.room;
  first = λ p l. lend_first_first m n k loan fs ns a none pl below p (rw length-set at l);
  next = λ p c is. lend_first_next m n k loan fs ns a none kn km pl below p c is;
}

lend_behind_first : (m : LoansMap) (n k : ℕ) (loan : Loan) (last : ℕ) (fs ns : List ℕ)
    → AreLinked m n (both fs ns) → get m k ≡ None → IsLastBelow (is_lent_to m loan.patron) k (Some last)
    → (p : ℕ) → p < length fs → LeadsOn (is_lent_to (insert m k loan) p) 0 (get_or fs p 0)
lend_behind_first m n k loan last fs ns a none below p l = elim (cases_Bool (p == loan.patron)) [
  | inl e ↦
      let same : p ≡ loan.patron = eqb-true p loan.patron e
      in insert_before m k loan p 0 (get_or fs p 0) last (omega arith) below.0 (rw same below.1) (a.first p l)
  | inr e ↦ insert_away m k loan p 0 (get_or fs p 0) none (λ at. grind (arith, nat_tests)) (a.first p l)
]

lend_behind_next : (m : LoansMap) (n k : ℕ) (loan : Loan) (last : ℕ) (fs ns : List ℕ)
    → AreLinked m n (both fs ns) → get m k ≡ None → k < n → k < MOST_COPIES
    → IsLastBelow (is_lent_to m loan.patron) k (Some last)
    → (p c : ℕ) → is_lent_to (insert m k loan) p c ≡ true
    → LeadsOn (is_lent_to (insert m k loan) p) (c + 1) (get_or (set (set ns k (get_or ns last 0)) last k) c 0)
lend_behind_next m n k loan last fs ns a none kn km below p c is =
    let t = is_lent_to m loan.patron
    in let led_last : LeadsOn t (last + 1) (get_or ns last 0) = a.next loan.patron last below.1
    in let above : (q : ℕ) → last + 1 ≤ q → q < k → is_lent_to m loan.patron q ≡ false =
    λ q low high. below.2 q (omega arith) high
    in let behind = get_or ns last 0
    in let long : last < length (set ns k behind) =
    omega (arith, length-set ns k behind, a.room, below.0)
    in written (LeadsOn (is_lent_to (insert m k loan) p) (c + 1)) (set ns k behind) last c k long
    (λ at.
    let apart : c ≢ k = λ here. let no : ⊥ = omega (arith, below.0) in no
    in let was : is_lent_to m p c ≡ true = was_lent m k loan p c apart is
    in let same : p ≡ loan.patron = one_patron (get m c) p loan.patron was (rw at below.1)
    in rw (same, at) (lent_here m k loan (last + 1) (omega (arith, below.0)) above))
    (λ not_last. written (LeadsOn (is_lent_to (insert m k loan) p) (c + 1)) ns k c behind
    (omega (arith, a.room))
    (λ at. rw (now_lent m k loan p c at is, at)
    (lent_next m k loan (last + 1) behind none km (omega (arith, below.0)) above led_last))
    (λ apart.
    let was : is_lent_to m p c ≡ true = was_lent m k loan p c apart is
    in let led = a.next p c was
    in elim (cases_Bool (p == loan.patron)) [
      | inl e ↦
          let same : p ≡ loan.patron = eqb-true p loan.patron e
          in elim (cases_lt c last) [
            | inl small ↦
                insert_before m k loan p (c + 1) (get_or ns c 0) last (omega arith) below.0
                (rw same below.1) led
            | inr high ↦ elim (cases_lt c k) [
              | inl short ↦ absurd
                  (let no : true ≡ false = sym was ∙ rw same (above c (omega arith) short) in cc)
              | inr far ↦ insert_behind m k loan p (c + 1) (get_or ns c 0) (omega arith) led
            ]
          ]
      | inr e ↦ insert_away m k loan p (c + 1) (get_or ns c 0) none (λ at. grind (arith, nat_tests)) led
    ]))

-- a copy is lent behind another one of its patron
pub AreLinked-lend_behind : (m : LoansMap) (n k : ℕ) (loan : Loan) (last : ℕ) (fs ns : List ℕ)
    → AreLinked m n (both fs ns) → get m k ≡ None → k < n → k < MOST_COPIES
    → loan.patron < length fs → IsLastBelow (is_lent_to m loan.patron) k (Some last)
    → AreLinked (insert m k loan) n (both fs (set (set ns k (get_or ns last 0)) last k))
AreLinked-lend_behind m n k loan last fs ns a none kn km pl below = record {
  loan = AreKnown-insert m n (length fs) k loan a.loan kn km pl;
  room = length-set (set ns k (get_or ns last 0)) last k ∙ length-set ns k (get_or ns last 0) ∙ a.room;
  first = λ p l. lend_behind_first m n k loan last fs ns a none below p l;
  next = λ p c is. lend_behind_next m n k loan last fs ns a none kn km below p c is;
}

end_first_next : (m : LoansMap) (n k : ℕ) (loan : Loan) (fs ns : List ℕ) → AreLinked m n (both fs ns)
    → get m k ≡ Some loan → IsLastBelow (is_lent_to m loan.patron) k None → (p c : ℕ)
    → is_lent_to (remove m k) p c ≡ true → LeadsOn (is_lent_to (remove m k) p) (c + 1) (get_or ns c 0)
end_first_next m n k loan fs ns a some below p c is =
    let still = still_lent m k p c is
    in let led = a.next p c still.1
    in elim (cases_Bool (p == loan.patron)) [
      | inl e ↦
          let same : p ≡ loan.patron = eqb-true p loan.patron e
          in elim (cases_lt c k) [
            | inl small ↦ absurd (let no : true ≡ false = sym still.1 ∙ rw same (below c small) in cc)
            | inr high ↦
                let apart : c ≢ k = still.0
                in remove_behind m k p (c + 1) (get_or ns c 0) (omega arith) led
          ]
      | inr e ↦ remove_away m k loan p (c + 1) (get_or ns c 0) some (λ at. grind (arith, nat_tests)) led
    ]

-- the loan was lent to its patron
its_own : (m : LoansMap) (k : ℕ) (loan : Loan) → get m k ≡ Some loan → is_lent_to m loan.patron k ≡ true
its_own m k loan some = ap (is_loan_to loan.patron) some ∙ eq-eqb loan.patron loan.patron refl

-- the loan of a patron's first copy ends
pub AreLinked-end_first : (m : LoansMap) (n k : ℕ) (loan : Loan) (fs ns : List ℕ)
    → AreLinked m n (both fs ns) → get m k ≡ Some loan → IsLastBelow (is_lent_to m loan.patron) k None
    → AreLinked (remove m k) n (both (set fs loan.patron (get_or ns k 0)) ns)
AreLinked-end_first m n k loan fs ns a some below = record {
  loan = rw length-set (AreKnown-remove m n (length fs) k a.loan);
  room = a.room;
  first = λ p l.
      written (LeadsOn (is_lent_to (remove m k) p) 0) fs loan.patron p (get_or ns k 0)
      (a.loan.within k loan some).1
      (λ at. rw at (ended_past m k loan.patron 0 (get_or ns k 0) (omega arith) (λ q _ b. below q b)
      (a.next loan.patron k (its_own m k loan some))))
      (λ apart. remove_away m k loan p 0 (get_or fs p 0) some apart (a.first p (rw length-set at l)));
  next = λ p c is. end_first_next m n k loan fs ns a some below p c is;
}

end_behind_first : (m : LoansMap) (n k : ℕ) (loan : Loan) (last : ℕ) (fs ns : List ℕ)
    → AreLinked m n (both fs ns) → get m k ≡ Some loan → IsLastBelow (is_lent_to m loan.patron) k (Some last)
    → (p : ℕ) → p < length fs → LeadsOn (is_lent_to (remove m k) p) 0 (get_or fs p 0)
end_behind_first m n k loan last fs ns a some below p l = elim (cases_Bool (p == loan.patron)) [
  | inl e ↦
      let same : p ≡ loan.patron = eqb-true p loan.patron e
      in remove_before m k p 0 (get_or fs p 0) last (omega arith) below.0 (rw same below.1) (a.first p l)
  | inr e ↦ remove_away m k loan p 0 (get_or fs p 0) some (λ at. grind (arith, nat_tests)) (a.first p l)
]

end_behind_next : (m : LoansMap) (n k : ℕ) (loan : Loan) (last : ℕ) (fs ns : List ℕ)
    → AreLinked m n (both fs ns) → get m k ≡ Some loan
    → IsLastBelow (is_lent_to m loan.patron) k (Some last) → (p c : ℕ) → is_lent_to (remove m k) p c ≡ true
    → LeadsOn (is_lent_to (remove m k) p) (c + 1) (get_or (set ns last (get_or ns k 0)) c 0)
end_behind_next m n k loan last fs ns a some below p c is =
    let still = still_lent m k p c is
    in let above : (q : ℕ) → last + 1 ≤ q → q < k → is_lent_to m loan.patron q ≡ false =
    λ q low high. below.2 q (omega arith) high
    in let long : last < length ns = omega (arith, a.room, below.0, (a.loan.within k loan some).0)
    in written (LeadsOn (is_lent_to (remove m k) p) (c + 1)) ns last c (get_or ns k 0) long
    (λ at.
    let same : p ≡ loan.patron = one_patron (get m c) p loan.patron still.1 (rw at below.1)
    in rw (same, at) (ended_past m k loan.patron (last + 1) (get_or ns k 0) (omega (arith, below.0)) above
    (a.next loan.patron k (its_own m k loan some))))
    (λ not_last.
    let led = a.next p c still.1
    in elim (cases_Bool (p == loan.patron)) [
      | inl e ↦
          let same : p ≡ loan.patron = eqb-true p loan.patron e
          in elim (cases_lt c last) [
            | inl small ↦ remove_before m k p (c + 1) (get_or ns c 0) last (omega arith) below.0
                (rw same below.1) led
            | inr high ↦ elim (cases_lt c k) [
              | inl short ↦ absurd
                  (let no : true ≡ false = sym still.1 ∙ rw same (above c (omega arith) short) in cc)
              | inr far ↦
                  let apart : c ≢ k = still.0
                  in remove_behind m k p (c + 1) (get_or ns c 0) (omega arith) led
            ]
          ]
      | inr e ↦ remove_away m k loan p (c + 1) (get_or ns c 0) some (λ at. grind (arith, nat_tests)) led
    ])

-- the loan of a copy behind another one of its patron ends
pub AreLinked-end_behind : (m : LoansMap) (n k : ℕ) (loan : Loan) (last : ℕ) (fs ns : List ℕ)
    → AreLinked m n (both fs ns) → get m k ≡ Some loan → IsLastBelow (is_lent_to m loan.patron) k (Some last)
    → AreLinked (remove m k) n (both fs (set ns last (get_or ns k 0)))
AreLinked-end_behind m n k loan last fs ns a some below = record {
  loan = AreKnown-remove m n (length fs) k a.loan;
  room = length-set ns last (get_or ns k 0) ∙ a.room;
  first = λ p l. end_behind_first m n k loan last fs ns a some below p l;
  next = λ p c is. end_behind_next m n k loan last fs ns a some below p c is;
}

-- another loan of the copy to the same patron
pub AreLinked-replace : (m : LoansMap) (n k : ℕ) (loan other : Loan) (fs ns : List ℕ)
    → AreLinked m n (both fs ns) → get m k ≡ Some loan → other.patron ≡ loan.patron
    → AreLinked (insert m k other) n (both fs ns)
AreLinked-replace m n k loan other fs ns a some same = record {
  loan = AreKnown-insert m n (length fs) k other a.loan (a.loan.within k loan some).0
      (a.loan.known k loan some).0
      (rw same (a.loan.within k loan some).1);
  room = a.room;
  first = λ p l. leads-same (is_lent_to m p) (is_lent_to (insert m k other) p) 0 (get_or fs p 0)
      (replace_alike m k p loan other some same) (a.first p l);
  next = λ p c is. leads-same (is_lent_to m p) (is_lent_to (insert m k other) p) (c + 1) (get_or ns c 0)
      (replace_alike m k p loan other some same)
      (a.next p c (sym (replace_alike m k p loan other some same c) ∙ is));
}

-- no loans, and no links
pub AreLinked-empty : (n : ℕ) (fs ns : List ℕ) → length ns ≡ n →
    ((p : ℕ) → p < length fs → get_or fs p 0 ≡ MOST_COPIES) → AreLinked empty n (both fs ns)
AreLinked-empty n fs ns room ends = record {
  loan = AreKnown-empty n (length fs);
  room = room;
  first = λ p l. rw (ends p l) (record {
    onward = omega arith;
    passes = λ m. absurd (let no : ⊥ = omega arith in no);
    first = λ q _ _. nothing_lent p q;
  });
  next = λ p c is. absurd (let no : true ≡ false = sym is ∙ nothing_lent p c in cc);
}
  where
    nothing_lent : (p q : ℕ) → is_lent_to empty p q ≡ false
    nothing_lent p q = ap (is_loan_to p) (get-empty {X = Loan} nat_cmp q)
