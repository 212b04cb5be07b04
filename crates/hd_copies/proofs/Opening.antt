-- The indexes while each copy stands at home.
use Rattle.std.proofs.Common.{◌≡◌, ℕ, zero, suc, ◌+◌, ◌<◌, ◌==◌, ◌&&◌, Bool, true, false, cond, nat_lt}
use Rattle.std.proofs.Common.{Option, None, Some, List, []}
use Rattle.std.proofs.Common.{◌∷◌, ◌++◌, length, refl, ap, sym, ◌∙◌, add-one, arith}
use Rattle.std.proofs.lemmas.Bool.Decides.{nat_tests}
use Rattle.std.specs.Ordering.{nat_cmp}
use Rattle.std.specs.FinMap.{FinMap, get, empty, get-empty}
use Rattle.std.proofs.Math.Bool.{and-true}
use Rattle.hd_rules.specs.declared.copies.Loan.{Loan}
use Rattle.hd_rules.specs.declared.copies.Transit.{Transit}
use Rattle.hd_rules.specs.declared.copies.CopyState.{CopyState}
use Rattle.hd_rules.specs.declared.copies.CopyState.TheVariants.{Shelf}
use Rattle.hd_rules.specs.declared.holds.HoldKind.TheVariants.{Any, AtBranch}
use Rattle.hd_rules.specs.Facts.{Facts}
use Rattle.hd_rules.specs.Choose.{count_below}
use Rattle.hd_shelf.specs.PlacesValue.{PlacesValue}
use Rattle.hd_loans.specs.LoansValue.{LoansValue}
use Rattle.hd_lemmas.proofs.Counts.{one, count_below-same}
use Rattle.hd_transit.specs.TransitsValue.{TransitsValue}
use Rattle.hd_open_shelf.specs.StockValue.{StockValue}
use Rattle.hd_open_shelf.specs.Counts.{HasEntry, of_home, of_title}
use Rattle.hd_copies.specs.Indexing.{AreLoans, AreTransits, AreShelves, IsStock, copy_at, each_at_home}
use Rattle.hd_copies.specs.Indexing.{is_placed, is_on_open_shelf, loan_of}
use Rattle.hd_copies.specs.Indexing.{transit_of}
use Rattle.hd_copies.proofs.Counting.{is_counted}

at_home : (k : Facts) (c : ℕ) → c < k.copies → each_at_home k c ≡ Some (Shelf (k.home c))
at_home k c l = let below : nat_lt c k.copies ≡ true = grind (arith, nat_tests) in rw below refl

no_loan : (b : Bool) (home : ℕ) → loan_of (cond b (Some (Shelf home)) None) ≡ None
no_loan true home = refl
no_loan false home = refl

no_transit : (b : Bool) (home : ℕ) → transit_of (cond b (Some (Shelf home)) None) ≡ None
no_transit true home = refl
no_transit false home = refl

not_placed : (b : Bool) (home branch place : ℕ)
    → is_placed branch place (cond b (Some (Shelf home)) None) ≡ false
not_placed true home branch place = refl
not_placed false home branch place = refl

-- no copy is on loan
pub loans-home : (k : Facts) (loans : LoansValue) → loans.loans ≡ empty → loans.copies ≡ k.copies
    → loans.patrons ≡ k.patrons → AreLoans k (each_at_home k) loans
loans-home k loans none copies patrons = record {
  copies_in = copies;
  patrons_in = patrons;
  loan = λ c. ap (λ (m : FinMap nat_cmp Loan). get m c) none ∙ get-empty nat_cmp c
      ∙ sym (no_loan (nat_lt c k.copies) (k.home c));
}

-- none is on its way
pub transits-home : (k : Facts) (transits : TransitsValue) → transits.transits ≡ empty
    → transits.copies ≡ k.copies → AreTransits k (each_at_home k) transits
transits-home k transits none copies = record {
  copies_in = copies;
  transit = λ c. ap (λ (m : FinMap nat_cmp Transit). get m c) none ∙ get-empty nat_cmp c
      ∙ sym (no_transit (nat_lt c k.copies) (k.home c));
}

pub none-at : (b p : ℕ) → copy_at [] b p ≡ None
none-at b p = get-empty nat_cmp p

-- one more empty shelf
pub none-more : (shelves : List PlacesValue) (s : PlacesValue) → ((b p : ℕ) → copy_at shelves b p ≡ None)
    → s.copies ≡ empty → (b p : ℕ) → copy_at (shelves ++ s ∷ []) b p ≡ None
none-more [] s none here zero p = ap (λ (m : FinMap nat_cmp ℕ). get m p) here ∙ get-empty nat_cmp p
none-more [] s none here (suc b) p = get-empty nat_cmp p
none-more (x ∷ shelves) s none here zero p = none 0 p
none-more (x ∷ shelves) s none here (suc b) p = none-more shelves s (λ b p. none (suc b) p) here b p

-- no copy is on a hold shelf
pub shelves-home : (k : Facts) (shelves : List PlacesValue) → length shelves ≡ k.branches
    → ((b p : ℕ) → copy_at shelves b p ≡ None) → AreShelves k (each_at_home k) shelves
shelves-home k shelves branches none = record {
  branches_in = branches;
  stands =
      λ b p c some. absurd (let no : None ≡ Some c = sym (none b p) ∙ some in let never : ⊥ = cc in never);
  found = λ b p c l placed.
      absurd (let no : true ≡ false = sym placed ∙ not_placed (nat_lt c k.copies) (k.home c) b p in
      let never : ⊥ = cc in never);
}

-- one more number is counted, or not
pub count-next : (test : ℕ → Bool) (n count next : ℕ) (b : Bool) → b ≡ test n → count ≡ count_below test n
    → next ≡ count + one b → next ≡ count_below test (n + 1)
count-next test n count next b e is more =
    rw (add-one n) (let at : one b ≡ one (test n) = ap one e in omega (arith, at, is, more))

and_both : (a b : Bool) → (a && (b && true)) ≡ (a && b)
and_both true true = refl
and_both true false = refl
and_both false b = refl

-- all copies are counted
pub stock-home : (k : Facts) (stock : StockValue) (n : ℕ) → n ≡ k.copies →
    ((t : ℕ) → of_title stock t ≡ count_below (λ c. (k.title_of c) == t) n) →
    ((t b : ℕ) → of_home stock t b ≡ count_below (λ c. ((k.title_of c) == t) && ((k.home c) == b)) n) →
    ((c : ℕ) → c < n → HasEntry stock (k.title_of c) (k.home c)) → IsStock k (each_at_home k) stock
stock-home k stock n all titles homes entries = record {
  title = λ t pickup. titles t ∙ ap (count_below (λ c. (k.title_of c) == t)) all
      ∙ sym (count_below-same (λ c. (k.title_of c) == t) (is_counted k (each_at_home k) t Any pickup) k.copies
      (λ c l. ap (λ (o : Option CopyState). ((k.title_of c) == t) && is_on_open_shelf o) (at_home k c l)
      ∙ and-true ((k.title_of c) == t)));
  home = λ t b. homes t b ∙ ap (count_below (λ c. ((k.title_of c) == t) && ((k.home c) == b))) all
      ∙ sym (count_below-same (λ c. ((k.title_of c) == t) && ((k.home c) == b))
      (is_counted k (each_at_home k) t AtBranch b) k.copies
      (λ c l. ap (λ (o : Option CopyState). ((k.title_of c) == t)
      && (((k.home c) == b) && is_on_open_shelf o)) (at_home k c l)
      ∙ and_both ((k.title_of c) == t) ((k.home c) == b)));
  entry = λ c l. entries c (omega (arith, all));
}
