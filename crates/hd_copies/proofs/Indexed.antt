-- The indexes, as a copy leaves them and comes into them.
use Rattle.std.proofs.Common.{◌≡◌, ℕ, ◌<◌, ◌≤◌, ◌==◌, ◌&&◌, Bool, true, false, Option, None, Some, List}
use Rattle.std.proofs.Common.{length, get_or, refl, ap, sym, ◌∙◌}
use Rattle.std.proofs.Common.{arith, eq-eqb, inl, inr}
use Rattle.std.proofs.Math.ListN.{set, get_or-map}
use Rattle.std.proofs.lemmas.List.{get_or_default, map-set, set-get_or}
use Rattle.std.proofs.lemmas.Bool.{cases_lt, eqb-true, eqb-false}
use Rattle.std.proofs.lemmas.Option.{slice_get_past}
use Rattle.std.specs.List.{slice_get}
use Rattle.std.specs.FinMap.{get, insert, remove}
use Rattle.hd_rules.specs.declared.holds.HoldKind.{HoldKind}
use Rattle.hd_rules.specs.declared.holds.HoldKind.TheVariants.{Any, AtBranch}
use Rattle.hd_rules.specs.declared.copies.Loan.{Loan}
use Rattle.hd_rules.specs.declared.copies.HoldPlace.{HoldPlace}
use Rattle.hd_rules.specs.declared.copies.Transit.{Transit}
use Rattle.hd_rules.specs.declared.copies.CopyState.{CopyState}
use Rattle.hd_rules.specs.declared.copies.CopyState.TheVariants.{Shelf, OnLoan, OnHoldShelf, InTransit}
use Rattle.hd_rules.specs.declared.limits.TheConstants.{MOST_COPIES}
use Rattle.hd_rules.specs.Facts.{Facts}
use Rattle.hd_rules.specs.Choose.{admits, stands_at}
use Rattle.hd_shelf.specs.PlacesValue.{PlacesValue}
use Rattle.hd_loans.specs.LoansValue.{LoansValue}
use Rattle.hd_lemmas.proofs.Counts.{count_below-free, count_below-some}
use Rattle.hd_transit.specs.TransitsValue.{TransitsValue}
use Rattle.hd_open_shelf.specs.StockValue.{StockValue}
use Rattle.hd_open_shelf.specs.Counts.{HasOneCopyMore, KeepsEntries, of_home, of_title}
use Rattle.hd_copies.specs.IndexesValue.{IndexesValue}
use Rattle.hd_copies.specs.Standing.{AreStates, state_in}
use Rattle.hd_copies.specs.Indexing.{AreLoans, AreTransits, AreShelves, IsIndexed, all_but, copy_at}
use Rattle.hd_copies.specs.Indexing.{is_placed, is_on_open_shelf, loan_of}
use Rattle.hd_copies.specs.Indexing.{no_shelf, rooms_in, transit_of}
use Rattle.hd_copies.proofs.Moving.{Moves, alike, but_here, but_there, found_in, map-in, map-out, state_at}
use Rattle.hd_copies.proofs.Shelves.{shelves-alike, shelves-in, shelves-out}
use Rattle.hd_copies.proofs.Counting.{is_counted, stock-alike, stock-in, stock-out}
use Rattle.hd_lemmas.proofs.Options.{no_number}
use Rattle.hd_lemmas.proofs.Rules.{held_at}

loans-alike : (k : Facts) (f g : ℕ → Option CopyState) (loans : LoansValue)
    → ((c : ℕ) → loan_of (g c) ≡ loan_of (f c)) → AreLoans k f loans → AreLoans k g loans
loans-alike k f g loans same are =
    record { copies_in = are.copies_in; patrons_in = are.patrons_in; loan = λ c. are.loan c ∙ sym (same c) }

transits-alike : (k : Facts) (f g : ℕ → Option CopyState) (transits : TransitsValue)
    → ((c : ℕ) → transit_of (g c) ≡ transit_of (f c)) → AreTransits k f transits → AreTransits k g transits
transits-alike k f g transits same are =
    record { copies_in = are.copies_in; transit = λ c. are.transit c ∙ sym (same c) }

no_and : (a b : Bool) → (a && (b && false)) ≡ false
no_and true true = refl
no_and true false = refl
no_and false b = refl

module _ (k : Facts) (f g : ℕ → Option CopyState) (c : ℕ) (x : IndexesValue) (indexed : IsIndexed k f x) where
  -- a copy leaves its open shelf
  pub shelf-out : (b : ℕ) (stock : StockValue) → Moves c f g (Some (Shelf b)) None → c < k.copies →
      HasOneCopyMore x.stock stock (k.title_of c) (k.home c) → KeepsEntries x.stock stock →
      IsIndexed k g (record { loans = x.loans; transits = x.transits; shelves = x.shelves; stock = stock })
  shelf-out b stock moves l less keeps = record {
    loans = loans-alike k f g x.loans (alike loan_of c f g _ _ moves refl) indexed.loans;
    transits = transits-alike k f g x.transits (alike transit_of c f g _ _ moves refl) indexed.transits;
    shelves =
        shelves-alike k f g x.shelves (λ b p. alike (is_placed b p) c f g _ _ moves refl) indexed.shelves;
    stock = stock-out k f g c b x.stock stock moves l less keeps indexed.stock;
  }

  -- and comes to one
  pub shelf-in : (b : ℕ) (stock : StockValue) → Moves c f g None (Some (Shelf b)) → c < k.copies →
      HasOneCopyMore stock x.stock (k.title_of c) (k.home c) → KeepsEntries x.stock stock →
      IsIndexed k g (record { loans = x.loans; transits = x.transits; shelves = x.shelves; stock = stock })
  shelf-in b stock moves l more keeps = record {
    loans = loans-alike k f g x.loans (alike loan_of c f g _ _ moves refl) indexed.loans;
    transits = transits-alike k f g x.transits (alike transit_of c f g _ _ moves refl) indexed.transits;
    shelves =
        shelves-alike k f g x.shelves (λ b p. alike (is_placed b p) c f g _ _ moves refl) indexed.shelves;
    stock = stock-in k f g c b x.stock stock moves l more keeps indexed.stock;
  }

  -- a loan ends
  pub loan-out : (v : Loan) (loans : LoansValue) → Moves c f g (Some (OnLoan v)) None
      → loans.loans ≡ remove x.loans.loans c → loans.copies ≡ x.loans.copies → loans.patrons ≡ x.loans.patrons
      → IsIndexed k g (record { loans = loans; transits = x.transits; shelves = x.shelves; stock = x.stock })
  loan-out v loans moves out copies patrons = record {
    loans = record {
      copies_in = copies ∙ indexed.loans.copies_in;
      patrons_in = patrons ∙ indexed.loans.patrons_in;
      loan = λ n. ap (λ (m : _). get m n) out
          ∙ map-out loan_of x.loans.loans c f g _ _ moves refl indexed.loans.loan n;
    };
    transits = transits-alike k f g x.transits (alike transit_of c f g _ _ moves refl) indexed.transits;
    shelves =
        shelves-alike k f g x.shelves (λ b p. alike (is_placed b p) c f g _ _ moves refl) indexed.shelves;
    stock = stock-alike k f g x.stock (alike is_on_open_shelf c f g _ _ moves refl) indexed.stock;
  }

  -- and begins
  pub loan-in : (v : Loan) (loans : LoansValue)
      → Moves c f g None (Some (OnLoan v)) → loans.loans ≡ insert x.loans.loans c v
      → loans.copies ≡ x.loans.copies → loans.patrons ≡ x.loans.patrons
      → IsIndexed k g (record { loans = loans; transits = x.transits; shelves = x.shelves; stock = x.stock })
  loan-in v loans moves into copies patrons = record {
    loans = record {
      copies_in = copies ∙ indexed.loans.copies_in;
      patrons_in = patrons ∙ indexed.loans.patrons_in;
      loan = λ n. ap (λ (m : _). get m n) into
          ∙ map-in loan_of x.loans.loans c f g _ _ v moves refl indexed.loans.loan n;
    };
    transits = transits-alike k f g x.transits (alike transit_of c f g _ _ moves refl) indexed.transits;
    shelves =
        shelves-alike k f g x.shelves (λ b p. alike (is_placed b p) c f g _ _ moves refl) indexed.shelves;
    stock = stock-alike k f g x.stock (alike is_on_open_shelf c f g _ _ moves refl) indexed.stock;
  }

  -- a transit ends
  pub transit-out : (v : Transit) (transits : TransitsValue) → Moves c f g (Some (InTransit v)) None →
      transits.transits ≡ remove x.transits.transits c → transits.copies ≡ x.transits.copies →
      IsIndexed k g (record { loans = x.loans; transits = transits; shelves = x.shelves; stock = x.stock })
  transit-out v transits moves out copies = record {
    loans = loans-alike k f g x.loans (alike loan_of c f g _ _ moves refl) indexed.loans;
    transits = record {
      copies_in = copies ∙ indexed.transits.copies_in;
      transit = λ n. ap (λ (m : _). get m n) out
          ∙ map-out transit_of x.transits.transits c f g _ _ moves refl indexed.transits.transit n;
    };
    shelves =
        shelves-alike k f g x.shelves (λ b p. alike (is_placed b p) c f g _ _ moves refl) indexed.shelves;
    stock = stock-alike k f g x.stock (alike is_on_open_shelf c f g _ _ moves refl) indexed.stock;
  }

  -- and begins
  pub transit-in : (v : Transit) (transits : TransitsValue) → Moves c f g None (Some (InTransit v)) →
      transits.transits ≡ insert x.transits.transits c v → transits.copies ≡ x.transits.copies →
      IsIndexed k g (record { loans = x.loans; transits = transits; shelves = x.shelves; stock = x.stock })
  transit-in v transits moves into copies = record {
    loans = loans-alike k f g x.loans (alike loan_of c f g _ _ moves refl) indexed.loans;
    transits = record {
      copies_in = copies ∙ indexed.transits.copies_in;
      transit = λ n. ap (λ (m : _). get m n) into
          ∙ map-in transit_of x.transits.transits c f g _ _ v moves refl indexed.transits.transit n;
    };
    shelves =
        shelves-alike k f g x.shelves (λ b p. alike (is_placed b p) c f g _ _ moves refl) indexed.shelves;
    stock = stock-alike k f g x.stock (alike is_on_open_shelf c f g _ _ moves refl) indexed.stock;
  }

  -- a copy leaves its hold shelf
  pub place-out : (w : HoldPlace) (s : PlacesValue)
      → Moves c f g (Some (OnHoldShelf w)) None → w.branch < k.branches
      → s.copies ≡ remove (get_or x.shelves w.branch no_shelf).copies w.place → IsIndexed k g
      (record { loans = x.loans; transits = x.transits; shelves = set x.shelves w.branch s; stock = x.stock })
  place-out w s moves known out = record {
    loans = loans-alike k f g x.loans (alike loan_of c f g _ _ moves refl) indexed.loans;
    transits = transits-alike k f g x.transits (alike transit_of c f g _ _ moves refl) indexed.transits;
    shelves = shelves-out k f g c w x.shelves s moves indexed.shelves known out;
    stock = stock-alike k f g x.stock (alike is_on_open_shelf c f g _ _ moves refl) indexed.stock;
  }

  -- and comes to one
  pub place-in : (w : HoldPlace) (s : PlacesValue) → Moves c f g None (Some (OnHoldShelf w))
      → w.branch < k.branches → copy_at x.shelves w.branch w.place ≡ None
      → s.copies ≡ insert (get_or x.shelves w.branch no_shelf).copies w.place c → IsIndexed k g
      (record { loans = x.loans; transits = x.transits; shelves = set x.shelves w.branch s; stock = x.stock })
  place-in w s moves known free into = record {
    loans = loans-alike k f g x.loans (alike loan_of c f g _ _ moves refl) indexed.loans;
    transits = transits-alike k f g x.transits (alike transit_of c f g _ _ moves refl) indexed.transits;
    shelves = shelves-in k f g c w x.shelves s moves indexed.shelves known free into;
    stock = stock-alike k f g x.stock (alike is_on_open_shelf c f g _ _ moves refl) indexed.stock;
  }

  uncounted : (kind : HoldKind) (pickup : ℕ) → f c ≡ None
      → is_counted k f (k.title_of c) kind pickup c ≡ false
  uncounted kind pickup none =
      ap (λ (o : Option CopyState). ((k.title_of c) == (k.title_of c))
      && (admits k kind pickup c && is_on_open_shelf o)) none
      ∙ no_and ((k.title_of c) == (k.title_of c)) (admits k kind pickup c)

  -- a copy that is on no open shelf isn't counted, so there is room for one more
  pub few_of_title : f c ≡ None → c < k.copies → k.copies ≤ MOST_COPIES
      → of_title x.stock (k.title_of c) < MOST_COPIES
  few_of_title none l most =
      let off : is_counted k f (k.title_of c) Any 0 c ≡ false = uncounted Any 0 none in
      omega (
        arith,
        indexed.stock.title (k.title_of c) 0,
        count_below-free (is_counted k f (k.title_of c) Any 0) k.copies c l off,
      )

  pub few_of_home : f c ≡ None → c < k.copies → k.copies ≤ MOST_COPIES
      → of_home x.stock (k.title_of c) (k.home c) < MOST_COPIES
  few_of_home none l most =
      let off : is_counted k f (k.title_of c) AtBranch (k.home c) c ≡ false =
      uncounted AtBranch (k.home c) none in
      omega (
        arith,
        indexed.stock.home (k.title_of c) (k.home c),
        count_below-free (is_counted k f (k.title_of c) AtBranch (k.home c)) k.copies c l off,
      )

  -- and one that is on an open shelf is counted
  pub some_of_title : (b : ℕ) → f c ≡ Some (Shelf b) → c < k.copies → 1 ≤ of_title x.stock (k.title_of c)
  some_of_title b at l =
      let on : is_counted k f (k.title_of c) Any 0 c ≡ true =
      rw (at, eq-eqb (k.title_of c) (k.title_of c) refl) refl in
      omega (
        arith,
        indexed.stock.title (k.title_of c) 0,
        count_below-some (is_counted k f (k.title_of c) Any 0) k.copies c l on,
      )

  pub some_of_home : (b : ℕ) → f c ≡ Some (Shelf b) → c < k.copies
      → 1 ≤ of_home x.stock (k.title_of c) (k.home c)
  some_of_home b at l =
      let on : is_counted k f (k.title_of c) AtBranch (k.home c) c ≡ true =
      rw (at, eq-eqb (k.title_of c) (k.title_of c) refl, eq-eqb (k.home c) (k.home c) refl) refl in
      omega (
        arith,
        indexed.stock.home (k.title_of c) (k.home c),
        count_below-some (is_counted k f (k.title_of c) AtBranch (k.home c)) k.copies c l on,
      )

-- a shelf whose room stays
pub rooms-same : (shelves : List PlacesValue) (i : ℕ) (s : PlacesValue)
    → s.room ≡ (get_or shelves i no_shelf).room → rooms_in (set shelves i s) ≡ rooms_in shelves
rooms-same shelves i s same =
    let rooms = rooms_in shelves in
    let now : s.room ≡ get_or rooms i 0 =
    same ∙ sym (get_or-map (λ (x : PlacesValue). x.room) shelves i no_shelf) in
    map-set (λ (x : PlacesValue). x.room) shelves i s ∙ ap (λ (n : ℕ). set rooms i n) now
    ∙ set-get_or rooms i 0

-- an element that was read, as the shelf of its branch
pub shelf_at : (shelves : List PlacesValue) (i b : ℕ) (s : PlacesValue) → i ≡ b → b < length shelves
    → s ≡ get_or shelves i s → s ≡ get_or shelves b no_shelf
shelf_at shelves i b s at l is = is ∙ ap (λ (j : ℕ). get_or shelves j s) at
    ∙ get_or_default shelves b s no_shelf l

-- a copy that is nowhere stands at no place
pub nowhere_on : (k : Facts) (f : ℕ → Option CopyState) (shelves : List PlacesValue) (c b p : ℕ)
    → AreShelves k f shelves → f c ≡ None → copy_at shelves b p ≡ Some c → ⊥
nowhere_on k f shelves c b p are none at =
    let off : is_placed b p (f c) ≡ false = ap (is_placed b p) none in
    let no : true ≡ false = sym (are.stands b p c at) ∙ off in cc

-- a copy that stands at a place is one of the list
pub placed_in : (k : Facts) (states : List CopyState) (n b p : ℕ) → AreStates k states
    → is_placed b p (slice_get states n) ≡ true → (n < k.copies) × (stands_at b p (state_in states n) ≡ true)
placed_in k states n b p fit there = elim (cases_lt n (length states)) [
  | inl below ↦ (omega (arith, fit.copies), sym (ap (is_placed b p) (found_in states n below)) ∙ there)
  | inr above ↦ absurd (
      let off : is_placed b p (slice_get states n) ≡ false =
      ap (is_placed b p) (slice_get_past states n above) in
      let no : true ≡ false = sym there ∙ off in let none : ⊥ = cc in none)
]

-- two copies with one place are one
same_place : (k : Facts) (states : List CopyState) (n c : ℕ) (w : HoldPlace)
    → AreStates k states → c < k.copies → state_in states c ≡ OnHoldShelf w
    → is_placed w.branch w.place (slice_get states n) ≡ true → n ≡ c
same_place k states n c w fit l at there =
    let in_list = placed_in k states n w.branch w.place fit there in
    let held = held_at w.branch w.place (state_in states n) in_list.1 in
    fit.places.apart n c held.0 w in_list.0 l held.1 at held.2 held.3

-- where places are fit, no other copy has the place of this one
pub free_for : (k : Facts) (states : List CopyState) (shelves : List PlacesValue) (c : ℕ) (w : HoldPlace)
    → AreShelves k (all_but c (slice_get states)) shelves → AreStates k states → c < k.copies
    → slice_get states c ≡ Some (OnHoldShelf w) → copy_at shelves w.branch w.place ≡ None
free_for k states shelves c w are fit l at = no_number (copy_at shelves w.branch w.place) taken
  where
    taken : (n : ℕ) → copy_at shelves w.branch w.place ≡ Some n → ⊥
    taken n some = by_test (n == c) refl
      where
        placed : is_placed w.branch w.place (all_but c (slice_get states) n) ≡ true
        placed = are.stands w.branch w.place n some

        by_test : (t : Bool) → (n == c) ≡ t → ⊥
        by_test true e =
            let none : all_but c (slice_get states) n ≡ None =
            ap (all_but c (slice_get states)) (eqb-true n c e) ∙ but_here (slice_get states) c in
            let no : true ≡ false = sym placed ∙ ap (is_placed w.branch w.place) none in cc
        by_test false e =
            let there : is_placed w.branch w.place (slice_get states n) ≡ true =
            sym (ap (is_placed w.branch w.place) (but_there (slice_get states) c n (eqb-false n c e)))
            ∙ placed in
            eqb-false n c e
            (same_place k states n c w fit l (state_at k states c (OnHoldShelf w) fit l at) there)
