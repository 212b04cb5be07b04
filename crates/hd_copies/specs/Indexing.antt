-- What the indexes of copies say.
use Rattle.std.specs.Prelude.{◌≡◌, ℕ, ◌<◌, Bool, true, false, ◌==◌, ◌&&◌, nat_lt, if◌then◌else◌, Option, None}
use Rattle.std.specs.Prelude.{Some, List, length, get_or, map}
use Rattle.std.specs.FinMap as finmap
use Rattle.hd_rules.specs.declared.holds.HoldKind.{HoldKind}
use Rattle.hd_rules.specs.declared.holds.HoldKind.TheVariants.{Any, AtBranch}
use Rattle.hd_rules.specs.declared.copies.Loan.{Loan}
use Rattle.hd_rules.specs.declared.copies.Transit.{Transit}
use Rattle.hd_rules.specs.declared.copies.CopyState.{CopyState}
use Rattle.hd_rules.specs.declared.copies.CopyState.TheVariants.{Shelf, OnLoan, OnHoldShelf, InTransit}
use Rattle.hd_rules.specs.Facts.{Facts}
use Rattle.hd_rules.specs.Choose.{admits, count_below, is_on_shelf, stands_at}
use Rattle.hd_shelf.specs.PlacesValue.{PlacesValue}
use Rattle.hd_loans.specs.LoansValue.{LoansValue}
use Rattle.hd_transit.specs.TransitsValue.{TransitsValue}
use Rattle.hd_open_shelf.specs.StockValue.{StockValue}
use Rattle.hd_open_shelf.specs.Counts.{HasEntry, of_home, of_title}
use Rattle.hd_copies.specs.IndexesValue.{IndexesValue}

-- all but one copy, which is nowhere
abbrev pub all_but : ℕ → (ℕ → Option CopyState) → ℕ → Option CopyState
all_but copy copies c = if copy == c then None else copies c

-- each copy on the open shelf of its home
abbrev pub each_at_home : Facts → ℕ → Option CopyState
each_at_home k c = if nat_lt c k.copies then Some (Shelf (k.home c)) else None

-- the loan of a copy that is on loan
abbrev pub loan_of : Option CopyState → Option Loan
loan_of None = None
loan_of (Some (OnLoan l)) = Some l
loan_of (Some (Shelf b)) = None
loan_of (Some (OnHoldShelf s)) = None
loan_of (Some (InTransit t)) = None

-- the transit of a copy that is on its way
abbrev pub transit_of : Option CopyState → Option Transit
transit_of None = None
transit_of (Some (InTransit t)) = Some t
transit_of (Some (Shelf b)) = None
transit_of (Some (OnLoan l)) = None
transit_of (Some (OnHoldShelf s)) = None

-- on this place of the branch's hold shelf
abbrev pub is_placed : ℕ → ℕ → Option CopyState → Bool
is_placed b place None = false
is_placed b place (Some state) = stands_at b place state

-- on an open shelf
abbrev pub is_on_open_shelf : Option CopyState → Bool
is_on_open_shelf None = false
is_on_open_shelf (Some state) = is_on_shelf state

-- how many copies of the title stand on open shelves that such a hold admits
abbrev pub shelf_count : Facts → (ℕ → Option CopyState) → ℕ → HoldKind → ℕ → ℕ
shelf_count k copies title kind pickup =
    count_below (λ n.
    ((k.title_of n) == title) && (admits k kind pickup n && is_on_open_shelf (copies n))) k.copies

-- exactly the loans of these copies
pub record AreLoans (k : Facts) (copies : ℕ → Option CopyState) (loans : LoansValue) : Type 0 where
  pub copies_in : loans.copies ≡ k.copies
  pub patrons_in : loans.patrons ≡ k.patrons
  pub loan : (c : ℕ) → finmap.get loans.loans c ≡ loan_of (copies c)

-- exactly their transits
pub record AreTransits (k : Facts) (copies : ℕ → Option CopyState) (transits : TransitsValue) : Type 0 where
  pub copies_in : transits.copies ≡ k.copies
  pub transit : (c : ℕ) → finmap.get transits.transits c ≡ transit_of (copies c)

-- a hold shelf without places
abbrev pub no_shelf : PlacesValue
no_shelf = record { copies = finmap.empty; room = 0 }

-- the copy at a place of a branch's hold shelf
abbrev pub copy_at : List PlacesValue → ℕ → ℕ → Option ℕ
copy_at shelves b place = finmap.get (get_or shelves b no_shelf).copies place

-- for how many places of each branch's hold shelf there is room
abbrev pub rooms_in : List PlacesValue → List ℕ
rooms_in shelves = map (λ (s : PlacesValue). s.room) shelves

-- a hold shelf for each branch, with exactly the copies that stand there
pub record AreShelves (k : Facts) (copies : ℕ → Option CopyState) (shelves : List PlacesValue) : Type 0 where
  pub branches_in : length shelves ≡ k.branches
  pub stands : (b place c : ℕ) → copy_at shelves b place ≡ Some c → is_placed b place (copies c) ≡ true
  pub found : (b place c : ℕ) → b < k.branches → is_placed b place (copies c) ≡ true →
      copy_at shelves b place ≡ Some c

-- the counts of the copies on open shelves, with an entry for each copy of the catalogue
pub record IsStock (k : Facts) (copies : ℕ → Option CopyState) (stock : StockValue) : Type 0 where
  pub title : (t pickup : ℕ) → of_title stock t ≡ shelf_count k copies t Any pickup
  pub home : (t b : ℕ) → of_home stock t b ≡ shelf_count k copies t AtBranch b
  pub entry : (c : ℕ) → c < k.copies → HasEntry stock (k.title_of c) (k.home c)

-- each copy that is somewhere is found there, and no other is
pub record IsIndexed (k : Facts) (copies : ℕ → Option CopyState) (indexes : IndexesValue) : Type 0 where
  pub loans : AreLoans k copies indexes.loans
  pub transits : AreTransits k copies indexes.transits
  pub shelves : AreShelves k copies indexes.shelves
  pub stock : IsStock k copies indexes.stock
