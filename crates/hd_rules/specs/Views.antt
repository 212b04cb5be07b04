-- What is told of a patron: their loans and holds, in the order of their lists, how many there are, and the
-- part of a list that is wanted (§ What a patron has).
use Rattle.std.specs.Prelude.{◌≡◌, ◌⊎◌, ◌↔◌, ◌-◌, ◌<◌, Bool, true, false, not, ◌==◌, nat_lt, Option, Some}
use Rattle.std.specs.Prelude.{None, option_map, if◌then◌else◌, zero, suc, List, [], ◌∷◌, length, map, filter}
use Rattle.std.specs.Prelude.{filter_map, take, drop}
use Rattle.std.specs.List.{range_with_len}
use Rattle.hd_rules.specs.Words.{Hold, CopyState, HoldPlace, OnLoan, OnHoldShelf, TitleHold, Borrowing}
use Rattle.hd_rules.specs.Words.{Denied, TooMany, Allowed, PatronView, Summary}
use Rattle.hd_rules.specs.Words.{HoldItems, OverdueItems, ChargedItems}
use Rattle.hd_rules.specs.Words.{UnavailableHolds, Empty, Wanted, ListItem, CopyItem, TitleItem}
use Rattle.hd_rules.specs.Numbers.{CopyNo, TitleNo, PatronNo, Day, Count}
use Rattle.hd_rules.specs.Facts.{Facts}
use Rattle.hd_rules.specs.Desk.{Desk}
use Rattle.hd_rules.specs.Choose.{is_lent_to, loans}
use Rattle.hd_rules.specs.Run.{IsAmong}

-- on loan, and due before the day: what is due today isn't overdue
abbrev pub is_overdue : Day → CopyState → Bool
is_overdue day (OnLoan l) = nat_lt l.due day
is_overdue day _ = false

-- on a hold shelf
abbrev pub is_on_hold_shelf : CopyState → Bool
is_on_hold_shelf (OnHoldShelf s) = true
is_on_hold_shelf _ = false

-- the copy, where there is one, is on a hold shelf
abbrev pub is_shelved : Desk → Option CopyNo → Bool
is_shelved d None = false
is_shelved d (Some c) = is_on_hold_shelf (d.copy c)

-- the hold has a copy, which stands on a hold shelf
abbrev pub is_kept : Desk → TitleHold → Bool
is_kept d h = is_shelved d h.hold.copy

-- whether a patron with so many loans and this limit may borrow (§ Room)
abbrev pub may_borrow : Count → Count → Borrowing
may_borrow loans limit = if limit == 0 then Denied else if nat_lt loans limit then Allowed else TooMany

-- the hold put among these, in front of the first with a greater stamp
abbrev pub insert_hold : TitleHold → List TitleHold → List TitleHold
insert_hold h [] = h ∷ []
insert_hold h (g ∷ gs) = if nat_lt h.hold.stamp g.hold.stamp then h ∷ g ∷ gs else g ∷ insert_hold h gs

-- the hold of the title, where there is one, put among these
abbrev pub with_hold_of : TitleNo → Option Hold → List TitleHold → List TitleHold
with_hold_of t None hs = hs
with_hold_of t (Some h) hs = insert_hold (record { title = t; hold = h }) hs

module _ (d : Desk) (p : PatronNo) where
  -- their holds of the titles below n, by rising stamp, and of equal stamps by title number
  abbrev pub holds_below : TitleNo → List TitleHold
  holds_below zero = []
  holds_below (suc t) = with_hold_of t (d.hold t p) (holds_below t)

module _ (k : Facts) (d : Desk) (p : PatronNo) where
  -- the copies on loan to the patron, by rising number
  abbrev pub loans_of : List CopyNo
  loans_of = filter (λ c. is_lent_to p (d.copy c)) (range_with_len 0 k.copies)

  -- those of them that are overdue on the day
  abbrev pub overdue_of : Day → List CopyNo
  overdue_of day = filter (λ c. is_overdue day (d.copy c)) loans_of

  -- their holds, by rising stamp, and of equal stamps by title number
  abbrev pub holds_of : List TitleHold
  holds_of = holds_below d p k.titles

  -- those whose copy stands on a hold shelf
  abbrev pub kept_of : List TitleHold
  kept_of = filter (is_kept d) holds_of

  -- all others: those that wait, those past their day, those whose copy is in transit
  abbrev pub waiting_of : List TitleHold
  waiting_of = filter (λ h. not (is_kept d h)) holds_of

  -- how it stands with them on a day
  abbrev pub view : Day → PatronView
  view day = record {
    charged = length loans_of;
    overdue = length (overdue_of day);
    kept = length kept_of;
    waiting = length waiting_of;
    borrowing = may_borrow (loans k d p) (k.loan_limit p);
    loan_limit = k.loan_limit p;
  }

  -- the items of a list: of a kept hold its copy, and of another its title
  abbrev pub items_of : Summary → Day → List ListItem
  items_of HoldItems day = filter_map (λ (h : TitleHold). option_map CopyItem h.hold.copy) kept_of
  items_of OverdueItems day = map CopyItem (overdue_of day)
  items_of ChargedItems day = map CopyItem loans_of
  items_of UnavailableHolds day = map (λ (h : TitleHold). TitleItem h.title) waiting_of
  items_of Empty day = []

-- as far as the last item wanted, counted from 1
abbrev pub as_far_as : {A : Type 0} → Option Count → List A → List A
as_far_as None xs = xs
as_far_as (Some last) xs = take last xs

-- the page: the items of the list from the first to the last wanted, counted from 1; a first of 0 is 1
abbrev pub page : Facts → Desk → PatronNo → Day → Wanted → List ListItem
page k d p day wanted = drop (wanted.first - 1) (as_far_as wanted.last (items_of k d p wanted.summary day))

-- Each comes before all behind it.
abbrev pub AreInOrder : {A : Type 0} → (A → A → Type 0) → List A → Type 0
AreInOrder Before [] = Unit {0}
AreInOrder {A} Before (x ∷ xs) = ((y : A) → IsAmong y xs → Before x y) × AreInOrder Before xs

-- A list of just these, each once, in this order.
pub record IsListOf {A : Type 0} (Is : A → Type 0) (Before : A → A → Type 0) (xs : List A) : Type 0 where
  pub order : AreInOrder Before xs
  pub members : (x : A) → IsAmong x xs ↔ Is x

-- the one with the smaller stamp, or of equal stamps that of the smaller title number
abbrev pub ComesBefore : TitleHold → TitleHold → Type 0
ComesBefore g h =
    (g.hold.stamp < h.hold.stamp) ⊎ ((g.hold.stamp ≡ h.hold.stamp) × (g.title < h.title))

-- The list of the patron's loans: the catalogue's copies that are on loan to them, by rising number.
abbrev pub IsLoansOf : Facts → Desk → PatronNo → List CopyNo → Type 0
IsLoansOf k d p cs = IsListOf (λ c. (c < k.copies) × (is_lent_to p (d.copy c) ≡ true)) (λ b c. b < c) cs

-- The list of the patron's holds: those of the catalogue's titles, in their order.
abbrev pub IsHoldsOf : Facts → Desk → PatronNo → List TitleHold → Type 0
IsHoldsOf k d p hs = IsListOf (λ h. (h.title < k.titles) × (d.hold h.title p ≡ Some h.hold)) ComesBefore hs

-- The hold's copy, one of its title, stands on the hold shelf of its pickup, for the patron.
pub record IsAtItsPickup (k : Facts) (d : Desk) (p : PatronNo) (h : TitleHold) : Type 0 where
  pub copy : CopyNo
  pub shelf : HoldPlace
  pub given : h.hold.copy ≡ Some copy
  pub title : k.title_of copy ≡ h.title
  pub stands : d.copy copy ≡ OnHoldShelf shelf
  pub pickup : shelf.branch ≡ h.hold.pickup
  pub patron : shelf.patron ≡ p
