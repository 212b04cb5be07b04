-- Where copies are and may go.
use Rattle.std.specs.Prelude.{◌≡◌, ◌≢◌, ℕ, ◌<◌, ◌≤◌, Bool, true, false, ◌==◌, ◌&&◌, nat_lt, List, length}
use Rattle.std.specs.Prelude.{get_or, slice_index}
use Rattle.std.specs.List.{filter, range_with_len}
use Rattle.hd_rules.specs.declared.copies.HoldPlace.{HoldPlace}
use Rattle.hd_rules.specs.declared.copies.CopyState.{CopyState}
use Rattle.hd_rules.specs.declared.copies.CopyState.TheVariants.{Shelf, OnLoan, OnHoldShelf, InTransit}
use Rattle.hd_rules.specs.Facts.{Facts}
use Rattle.hd_rules.specs.Choose.{is_lent_to, is_on_shelf, stands_at}
use Rattle.hd_rules.specs.Known.{IsKnownState}
use Rattle.hd_rules.specs.Sound.{PlacesFit}
use Rattle.hd_catalogue.specs.Contents.{facts_of}
use Rattle.hd_copies.specs.CopiesValue.{CopiesValue}

-- the facts of the catalogue
abbrev pub facts : CopiesValue → Facts
facts v = facts_of v.contents

-- the copy's entry of the list; a number that no copy has stands on the shelf of the first branch
abbrev pub state_in : List CopyState → ℕ → CopyState
state_in states c = get_or states c (Shelf 0)

-- where each copy is
unfoldable pub standing : CopiesValue → ℕ → CopyState
standing v = state_in v.states

-- places are numbered from 1
abbrev pub IsFromOne : CopyState → Type 0
IsFromOne (OnHoldShelf s) = 1 ≤ s.place
IsFromOne (Shelf b) = Unit {0}
IsFromOne (OnLoan l) = Unit {0}
IsFromOne (InTransit t) = Unit {0}

-- a copy that goes to a hold shelf has room there
abbrev pub HasRoom : List ℕ → CopyState → Type 0
HasRoom rooms (OnHoldShelf s) = s.place ≤ slice_index rooms s.branch
HasRoom rooms (Shelf b) = Unit {0}
HasRoom rooms (OnLoan l) = Unit {0}
HasRoom rooms (InTransit t) = Unit {0}

-- the place is at least 1, and no other of the catalogue's copies stands there
pub record IsAlone (k : Facts) (copies : ℕ → CopyState) (c : ℕ) (s : HoldPlace) : Type 0 where
  pub from_one : 1 ≤ s.place
  pub alone : (x : ℕ) → x < k.copies → x ≢ c → stands_at s.branch s.place (copies x) ≡ false

-- the copy, one of the catalogue, stands at this place of the branch's hold shelf
pub record StandsAt (k : Facts) (copies : ℕ → CopyState) (b place c : ℕ) : Type 0 where
  pub known : c < k.copies
  pub there : stands_at b place (copies c) ≡ true

-- and none does
abbrev pub IsFree : Facts → (ℕ → CopyState) → ℕ → ℕ → Type 0
IsFree k copies b place = (c : ℕ) → c < k.copies → stands_at b place (copies c) ≡ false

-- a copy that goes to a hold shelf has its place alone
abbrev pub IsWelcome : Facts → (ℕ → CopyState) → ℕ → CopyState → Type 0
IsWelcome k copies c (OnHoldShelf s) = IsAlone k copies c s
IsWelcome k copies c (Shelf b) = Unit {0}
IsWelcome k copies c (OnLoan l) = Unit {0}
IsWelcome k copies c (InTransit t) = Unit {0}

-- a state for each copy, which names things of the catalogue; places are fit
pub record AreStates (k : Facts) (states : List CopyState) : Type 0 where
  pub copies : length states ≡ k.copies
  pub known : (c : ℕ) → c < k.copies → IsKnownState k (state_in states c)
  pub places : PlacesFit k (state_in states)

-- each copy stands on the open shelf of its home
pub record AreAtHome (k : Facts) (states : List CopyState) : Type 0 where
  pub copies : length states ≡ k.copies
  pub home : (c : ℕ) → c < k.copies → state_in states c ≡ Shelf (k.home c)

-- the catalogue's copies that are on loan to the patron, each once, by rising number
abbrev pub lent_to : Facts → (ℕ → CopyState) → ℕ → List ℕ
lent_to k copies p = filter (λ c. is_lent_to p (copies c)) (range_with_len 0 k.copies)

-- the copy is one of the title, and stands on an open shelf
abbrev pub stands_ready : Facts → (ℕ → CopyState) → ℕ → ℕ → Bool
stands_ready k copies title c = nat_lt c k.copies && (((k.title_of c) == title) && is_on_shelf (copies c))
