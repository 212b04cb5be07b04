-- How the first candidate and the least free place are found. Choose says what they are, and the
-- laws ChoiceIsTheFirstCandidate and PlaceIsTheLeastFree that these are they and no others.
use Rattle.std.specs.Prelude.{max, ◌+◌, Bool, ◌==◌, Option, Some, None, if◌then◌else◌, zero, suc}
use Rattle.hd_rules.specs.Words.{Hold, CopyState, OnHoldShelf}
use Rattle.hd_rules.specs.Numbers.{BranchNo, CopyNo, PatronNo, Day, PlaceNo, Count}
use Rattle.hd_rules.specs.Facts.{Facts}
use Rattle.hd_rules.specs.Desk.{Desk}
use Rattle.hd_rules.specs.Choose.{precedes, candidate, count_below, stands_at}

-- the one of the two that comes first
abbrev pub earlier : Bool → BranchNo → Option Hold → Option Hold → Option Hold
earlier priority b None y = y
earlier priority b (Some g) None = Some g
earlier priority b (Some g) (Some h) = if precedes priority b h g then Some h else Some g

module _ (k : Facts) where
  -- the first candidate among the holds of the patrons below n
  abbrev pub first_of : CopyNo → BranchNo → Day → (PatronNo → Option Hold) → PatronNo → Option Hold
  first_of c b day holds zero = None
  first_of c b day holds (suc n) =
      earlier (k.priority (k.title_of c)) b (first_of c b day holds n) (candidate k c day (holds n))

  -- the first candidate for the copy, at a branch on a day
  abbrev pub choice : Desk → CopyNo → BranchNo → Day → Option Hold
  choice d c b day = first_of c b day (d.hold (k.title_of c)) k.patrons

-- where a copy stands on the branch's hold shelf, else 0
abbrev pub place_there : BranchNo → CopyState → PlaceNo
place_there b (OnHoldShelf s) = if s.branch == b then s.place else 0
place_there b _ = 0

-- the highest place of the branch at which one of the copies below n stands
abbrev pub highest : Desk → BranchNo → CopyNo → PlaceNo
highest d b zero = 0
highest d b (suc n) = max (highest d b n) (place_there b (d.copy n))

module _ (k : Facts) (d : Desk) where
  -- no copy on the branch's hold shelf has the place
  abbrev pub is_free : BranchNo → PlaceNo → Bool
  is_free b place = count_below (λ n. stands_at b place (d.copy n)) k.copies == 0

  -- the least free one of the places from the first on, of which there are tries
  abbrev pub free_from : BranchNo → Count → PlaceNo → PlaceNo
  free_from b zero first = first
  free_from b (suc tries) first = if is_free b first then first else free_from b tries (first + 1)

  -- the least free place of the branch: one up to the highest that is taken, or the next
  abbrev pub place : BranchNo → PlaceNo
  place b = free_from b (highest d b k.copies) 1
