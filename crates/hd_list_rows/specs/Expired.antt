-- Holds past their day, title by title and page by page.
use Rattle.std.specs.Prelude.{◌≡◌, ◌⊎◌, ⊤, ℕ, ◌+◌, ◌-◌, ◌*◌, ◌/◌, ◌%◌, not, nat_lt, Option, Some, None}
use Rattle.std.specs.Prelude.{if◌then◌else◌, zero, suc, List, [], ◌++◌, length, map, filter, filter_map}
use Rattle.hd_rules.specs.declared.holds.Hold.{Hold}
use Rattle.hd_rules.specs.declared.views.TitleHold.{TitleHold}
use Rattle.hd_rules.specs.Numbers.{Day, HoldStamp, PatronNo, TitleNo}
use Rattle.hd_rules.specs.Facts.{Facts}
use Rattle.hd_rules.specs.Desk.{Desk}
use Rattle.hd_rules.specs.Choose.{has_expired}
use Rattle.hd_list_rows.specs.declared.copies.TheConstants.{MOST_WALKED}
use Rattle.hd_list_rows.specs.declared.expired.TheConstants.{PLACES}
use Rattle.hd_list_rows.specs.declared.page.TheConstants.{MOST_ROWS}
use Rattle.hd_list_rows.specs.declared.row.Row.{Row}
use Rattle.hd_list_rows.specs.PageValue.{PageValue}
use Rattle.hd_list_rows.specs.Rows.{hold_row}

-- A page begins at a place. Each title has one for its first hold, and behind it one for the hold of each
-- patron.
abbrev pub title_at : ℕ → TitleNo
title_at place = place / PLACES

-- the stamp of the hold that it begins with; where that has ended, the title's first hold is the one
abbrev pub stamp_or_first : Option Hold → HoldStamp
stamp_or_first None = 0
stamp_or_first (Some h) = h.stamp

abbrev pub stamp_at : Desk → TitleNo → ℕ → HoldStamp
stamp_at d t zero = 0
stamp_at d t (suc p) = stamp_or_first (d.hold t p)

-- a title's holds, each with the title
abbrev pub of_title : TitleNo → List Hold → List TitleHold
of_title t holds = map (λ (h : Hold). record { title = t; hold = h }) holds

-- the holds from a stamp on
abbrev pub from_stamp : HoldStamp → List Hold → List Hold
from_stamp stamp holds = filter (λ (h : Hold). not (nat_lt h.stamp stamp)) holds

-- the holds of so many titles, of the first of them from a stamp on
abbrev pub of_titles : (ℕ → List Hold) → ℕ → TitleNo → HoldStamp → List TitleHold
of_titles queues zero t stamp = []
of_titles queues (suc n) t stamp =
    of_title t (from_stamp stamp (queues t)) ++ of_titles queues n (t + 1) 0

-- the holds of a title from a patron's on, or none
abbrev pub title_left : Desk → (ℕ → List Hold) → TitleNo → Option PatronNo → List TitleHold
title_left d queues t None = []
title_left d queues t (Some p) = of_title t (from_stamp (stamp_or_first (d.hold t p)) (queues t))

module _ (k : Facts) (d : Desk) where
  -- a hold's row, where it is past its day
  abbrev pub expired_row : Day → TitleHold → Option Row
  expired_row day h = if has_expired h.hold.expiry day then Some (hold_row k d h.title h.hold) else None

  abbrev pub expired_rows : Day → List TitleHold → List Row
  expired_rows day holds = filter_map (expired_row day) holds

-- Where the titles have these queues.
module _ (k : Facts) (d : Desk) (queues : ℕ → List Hold) where
  -- all holds from a place on
  abbrev pub holds_at : ℕ → List TitleHold
  holds_at place =
      of_titles queues (k.titles - title_at place) (title_at place)
      (stamp_at d (title_at place) (place % PLACES))

  -- the holds from the next page on
  abbrev pub holds_left : Option ℕ → List TitleHold
  holds_left None = []
  holds_left (Some next) = holds_at next

  -- It goes as far as the last title; or else the page is full, or so many holds or so many titles were gone
  -- over.
  abbrev pub IsFarEnough : ℕ → Option ℕ → List Row → Type 0
  IsFarEnough first None rows = ⊤
  IsFarEnough first (Some next) rows =
      (length rows ≡ MOST_ROWS) ⊎ (length (holds_at first) ≡ MOST_WALKED + length (holds_at next))
      ⊎ (next ≡ (title_at first + MOST_WALKED) * PLACES)

  -- The rows of the holds that are past their day, from a place on: those that the page hasn't follow from
  -- the next one on.
  pub record IsExpiredPage (day : Day) (first : ℕ) (page : PageValue) : Type 0 where
    pub rows : page.rows ++ expired_rows k d day (holds_left page.next)
        ≡ expired_rows k d day (holds_at first)
    pub far : IsFarEnough first page.next page.rows
