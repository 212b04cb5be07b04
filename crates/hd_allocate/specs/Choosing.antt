-- The holds of a title as a copy of it finds them.
use Rattle.std.specs.Prelude.{◌≡◌, ℕ, ◌<◌, Bool, ◌&&◌, not, ◌==◌, if◌then◌else◌, List, [], ◌∷◌, Option, None}
use Rattle.std.specs.Prelude.{Some, find}
use Rattle.std.specs.Option.{option_or}
use Rattle.hd_rules.specs.declared.holds.Hold.{Hold}
use Rattle.hd_rules.specs.Facts.{Facts}
use Rattle.hd_rules.specs.Desk.{Desk}
use Rattle.hd_rules.specs.Choose.{has_expired}
use Rattle.hd_queue.specs.Holds.{hold_of}
use Rattle.hd_allocate.specs.declared.facts.CopyFacts.{CopyFacts}

-- each hold is one of a patron with a number below this
abbrev pub AreOfPatrons : ℕ → List Hold → Type 0
AreOfPatrons patrons [] = Unit {0}
AreOfPatrons patrons (h ∷ hs) = (h.patron < patrons) × AreOfPatrons patrons hs

-- The copy's home and its title's priority are those of the catalogue, and the holds are those of its title
-- at the desk.
pub record IsAt (k : Facts) (d : Desk) (holds : List Hold) (copy : CopyFacts) : Type 0 where
  pub home : k.home copy.copy ≡ copy.home
  pub priority : k.priority (k.title_of copy.copy) ≡ copy.priority
  pub queue : (p : ℕ) → d.hold (k.title_of copy.copy) p ≡ hold_of holds p
  pub patrons : AreOfPatrons k.patrons holds

-- the hold is its patron's among these, and has no copy
pub record Waits (holds : List Hold) (h : Hold) : Type 0 where
  pub queued : hold_of holds h.patron ≡ Some h
  pub copy : h.copy ≡ None

-- the last day hasn't passed
abbrev pub is_open : ℕ → Hold → Bool
is_open day h = not (has_expired h.expiry day)

-- the same, and the pickup is this branch
abbrev pub is_open_at : ℕ → ℕ → Hold → Bool
is_open_at b day h = (h.pickup == b) && is_open day h

-- Of holds in order of stamp, the first that hasn't expired; where pickups at the branch come first, the
-- first of those, if there is one.
abbrev pub front : Bool → ℕ → ℕ → List Hold → Option Hold
front priority b day holds =
    option_or (if priority then find (is_open_at b day) holds else None) (find (is_open day) holds)
