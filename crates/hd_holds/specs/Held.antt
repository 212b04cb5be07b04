-- The holds of the titles of a library.
use Rattle.std.specs.Prelude.{◌≡◌, ℕ, ◌<◌, List, [], ◌∷◌, Option, None, Some, get_or, length, min}
use Rattle.hd_rules.specs.declared.holds.Hold.{Hold}
use Rattle.hd_rules.specs.Facts.{Facts, AreInRange}
use Rattle.hd_rules.specs.Known.{IsKnownHold}
use Rattle.hd_catalogue.specs.Contents.{facts_of}
use Rattle.hd_queue.specs.Holds.{HasPatronsOnce, IsInOrder, hold_of, with_hold, without}
use Rattle.hd_queue.specs.QueueValue.{QueueValue}
use Rattle.hd_holds.specs.HoldsValue.{HoldsValue}

-- the facts of its catalogue
abbrev pub facts : HoldsValue → Facts
facts v = facts_of v.contents

-- no holds, and no room
abbrev pub no_queue : QueueValue
no_queue = record { holds = []; room = 0 }

-- the queue of a title, and past the last title none
abbrev pub queue_of : List QueueValue → ℕ → QueueValue
queue_of queues title = get_or queues title no_queue

-- the patron's hold of the title, if any
unfoldable pub patron_hold : HoldsValue → ℕ → ℕ → Option Hold
patron_hold v title patron = hold_of (queue_of v.queues title).holds patron

-- how many more holds the title's queue has room for
abbrev pub queue_room : HoldsValue → ℕ → ℕ
queue_room v title = (queue_of v.queues title).room

-- how many more holds of the title there is room for, in its queue and in the patrons' lists
unfoldable pub room_of : HoldsValue → ℕ → ℕ
room_of v title = min (queue_room v title) v.room

-- The hold may become the patron's of the title: it is the patron's own, and no other patron's has its stamp.
abbrev pub IsWelcome : (ℕ → ℕ → Option Hold) → ℕ → ℕ → Option Hold → Type 0
IsWelcome holds title patron None = Unit {0}
IsWelcome holds title patron (Some h) =
    (h.patron ≡ patron) × ((q : ℕ) (g : Hold) → holds title q ≡ Some g → g.stamp ≡ h.stamp → q ≡ patron)

-- one of a title's holds has this stamp
abbrev pub IsStampOf : ℕ → (ℕ → Option Hold) → Type 0
IsStampOf stamp holds = (patron : ℕ) × (hold : Hold) × (holds patron ≡ Some hold) × (hold.stamp ≡ stamp)

-- the holds of a title in which a patron's has become this
abbrev pub with_held : List Hold → ℕ → Option Hold → List Hold
with_held holds patron None = without holds patron
with_held holds patron (Some h) = with_hold (without holds patron) h

-- each hold is of a patron with a number below this
abbrev pub AreOfPatrons : ℕ → List Hold → Type 0
AreOfPatrons patrons [] = Unit {0}
AreOfPatrons patrons (h ∷ hs) = (h.patron < patrons) × AreOfPatrons patrons hs

-- each hold names things of the catalogue
abbrev pub AreKnown : Facts → List Hold → Type 0
AreKnown k [] = Unit {0}
AreKnown k (h ∷ hs) = IsKnownHold k h × AreKnown k hs

-- A queue of a title: stamps rise, each patron has at most one hold in it, and holds name things of the
-- catalogue.
pub record IsQueue (k : Facts) (holds : List Hold) : Type 0 where
  pub ordered : IsInOrder holds
  pub once : HasPatronsOnce holds
  pub known : AreKnown k holds

-- a queue for each title of a catalogue, whose facts keep to their limits
pub record AreQueues (k : Facts) (queues : List QueueValue) : Type 0 where
  pub range : AreInRange k
  pub titles : length queues ≡ k.titles
  pub queue : (t : ℕ) → IsQueue k (queue_of queues t).holds
