-- What the type of a queue keeps.
use Rattle.std.specs.Prelude.{◌≡◌, ℕ, ◌≤◌, option_map}
use Rattle.hd_queue.specs.Holds.{hold_of}
use Rattle.hd_queue.specs.QueueValue.{QueueValue}
use Rattle.hd_queue.specs.StampsValue.{StampsValue, stamp_of}
use Rattle.hd_queue.specs.Waiting.{AreWaiting}
use Rattle.hd_queue.specs.WaitingValue.{WaitingValue}

-- The waiting lists are those of the list's holds, and the stamps are theirs, by patron. Each list and the
-- table of stamps have this much room.
pub record AreLists (list : QueueValue) (waiting : WaitingValue) (stamps : StampsValue) (room : ℕ) : Type 0
  where
    pub lists : AreWaiting list.holds waiting.for_any waiting.for_one waiting.at_branch
    pub stamped : (patron : ℕ) →
        stamp_of stamps patron ≡ option_map (λ h. h.stamp) (hold_of list.holds patron)
    pub list_room : room ≤ list.room
    pub waiting_room : room ≤ waiting.room
    pub stamps_room : room ≤ stamps.room
