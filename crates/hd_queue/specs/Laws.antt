-- What a queue keeps where a hold is put at its stamp, or a patron's is taken.
use Rattle.std.specs.Prelude.{◌≡◌, ℕ, ◌==◌, if◌then◌else◌, List, None, Some}
use Rattle.hd_rules.specs.declared.holds.Hold.{Hold}
use Rattle.hd_queue.specs.Holds.{HasNoStamp, HasPatronsOnce, IsInOrder, hold_of, with_hold, without}

pub record QueuesStayInOrder : Type 0 where
  pub put_has : (holds : List Hold) (hold : Hold) (patron : ℕ) → hold_of holds hold.patron ≡ None
      → hold_of (with_hold holds hold) patron
      ≡ (if hold.patron == patron then Some hold else hold_of holds patron)
  pub put_ordered : (holds : List Hold) (hold : Hold) → IsInOrder holds → HasNoStamp hold.stamp holds
      → IsInOrder (with_hold holds hold)
  pub put_once : (holds : List Hold) (hold : Hold) → HasPatronsOnce holds → hold_of holds hold.patron ≡ None
      → HasPatronsOnce (with_hold holds hold)
  pub left_ordered : (holds : List Hold) (patron : ℕ) → IsInOrder holds → IsInOrder (without holds patron)
  pub left_once : (holds : List Hold) (patron : ℕ) → HasPatronsOnce holds
      → HasPatronsOnce (without holds patron)
