-- The holds of a title without a copy, as a queue keeps them.
use Rattle.std.specs.Prelude.{◌≡◌, ℕ, Bool, if◌then◌else◌, List, None, Some}
use Rattle.hd_rules.specs.declared.holds.Hold.{Hold}
use Rattle.hd_queue.specs.Holds.{HasNoStamp, hold_of}

-- those that wait for any copy, for one copy and for a copy of a branch, and how many more each list has room
-- for
pub record WaitingValue : Type 0 where
  pub for_any : List Hold
  pub for_one : List Hold
  pub at_branch : List Hold
  pub room : ℕ

-- neither the hold's patron nor its stamp is in the list
pub record IsAbsent (hold : Hold) (holds : List Hold) : Type 0 where
  pub patron : hold_of holds hold.patron ≡ None
  pub stamp : HasNoStamp hold.stamp holds

-- the list has the hold where it passes the test, and else none of its patron
abbrev pub IsListed : (Hold → Bool) → Hold → List Hold → Type 0
IsListed test hold holds = hold_of holds hold.patron ≡ (if test hold then Some hold else None)
