-- What a queue is to its users.
use Rattle.std.specs.Prelude.{ℕ, List}
use Rattle.hd_rules.specs.declared.holds.Hold.{Hold}

-- its holds in order of stamp, and how many more it has room for
pub record QueueValue : Type 0 where
  pub holds : List Hold
  pub room : ℕ
