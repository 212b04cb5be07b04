-- What slots are to their users.
use Rattle.std.specs.Prelude.{ℕ, List, Option}
use Rattle.hd_rules.specs.Record.{Record}

-- what stands in each, and for how many more there is room
pub record SlotsValue : Type 0 where
  pub items : List (Option Record)
  pub room : ℕ
