-- Slots behind those of numbers that were given before.
use Rattle.std.specs.Prelude.{ℕ, zero, suc, Option, None, List, ◌∷◌}
use Rattle.hd_rules.specs.Record.{Record}

-- so many empty slots, and these behind them
abbrev pub behind : ℕ → List (Option Record) → List (Option Record)
behind zero slots = slots
behind (suc n) slots = None ∷ behind n slots
