-- What a message comes with.
use Rattle.std.specs.Prelude.{ℕ, ◌<◌, List, Option}
use Rattle.hd_date.specs.Stamps.{Stamp}
use Rattle.hd_rules.specs.Facts.{Facts}
use Rattle.hd_rules.specs.declared.turns.Asked.{Asked}
use Rattle.hd_catalogue.specs.Contents.{Contents, branch_of}
use Rattle.hd_rules.specs.Messages.{SeatMessage, asking, kept_line}
use Rattle.hd_exchange.specs.declared.login.Login.{Login}

-- The seat that takes it, the present, its session's login, and its line where that carried a sequence digit.
pub record Arrival : Type 0 where
  pub seat : ℕ
  pub present : Stamp
  pub login : Option Login
  pub line : Option (List ℕ)

-- a terminal of the catalogue and a branch of it
abbrev pub IsKnownLogin : Facts → Login → Type 0
IsKnownLogin k at = (at.terminal < k.terminals) × (at.branch < k.branches)

-- the login as a terminal
abbrev pub login_of : Contents → ℕ → Login
login_of k terminal = record { terminal = terminal; branch = branch_of k terminal }

-- what a terminal asks by a message that comes so
abbrev pub ask_of : Arrival → Login → Asked → SeatMessage
ask_of arrival at asked = record {
  seat = arrival.seat;
  message = asking at.terminal asked (kept_line asked arrival.line);
}
