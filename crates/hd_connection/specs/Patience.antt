-- Which calls are tried again.
use Rattle.std.specs.Prelude.{◌≡◌, ℕ, ◌<◌}
use Rattle.std.specs.declared.io.ErrorKind.{ErrorKind}
use Rattle.std.specs.declared.io.ErrorKind.TheVariants.{Interrupted}

-- A call that failed in this way, behind so many that were interrupted in a row: it was interrupted, and is
-- one of the first sixteen.
abbrev pub IsTriedAgain : ErrorKind → ℕ → Type 0
IsTriedAgain kind tries = (kind ≡ Interrupted) × (tries < 16)
