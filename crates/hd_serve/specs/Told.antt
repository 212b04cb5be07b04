-- What a clock tells.
use Rattle.std.specs.Prelude.{ℕ, ◌/◌, Option, Some, None, Result, Ok, Err}
use Rattle.std.specs.declared.time.Duration.{Duration}
use Rattle.std.specs.Duration.{as_nanos}

-- the whole seconds since 1970-01-01, 00:00, of universal time that a clock has told, if it could be read
abbrev pub seconds_told : {E : Type 0} → Result Duration E → Option ℕ
seconds_told (Ok since) = Some (as_nanos since / 1_000_000_000)
seconds_told (Err _) = None
