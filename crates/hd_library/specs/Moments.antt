-- The offset of a zone at the moment that a clock tells.
use Rattle.std.specs.Prelude.{ℕ, ℤ, ◌/◌, List, Result, Ok, Err}
use Rattle.std.specs.declared.time.Duration.{Duration}
use Rattle.std.specs.Duration.{as_nanos}
use Rattle.hd_zone.specs.Zones.{IsOffsetAt}

-- a zone's file has this offset when a clock tells this time, in whole seconds since 1970-01-01, 00:00, of
-- universal time; none where the clock can't be read
abbrev pub IsOffsetThen : {E : Type 0} → List ℕ → Result Duration E → ℤ → Type 0
IsOffsetThen file (Ok since) offset = IsOffsetAt file (as_nanos since / 1_000_000_000) offset
IsOffsetThen file (Err _) offset = ⊥
