-- The offset of a zone's file at a moment.
use Rattle.std.specs.Prelude.{◌≡◌, ℕ, ℤ, pos, ◌*ℤ◌, List, Ok, ⊤}
use Rattle.jiff_core.specs.Timestamp.{IsTimestampNanos, nanos_of_seconds}
use Rattle.jiff_core.specs.declared.error.Error.TheVariants.{Tzif as TzifError}
use Rattle.jiff_tz.specs.declared.tzif.Tzif.{Tzif}
use Rattle.jiff_tz.specs.Tzif.{IsParseFailure, RuleAgrees, offset_at, tzif_view}
use Rattle.jiff_tz.specs.TzifReader.{read_tzif}
use Rattle.hd_date.specs.Offset.{IsOffset}
use Rattle.hd_zone.specs.declared.fault.ZoneFault.{ZoneFault}
use Rattle.hd_zone.specs.declared.fault.ZoneFault.TheVariants.{Form, Moment, Minutes, Memory}

-- The zone is what a file's bytes read as.
abbrev pub IsZoneOf : List ℕ → Tzif → Type 0
IsZoneOf file zone = (read_tzif file ≡ Ok (tzif_view zone)) × RuleAgrees zone

-- so many seconds since 1970-01-01, 00:00, of universal time, in nanoseconds
abbrev pub told_nanos : ℕ → ℤ
told_nanos told = nanos_of_seconds (pos told)

-- by how many seconds local time is later than universal time then
abbrev pub seconds_ahead : Tzif → ℕ → ℤ
seconds_ahead zone told = (offset_at zone (told_nanos told)).seconds

-- a whole number of minutes, less than a day
abbrev pub IsWhole : ℤ → Type 0
IsWhole seconds = (minutes : ℤ) × IsOffset minutes × (minutes *ℤ pos 60 ≡ seconds)

-- By the file's zone local time is that many minutes later then.
abbrev pub IsOffsetAt : List ℕ → ℕ → ℤ → Type 0
IsOffsetAt file told minutes =
    (zone : Tzif) × IsZoneOf file zone × (minutes *ℤ pos 60 ≡ seconds_ahead zone told)

-- why a file has no zone: its form, or memory was wanting
abbrev pub IsFormFault : List ℕ → ZoneFault → Type 0
IsFormFault file (Form fault) = IsParseFailure (TzifError fault) file
IsFormFault file Memory = ⊤
IsFormFault file fault = ⊥

-- why there is no such number: the same; the moment, which zones don't know; or the number of seconds
abbrev pub IsFaultAt : List ℕ → ℕ → ZoneFault → Type 0
IsFaultAt file told Moment = ¬ IsTimestampNanos (told_nanos told)
IsFaultAt file told Minutes = (zone : Tzif) × IsZoneOf file zone × (¬ IsWhole (seconds_ahead zone told))
IsFaultAt file told fault = IsFormFault file fault
