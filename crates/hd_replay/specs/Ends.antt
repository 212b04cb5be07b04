-- What a replay reads and writes, by how it ends.
use Rattle.std.specs.Prelude.{◌≡◌, ◌⊎◌, ℕ, ◌<◌, ◌≤◌, Bool, true, false, List, Result, Ok, Err, length}
use Rattle.std.specs.Prelude.{take, if◌then◌else◌}
use Rattle.std.specs.Io.KnownBytes.{Appends, Consumes, IsAtEnd, Keeps}
use Rattle.hd_date.specs.Faults.{IsFirstFault}
use Rattle.hd_date.specs.Stamps.{Stamp, IsStamp}
use Rattle.hd_date.specs.declared.fault.DateFault.{DateFault}
use Rattle.hd_catalogue.specs.Contents.{Contents}
use Rattle.hd_catalogue.specs.Files.{IsAccepted, IsFirstBad, lines_of}
use Rattle.hd_connection.specs.Streams.{Streams}
use Rattle.hd_exchange.specs.Extensions.{Extensions, no_extensions}
use Rattle.hd_replay.specs.declared.fault.ReplayFault.{ReplayFault}
use Rattle.hd_replay.specs.declared.fault.ReplayFault.TheVariants.{Catalogue, BadNow, InputTooLong, Read}
use Rattle.hd_replay.specs.declared.fault.ReplayFault.TheVariants.{Memory}
use Rattle.hd_replay.specs.Inputs.{AreLines, with_rest}
use Rattle.hd_replay.specs.Replays.{IsLegalReplay, Progress, Replayed, before_any_line}

-- Of the bytes that were read these are the lines: the whole ones among the first 16,777,216 bytes, and at
-- the end of input also a last one that nothing ends.
pub record HasLines (got : List ℕ) (at_end : Bool) (lines : List (List ℕ)) : Type 0 where
  pub whole : List (List ℕ)
  pub rest : List ℕ
  pub are : AreLines 10 (take 16777216 got) whole rest
  pub lines_are : lines ≡ (if at_end then with_rest whole rest else whole)

-- When it ends so: well, at the end of an input that isn't too long; as too long, past 16,777,216 bytes; at a
-- read that fails, before either. A line stops it, and memory or a write fails, in an input that isn't too
-- long yet, or in the whole lines of one that is.
abbrev pub EndsSo : Result (Unit {0}) ReplayFault → List ℕ → Bool → Type 0
EndsSo (Ok _) got at_end = (at_end ≡ true) × (length got ≤ 16777216)
EndsSo (Err InputTooLong) got at_end = (at_end ≡ false) × (16777216 < length got)
EndsSo (Err Read) got at_end = (at_end ≡ false) × (length got ≤ 16777216)
EndsSo (Err _) got at_end = at_end ≡ true → length got ≤ 16777216

-- So much is read and written from the beginning on: of the lines that are heard, those are replayed that the
-- end says.
pub record ReadsAndWrites (before after : Progress) (bytes : Streams) (end : Result (Unit {0}) ReplayFault)
    : Type 0 where
  pub got : List ℕ
  pub read : Consumes bytes.from bytes.from' got
  pub at_end : Bool
  pub all : at_end ≡ true → IsAtEnd bytes.from'
  pub lines : List (List ℕ)
  pub heard : HasLines got at_end lines
  pub time : EndsSo end got at_end
  pub put : List ℕ
  pub replayed : Replayed before after lines end put
  pub wrote : Appends bytes.to bytes.to' put

-- nothing is read and nothing is written
abbrev pub IsUntouched : Streams → Type 0
IsUntouched bytes = Keeps bytes.from bytes.from' × Keeps bytes.to bytes.to'

-- An input is replayed over a library, with some extensions: so much is read and written, the turns are the
-- turn machine's, and the headline holds of them.
pub record Replay (k : Contents) (e : Extensions) (now : Stamp) (bytes : Streams)
    (end : Result (Unit {0}) ReplayFault) : Type 0 where
  pub after : Progress
  pub reads : ReadsAndWrites (before_any_line k e now) after bytes end
  pub legal : IsLegalReplay after

-- what replaying over a library at a present results in: out of memory before anything is read, or a replay
abbrev pub ReplaysOver : Contents → Extensions → Stamp → Streams → Result (Unit {0}) ReplayFault → Type 0
ReplaysOver k e now bytes end = (IsUntouched bytes × (end ≡ Err Memory)) ⊎ Replay k e now bytes end

-- The same over the library of a catalogue file, at a present that can be read, without extensions.
pub record Runs (file present : List ℕ) (bytes : Streams) (end : Result (Unit {0}) ReplayFault)
    : Type 0 where
  pub k : Contents
  pub accepted : IsAccepted (lines_of file) k
  pub now : Stamp
  pub stamp : IsStamp present k.settings.offset now
  pub replay : Replay k no_extensions now bytes end

-- The file is accepted, and the present isn't read.
pub record HasBadNow (file present : List ℕ) : Type 0 where
  pub k : Contents
  pub accepted : IsAccepted (lines_of file) k
  pub fault : DateFault
  pub first : IsFirstFault present k.settings.offset fault

-- what replaying an input results in: a catalogue file that is refused, or then a present that can't be read,
-- or out of memory before anything is read; or a replay
abbrev pub IsReplayOf : List ℕ → List ℕ → Streams → Result (Unit {0}) ReplayFault → Type 0
IsReplayOf file present bytes (Err (Catalogue fault)) = IsFirstBad (lines_of file) fault × IsUntouched bytes
IsReplayOf file present bytes (Err BadNow) = HasBadNow file present × IsUntouched bytes
IsReplayOf file present bytes (Err Memory) = IsUntouched bytes ⊎ Runs file present bytes (Err Memory)
IsReplayOf file present bytes end = Runs file present bytes end
