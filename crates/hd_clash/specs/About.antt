-- What the records of commands are about, and which of them some changes touch.
use Rattle.std.specs.Prelude.{◌≡◌, ℕ, Bool, true, false, List, [], ◌∷◌, map, filter, if◌then◌else◌}
use Rattle.std.specs.List.{list_any}
use Rattle.hd_rules.specs.declared.cells.Change.{Change}
use Rattle.hd_rules.specs.declared.questions.Question.{Question}
use Rattle.hd_rules.specs.declared.questions.Finding.{Finding}
use Rattle.hd_rules.specs.declared.commands.Command.{Command}
use Rattle.hd_rules.specs.declared.commands.Survivor.{Survivor}
use Rattle.hd_rules.specs.Facts.{Facts, first_number}
use Rattle.hd_rules.specs.Desk.{Desk}
use Rattle.hd_rules.specs.Ask.{asks}
use Rattle.hd_rules.specs.Step.{plan}
use Rattle.hd_rules.specs.Run.{IsAmong, Rising}
use Rattle.hd_rules.specs.Record.{Record}
use Rattle.hd_rules.specs.Sound.{Tie, Sound, MayOpen}
use Rattle.hd_clash.specs.Clash.{some_clash, first_clash}
use Rattle.hd_clash.specs.Shift.{shift_record, shift_records}
use Rattle.hd_clash.specs.Keys.{key_of, keys_of}
use Rattle.hd_clash.specs.CommandKeys.{keys_of_command, has_key}
use Rattle.hd_clash.specs.Records.{AreRecords}

-- a question is about what the command asks about
abbrev pub IsOfCommand : Facts → Command → Question → Type 0
IsOfCommand k command q = has_key (keys_of_command k command) (key_of k q) ≡ true

-- where holds and the copies that they have are tied, so is each question that the command comes to
abbrev pub QuestionsAreOfTheirCommand : Type 0
QuestionsAreOfTheirCommand =
    (k : Facts) (d : Desk) (n : ℕ) (command : Command) (q : Question) → Tie k d →
    IsAmong q (asks k d (plan k n command)) → IsOfCommand k command q

-- each finding of the record is about what its command asks about
abbrev pub IsAbout : Facts → Record → Type 0
IsAbout k r = (f : Finding) → IsAmong f r.findings → IsOfCommand k r.command f.question

abbrev pub EachIsAbout : Facts → List Record → Type 0
EachIsAbout k [] = Unit {0}
EachIsAbout k (r ∷ rs) = IsAbout k r × EachIsAbout k rs

-- so are the records of a legal run from a sound desk on
abbrev pub RecordsAreAboutTheirCommands : Type 0
RecordsAreAboutTheirCommands =
    (k : Facts) (d : Desk) (n : ℕ) (ss : List Survivor) (rs : List Record) → Sound k n d → Rising n ss →
    AreRecords k d ss rs → EachIsAbout k rs

-- and those of a legal run from the opening desk on
abbrev pub AllRecordsAreAboutTheirCommands : Type 0
AllRecordsAreAboutTheirCommands =
    (k : Facts) (ss : List Survivor) (rs : List Record) → MayOpen k → Rising (first_number k) ss →
    AreRecords k k.opening.desk ss rs →
    EachIsAbout k rs

-- shifting keeps it
abbrev pub ShiftedRecordsAreAbout : Type 0
ShiftedRecordsAreAbout =
    (k : Facts) (cs : List Change) (r : Record) → IsAbout k r → IsAbout k (shift_record k cs r)

abbrev pub EachShiftedIsAbout : Type 0
EachShiftedIsAbout =
    (k : Facts) (cs : List Change) (rs : List Record) → EachIsAbout k rs →
    EachIsAbout k (shift_records k cs rs)

-- the changes touch something that the record's command asks about
abbrev pub touches : Facts → List Change → Record → Bool
touches k cs r = list_any (has_key (keys_of_command k r.command)) (keys_of k cs)

-- a record that they don't touch neither clashes nor shifts
abbrev pub UntouchedRecordsStay : Type 0
UntouchedRecordsStay =
    (k : Facts) (cs : List Change) (r : Record) → IsAbout k r → touches k cs r ≡ false →
    (some_clash k cs r.findings ≡ false) × (shift_record k cs r ≡ r)

-- so the first clash is among the touched records
abbrev pub TheFirstClashIsTouched : Type 0
TheFirstClashIsTouched =
    (k : Facts) (cs : List Change) (rs : List Record) → EachIsAbout k rs →
    first_clash k cs rs ≡ first_clash k cs (filter (touches k cs) rs)

-- the record shifted, where they touch it
abbrev pub shift_touched : Facts → List Change → Record → Record
shift_touched k cs r = if touches k cs r then shift_record k cs r else r

-- and no other shifts
abbrev pub OnlyTouchedRecordsShift : Type 0
OnlyTouchedRecordsShift =
    (k : Facts) (cs : List Change) (rs : List Record) → EachIsAbout k rs →
    shift_records k cs rs ≡ map (shift_touched k cs) rs
