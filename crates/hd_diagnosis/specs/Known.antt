-- What the lines of a file define, whatever else is wrong with them.
use Rattle.std.specs.Prelude.{ℕ, Bool, false, List, [], ◌∷◌, codes, if◌then◌else◌, pos}
use Rattle.std.specs.Str.{bytes_eq}
use Rattle.hd_catalogue.specs.Contents.{Contents, without_names}
use Rattle.hd_catalogue.specs.Text.{values_of}
use Rattle.hd_catalogue.specs.declared.facts.Version.{Version}
use Rattle.hd_catalogue.specs.declared.facts.Version.TheVariants.{One, Two}
use Rattle.hd_diagnosis.specs.Names.{named, with_name}
use Rattle.hd_diagnosis.specs.declared.known.Known.{Known}

-- the version of a file, by whether its titles have priorities
abbrev pub version_of : Bool → Version
version_of has_priorities = if has_priorities then Two else One

-- no names yet
abbrev pub nothing_known : Bool → Known
nothing_known has_priorities = record {
  has_priorities = has_priorities;
  branches = [];
  terminals = [];
  patrons = [];
  titles = [];
  copies = [];
}

-- a catalogue with just these names: its facts stand for nothing
abbrev pub contents : Known → Contents
contents known =
    record (without_names (record {
      version = version_of known.has_priorities;
      offset = pos 0;
      command_limit = 1;
    }) []) {
      branches = named (record {}) known.branches;
      terminals = named (record { password = []; branch = 0 }) known.terminals;
      patrons = named (record { loan_limit = 0 }) known.patrons;
      titles = named (record { loan_days = 0; renewals = 0; local_priority = false }) known.titles;
      copies = named (record { title = 0; home = 0 }) known.copies;
    }

-- what is known after one more line, with its number, that has these values: its second value is a name
abbrev pub with_values : Known → List (List ℕ) → ℕ → Known
with_values known [] line = known
with_values known (kind ∷ []) line = known
with_values known (kind ∷ name ∷ values) line =
    if bytes_eq kind (codes "B") then record known { branches = with_name known.branches name line }
    else if bytes_eq kind (codes "S") then record known { terminals = with_name known.terminals name line }
    else if bytes_eq kind (codes "P") then record known { patrons = with_name known.patrons name line }
    else if bytes_eq kind (codes "T") then record known { titles = with_name known.titles name line }
    else if bytes_eq kind (codes "C") then record known { copies = with_name known.copies name line }
    else known

abbrev pub with_line : Known → List ℕ → ℕ → Known
with_line known line number = with_values known (values_of line) number
