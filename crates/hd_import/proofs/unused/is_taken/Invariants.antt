use Rattle.std.proofs.Common.{◌≡◌, false, take}
use Rattle.std.specs.List.{list_any}
use Rattle.csv.specs.Records.{fields_of}
use Rattle.hd_import.specs.Unused.{is_place_of}
use Rattle.hd_import.proofs.unused.is_taken.Given as goal

-- none of the columns so far is taken from the place
abbrev pub invariant-loop-column : goal.invariant-loop-column
invariant-loop-column l =
    list_any (is_place_of (fields_of l.headings) l.place) (take l.column-index l.columns) ≡ false
