use Rattle.std.proofs.Common.{◌≡◌, None, take}
use Rattle.std.specs.List.{find}
use Rattle.csv.specs.Records.{fields_of}
use Rattle.hd_import.specs.Values.{is_missing}
use Rattle.hd_import.proofs.values.check_headings.Given as goal

-- none of the columns so far is missing
abbrev pub invariant-loop-column : goal.invariant-loop-column
invariant-loop-column l =
    find (is_missing l.settings (fields_of l.headings)) (take l.column-index l.columns) ≡ None
