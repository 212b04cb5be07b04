use Rattle.std.specs.Prelude.{not, length, ◌==◌}
use Rattle.csv.specs.Records.{fields_of}
use Rattle.hd_import.proofs.RowLemmas.{NonePasses}
use Rattle.hd_import.proofs.rows.has_value.Given as goal

-- nothing stands in the places so far
abbrev pub invariant-loop-place : goal.invariant-loop-place
invariant-loop-place l = NonePasses (λ value. not (length value == 0)) (fields_of l.row) l.place
