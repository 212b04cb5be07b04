use Rattle.std.proofs.Common.{sym, arith, length}
use Rattle.std.specs.Prelude.{not, ◌==◌}
use Rattle.std.proofs.lemmas.Grind.{common_steps}
use Rattle.csv.specs.Records.{fields_of}
use Rattle.hd_import.proofs.RowLemmas.{any_none, none_more}
use Rattle.hd_import.proofs.rows.has_value.Goals as goal

pub loop-place-preserved : goal.loop-place-preserved
loop-place-preserved c =
    none_more (λ value. not (length value == 0))
    (fields_of c.args.row.now) c.loop-place.place c.loop-place.invariant (grind (arith, common_steps))

pub returns : goal.returns
returns c =
    sym (any_none (λ value. not (length value == 0)) (fields_of c.args.row.now) c.loop-place.place
    (omega arith) c.loop-place.invariant)
