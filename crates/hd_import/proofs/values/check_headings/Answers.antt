use Rattle.std.proofs.Common.{◌∙◌, ap, arith, sym}
use Rattle.std.proofs.lemmas.List.{take_all}
use Rattle.std.specs.List.{find}
use Rattle.csv.specs.Records.{fields_of}
use Rattle.hd_import.specs.Values.{is_missing}
use Rattle.hd_import.proofs.FirstLemmas.{first_here, none_yet}
use Rattle.hd_import.proofs.values.check_headings.Goals as goal

pub loop-column-preserved : goal.loop-column-preserved
loop-column-preserved c =
    none_yet (is_missing c.args.settings.now (fields_of c.args.headings.now)) c.columns-columns.result.now
    c.loop-column.column-index _ c.loop-column-test.true c.loop-column.invariant
    (sym c.is_missing.ensures ∙ c.if-is_missing.false)

pub returns-then-is_missing-clause-refused : goal.returns-then-is_missing-clause-refused
returns-then-is_missing-clause-refused c =
    let missing = is_missing c.args.settings.now (fields_of c.args.headings.now) in
    ap (find missing) (sym c.columns-columns.ensures)
    ∙ first_here missing c.columns-columns.result.now c.loop-column.column-index _ c.loop-column-test.true
    c.loop-column.invariant (sym c.is_missing.ensures ∙ c.if-is_missing.true)

pub returns-clause-headed : goal.returns-clause-headed
returns-clause-headed c =
    let missing = is_missing c.args.settings.now (fields_of c.args.headings.now) in
    ap (find missing) (sym c.columns-columns.ensures
    ∙ sym (take_all c.loop-column.column-index c.columns-columns.result.now (omega arith)))
    ∙ c.loop-column.invariant
