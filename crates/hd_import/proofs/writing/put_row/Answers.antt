use Rattle.std.proofs.Common.{◌∷◌, ◌++◌, [], string_bytes}
use Rattle.csv.specs.Records.{fields_of}
use Rattle.hd_import.specs.Columns.{is_fit, letter_of}
use Rattle.hd_import.specs.Values.{value_of}
use Rattle.hd_import.proofs.WriteLemmas.{fit_step, value_step}
use Rattle.hd_import.specs.Faults.{IsRowFault}
use Rattle.hd_import.proofs.FaultLemmas.{handed_on}
use Rattle.hd_import.proofs.FirstLemmas.{fault_of_row}
use Rattle.hd_import.proofs.writing.put_row.Goals as goal

pub loop-column-preserved : goal.loop-column-preserved
loop-column-preserved c =
    let settings = c.args.settings.now in
    let headings = fields_of c.args.headings.now in
    let row = fields_of c.args.row.now in
    let columns = c.columns-columns.result.now in
    let at = c.loop-column.column-index in
    let start = string_bytes c.args.out.now ++ letter_of c.args.sheet ∷ [] in
    record {
      text =
          value_step settings headings row start (string_bytes c.loop-column.out)
          (string_bytes c.put_value.new.out) columns at _
          c.loop-column-test.true c.loop-column.invariant.text c.in_ok-put_value.ensures.value;
      fit =
          fit_step (λ column. is_fit column (value_of settings headings row column)) columns at _
          c.loop-column-test.true
          c.loop-column.invariant.fit c.in_ok-put_value.ensures.fit;
    }

pub returns-in_err-put_value-clause-refused : goal.returns-in_err-put_value-clause-refused
returns-in_err-put_value-clause-refused c =
    let settings = c.args.settings.now in
    let headings = fields_of c.args.headings.now in
    let row = fields_of c.args.row.now in
    let told = c.in_err-put_value.field-0.0 in
    handed_on c.from_residual.result (IsRowFault settings c.args.sheet headings row) told
    (fault_of_row settings c.args.sheet headings row c.columns-columns.result.now c.loop-column.column-index _
    told c.columns-columns.ensures c.loop-column-test.true c.loop-column.invariant.fit
    c.in_err-put_value.ensures.refused)
    c.from_residual.ensures.1
