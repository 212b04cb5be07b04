use Rattle.std.proofs.Common.{◌≡◌, ◌≢◌, ◌∷◌, ◌∙◌, ◌≤◌, List, [], sym, ap, arith, length, map, subst}
use Rattle.std.proofs.lemmas.Grind.{common_steps}
use Rattle.std.proofs.lemmas.List.{get_or-map, length-map}
use Rattle.csv.specs.Records.{fields_of}
use Rattle.hd_catalogue.specs.declared.cause.Cause.TheVariants as cause
use Rattle.hd_import.specs.Rows.{AreRowsOfFile, Row}
use Rattle.hd_import.specs.Texts.{file_of}
use Rattle.hd_import.specs.Faults.{IsLineOfRow}
use Rattle.hd_import.specs.declared.sources.Source.{Source}
use Rattle.hd_import.proofs.TraceLemmas.{row_read_again}
use Rattle.hd_import.proofs.tracing.trace.Goals as goal

pub returns : goal.returns
returns c = λ settings tables text so counted.
    let rest = c.in-Some-split_first.rows.now in
    let headings = c.in-Some-split_first.headings.now in
    let other : c.args.fault.cause ≢ cause.Memory = grind (arith, common_steps) in
    let split : c.in-Ok.rows.items ≡ headings ∷ rest =
    sym c.as_slice.ensures.value ∙ c.in-Some-split_first.ensures.cases.0 in
    let read : AreRowsOfFile c.args.format (file_of c.args.sources.now c.in-Some.sheet).bytes.now
    (fields_of headings ∷ map fields_of rest) =
    subst (λ (file : Source). AreRowsOfFile c.args.format file.bytes.now
    (fields_of headings ∷ map fields_of rest)) c.file_of-file.ensures
    (subst (λ (rows : List Row). AreRowsOfFile c.args.format c.file_of-file.result.bytes.now rows)
    (ap (map fields_of) split) c.in-Ok.ensures.rows) in
    let row = c.in-Some-get.values.now in
    let within = c.in-Some-get.ensures.lookup.3.0 in
    let same = c.in-Some-get.ensures.lookup.1 in
    c.fault_at.ensures c.args.counts.now other
    (ap (λ (f : Source). f.path.now) c.file_of-file.ensures, c.in-Some.ensures.found) (
      map fields_of rest,
      read,
      omega (arith, within, length-map rest fields_of),
      ap fields_of same ∙ sym (get_or-map fields_of rest c.in-Some.row row [] within),
    )

pub returns-in_default-split_first : goal.returns-in_default-split_first
returns-in_default-split_first c = λ settings tables text so counted.
    let read : AreRowsOfFile c.args.format (file_of c.args.sources.now c.in-Some.sheet).bytes.now
    (map fields_of c.in-Ok.rows.items) =
    subst (λ (file : Source). AreRowsOfFile c.args.format file.bytes.now
    (map fields_of c.in-Ok.rows.items)) c.file_of-file.ensures c.in-Ok.ensures.rows in
    let at = subst (λ counts. IsLineOfRow counts c.in-Some.sheet c.in-Some.row c.args.fault.line) counted
    c.in-Some.ensures.found in
    let below = row_read_again settings c.args.format c.args.sources.now tables text c.in-Some.sheet
    c.in-Some.row c.args.fault.line (map fields_of c.in-Ok.rows.items) so at read in
    let none : length c.as_slice.result.now ≡ 0 = grind (arith, common_steps) in
    let all = length-map c.in-Ok.rows.items fields_of in
    absurd (omega (arith, below, none, all, ap length c.as_slice.ensures.value))

pub returns-in_default-get : goal.returns-in_default-get
returns-in_default-get c = λ settings tables text so counted.
    let read : AreRowsOfFile c.args.format (file_of c.args.sources.now c.in-Some.sheet).bytes.now
    (map fields_of c.in-Ok.rows.items) =
    subst (λ (file : Source). AreRowsOfFile c.args.format file.bytes.now
    (map fields_of c.in-Ok.rows.items)) c.file_of-file.ensures c.in-Ok.ensures.rows in
    let at = subst (λ counts. IsLineOfRow counts c.in-Some.sheet c.in-Some.row c.args.fault.line) counted
    c.in-Some.ensures.found in
    let below = row_read_again settings c.args.format c.args.sources.now tables text c.in-Some.sheet
    c.in-Some.row c.args.fault.line (map fields_of c.in-Ok.rows.items) so at read in
    let split : c.in-Ok.rows.items ≡ c.in-Some-split_first.headings.now ∷ c.in-Some-split_first.rows.now =
    sym c.as_slice.ensures.value ∙ c.in-Some-split_first.ensures.cases.0 in
    let past : length c.in-Some-split_first.rows.now ≤ c.in-Some.row = grind (arith, common_steps) in
    absurd (omega (arith, below, past, length-map c.in-Ok.rows.items fields_of, ap length split))
