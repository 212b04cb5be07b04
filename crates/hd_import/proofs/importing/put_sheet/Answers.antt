use Rattle.std.proofs.Common.{◌≡◌, ◌∷◌, [], ◌∙◌, sym, refl, ap, map, List, subst, true, length, arith}
use Rattle.std.proofs.lemmas.Grind.{common_steps}
use Rattle.std.proofs.lemmas.List.{length-map, nil_from_length}
use Rattle.std.proofs.lemmas.List.Elements.{All-map}
use Rattle.csv.specs.Records.{fields_of}
use Rattle.hd_import.specs.Rows.{AreRowsOfFile, Row}
use Rattle.hd_import.specs.Texts.{is_fit_row}
use Rattle.hd_import.proofs.FaultLemmas.{first_missing}
use Rattle.hd_import.proofs.importing.put_sheet.Goals as goal

pub returns-in-Ok-put_rows-clause-lines : goal.returns-in-Ok-put_rows-clause-lines
returns-in-Ok-put_rows-clause-lines c =
    let headings = fields_of c.in-Some.headings.now in
    let rest = c.in-Some.rows.now in
    let split : c.in-Ok.rows.items ≡ c.in-Some.headings.now ∷ rest =
    sym c.as_slice.ensures.value ∙ c.in-Some.ensures.cases.0 in (
      record { sheet = c.args.sheet; headings = headings; rows = map fields_of rest },
      refl,
      record {
        encoded = c.in-Ok.ensures.encoded;
        closed = c.in-Ok.ensures.closed;
        rows = subst (λ (rows : List Row). AreRowsOfFile c.args.format c.args.file.bytes.now rows)
            (ap (map fields_of) split) c.in-Ok.ensures.rows;
        headed = c.in_default-check_headings.ensures.headed;
        fit =
            All-map (λ (row : Row). is_fit_row c.args.settings.now c.args.sheet headings row ≡ true)
            fields_of rest c.in-Ok-put_rows.ensures.fit;
      },
      c.in-Ok-put_rows.ensures.text,
      sym (length-map rest fields_of),
    )

pub returns-in-Err-clause-refused : goal.returns-in-Err-clause-refused
returns-in-Err-clause-refused c =
    c.fault_of_file.ensures c.args.settings.now c.args.sheet c.in-Err.ensures.refused

pub returns-in_default-clause-refused : goal.returns-in_default-clause-refused
returns-in_default-clause-refused c =
    let none : length c.as_slice.result.now ≡ 0 = grind (arith, common_steps) in
    let empty : c.in-Ok.rows.items ≡ [] =
    sym c.as_slice.ensures.value ∙ nil_from_length c.as_slice.result.now none in (
      refl,
      (c.in-Ok.ensures.encoded, c.in-Ok.ensures.closed),
      [],
      subst (λ (rows : List Row). AreRowsOfFile c.args.format c.args.file.bytes.now rows)
          (ap (map fields_of) empty) c.in-Ok.ensures.rows,
      first_missing c.args.settings.now c.args.sheet c.first_column.result c.first_column.ensures,
    )

pub returns-in-Err-check_headings-clause-refused : goal.returns-in-Err-check_headings-clause-refused
returns-in-Err-check_headings-clause-refused c =
    let headings = fields_of c.in-Some.headings.now in
    let rest = c.in-Some.rows.now in
    let split : c.in-Ok.rows.items ≡ c.in-Some.headings.now ∷ rest =
    sym c.as_slice.ensures.value ∙ c.in-Some.ensures.cases.0 in (
      refl,
      (c.in-Ok.ensures.encoded, c.in-Ok.ensures.closed),
      headings ∷ map fields_of rest,
      subst (λ (rows : List Row). AreRowsOfFile c.args.format c.args.file.bytes.now rows)
          (ap (map fields_of) split) c.in-Ok.ensures.rows,
      c.in-Err-check_headings.ensures.refused,
    )

pub returns-clause-refused : goal.returns-clause-refused
returns-clause-refused c =
    let rest = c.in-Some.rows.now in
    let split : c.in-Ok.rows.items ≡ c.in-Some.headings.now ∷ rest =
    sym c.as_slice.ensures.value ∙ c.in-Some.ensures.cases.0 in
    c.fault_of_line.ensures c.args.settings.now c.in-Err-put_rows.ensures.refused
    c.in_default-check_headings.ensures.headed (c.in-Ok.ensures.encoded, c.in-Ok.ensures.closed)
    (subst (λ (rows : List Row). AreRowsOfFile c.args.format c.args.file.bytes.now rows)
    (ap (map fields_of) split) c.in-Ok.ensures.rows)
