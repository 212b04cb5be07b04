use Rattle.std.proofs.Common.{◌≡◌, ◌∷◌, ◌++◌, [], ◌∙◌, map, sym, ap, string_bytes, take, true}
use Rattle.std.proofs.lemmas.List.{map-append, take_more}
use Rattle.std.proofs.lemmas.List.Elements.{All-push}
use Rattle.csv.specs.Records.{Row as Record, fields_of}
use Rattle.hd_import.specs.Texts.{is_fit_row, text_of_rows}
use Rattle.hd_import.proofs.FirstLemmas.{fault_of_line}
use Rattle.hd_import.proofs.WriteLemmas.{row_more}
use Rattle.hd_import.proofs.writing.put_rows.Goals as goal

pub loop-index-preserved : goal.loop-index-preserved
loop-index-preserved c =
    let settings = c.args.settings.now in
    let sheet = c.args.sheet in
    let headings = fields_of c.args.headings.now in
    let rows = c.args.rows.now in
    let at = c.loop-index.index in
    let row = c.index-rows-index.result in
    let start = string_bytes c.args.out.now in
    let more = take_more rows at row c.loop-index-test.true in
    rw (more, ← c.index-rows-index.is) record {
      text =
          row_more settings sheet headings start (string_bytes c.loop-index.out)
          (string_bytes c.put_row.new.out)
          (map fields_of (take at rows)) (fields_of row) c.loop-index.invariant.text c.in_default.ensures.line
          ∙ ap (λ rs. start ++ text_of_rows settings sheet headings rs)
          (sym (map-append fields_of (take at rows) (row ∷ [])));
      fit =
          All-push (λ (row : Record). is_fit_row settings sheet headings (fields_of row) ≡ true)
          (take at rows) row c.loop-index.invariant.fit
          c.in_default.ensures.fit;
    }

pub returns-in-Err-clause-refused : goal.returns-in-Err-clause-refused
returns-in-Err-clause-refused c =
    fault_of_line c.args.settings.now c.args.sheet (fields_of c.args.headings.now) c.args.rows.now
    c.loop-index.index c.index-rows-index.result c.in-Err.fault c.loop-index-test.true c.index-rows-index.is
    c.loop-index.invariant.fit c.in-Err.ensures.refused
