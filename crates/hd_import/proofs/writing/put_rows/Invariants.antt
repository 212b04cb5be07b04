use Rattle.std.proofs.Common.{◌≡◌, ◌++◌, map, string_bytes, take, true, All}
use Rattle.csv.specs.Records.{fields_of}
use Rattle.hd_import.specs.Texts.{is_fit_row, text_of_rows}
use Rattle.hd_import.proofs.writing.put_rows.Given as goal

-- the lines of the rows so far stand behind what was there, and the catalogue takes each of their values
abbrev pub invariant-loop-index : goal.invariant-loop-index
invariant-loop-index l = record {
  text : string_bytes l.out ≡ string_bytes l.fn.out
      ++ text_of_rows l.settings l.sheet (fields_of l.headings) (map fields_of (take l.index l.rows));
  fit : All (λ row. is_fit_row l.settings l.sheet (fields_of l.headings) (fields_of row) ≡ true)
      (take l.index l.rows);
}
