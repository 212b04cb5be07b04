use Rattle.std.proofs.Common.{◌≡◌, ◌∷◌, ◌++◌, [], map, string_bytes, take, true}
use Rattle.std.specs.List.{list_all}
use Rattle.csv.specs.Records.{fields_of}
use Rattle.hd_import.specs.Columns.{is_fit, letter_of}
use Rattle.hd_import.specs.Texts.{behind_bars}
use Rattle.hd_import.specs.Values.{value_of}
use Rattle.hd_import.proofs.writing.put_row.Given as goal

-- the values of the columns so far stand behind the letter, and the catalogue takes each
abbrev pub invariant-loop-column : goal.invariant-loop-column
invariant-loop-column l = record {
  text : string_bytes l.out ≡ (string_bytes l.fn.out ++ letter_of l.fn.sheet ∷ [])
      ++ behind_bars (map (value_of l.settings (fields_of l.headings) (fields_of l.row))
      (take l.column-index l.columns));
  fit : list_all
      (λ column. is_fit column (value_of l.settings (fields_of l.headings) (fields_of l.row) column))
      (take l.column-index l.columns) ≡ true;
}
