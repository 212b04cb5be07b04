use Rattle.std.proofs.Common.{◌≡◌, ◌<◌, ℕ, List, Some, map}
use Rattle.csv.specs.Reading.{Reached, Ready, source_of, strip_bom}
use Rattle.csv.specs.Records.{fields_of}
use Rattle.csv.specs.declared.parser.State.TheVariants as st
use Rattle.csv.specs.declared.reader.Trim.TheVariants as trim
use Rattle.hd_import.specs.Rows.{Row, rows_of, rules_with}
use Rattle.hd_import.proofs.rows.rows_of_text.Given as goal

-- the records so far have been read from the text, and these are the rows of them
abbrev pub invariant-loop-row : goal.invariant-loop-row
invariant-loop-row l = record {
  trims : l.row-iterator.rdr.trim ≡ trim.None;
  ready : Ready l.row-iterator.rdr;
  left : 0 < l.row-iterator.left;
  rules : l.row-iterator.rdr.config ≡ rules_with l.separator;
  records : List Row;
  rest : List ℕ;
  source : source_of (λ s. Some s.now) l.row-iterator.rdr ≡ Some rest;
  reached : Reached (rules_with l.separator) st.StartRecord (strip_bom l.fn.text)
      records l.row-iterator.rdr.state rest;
  rows : map fields_of l.rows.items ≡ rows_of records;
}
