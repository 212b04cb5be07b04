use Rattle.std.proofs.Common.{◌≡◌, Bool, drop}
use Rattle.csv.specs.declared.parser.State.{State}
use Rattle.hd_import.specs.Quotes.{IsReading, is_left_open, is_open_text}
use Rattle.hd_import.specs.Rows.{rules_with}
use Rattle.hd_import.proofs.quotes.open_quote.Given as goal

-- the text has a quote that isn't closed just where it has one from here on
abbrev pub invariant-loop-place : goal.invariant-loop-place
invariant-loop-place l = record {
  at : State;
  over : Bool;
  reads : IsReading l.reading at over;
  rest : is_open_text l.separator l.text
      ≡ is_left_open (rules_with l.separator) at over (drop l.place l.text);
}
