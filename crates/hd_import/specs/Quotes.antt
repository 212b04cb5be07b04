-- Quotes of a sheet that aren't closed.
use Rattle.std.specs.Prelude.{◌≡◌, ℕ, Bool, true, false, ◌||◌, List, [], ◌∷◌}
use Rattle.csv.specs.Machine.{ends_with, step}
use Rattle.csv.specs.Reading.{strip_bom}
use Rattle.csv.specs.declared.parser.Config.{Config}
use Rattle.csv.specs.declared.parser.State.{State}
use Rattle.csv.specs.declared.parser.State.TheVariants as state
use Rattle.csv.specs.declared.parser.Terminator.TheVariants as terminator
use Rattle.hd_import.specs.Rows.{decoded, rules_with, separator_of}
use Rattle.hd_import.specs.declared.format.Format.{Format}
use Rattle.hd_import.specs.declared.quotes.Reading.{Reading}
use Rattle.hd_import.specs.declared.quotes.Reading.TheVariants as reading

-- whether it is within a value in quotes that a text stands
abbrev pub is_within : State → Bool
is_within state.InQuoted = true
is_within _ = false

-- whether the value in quotes at hand has the end of a line, where this byte has led to this state
abbrev pub has_line_end : Bool → State → ℕ → Bool
has_line_end before state.InQuoted byte = before || ends_with terminator.CRLF byte
has_line_end before state.AfterQuote byte = before
has_line_end before _ byte = false

-- whether a value goes on behind its quotes, though these have the end of a line between them
abbrev pub goes_on : Bool → State → State → Bool
goes_on before state.AfterQuote state.InField = before
goes_on before _ _ = false

-- Whether a quote isn't closed, from a state on: the text ends within a value in quotes; or one that has the
-- end of a line goes on behind its quotes, as where a later value's first quote is taken for its second.
unfoldable pub is_left_open : Config → State → Bool → List ℕ → Bool
is_left_open rules at before [] = is_within at
is_left_open rules at before (byte ∷ text) =
    goes_on before at (step rules at byte).0
    || is_left_open rules (step rules at byte).0 (has_line_end before (step rules at byte).0 byte) text

-- whether a text has a quote that isn't closed, by the rules with this separator
abbrev pub is_open_text : ℕ → List ℕ → Bool
is_open_text separator text = is_left_open (rules_with separator) state.StartRecord false (strip_bom text)

-- whether a sheet's file has a quote that isn't closed
abbrev pub is_open_file : Format → List ℕ → Bool
is_open_file format bytes =
    is_open_text (separator_of format.separator (decoded format.encoding bytes))
    (decoded format.encoding bytes)

-- whether a value begins with the next byte, or the end of a line comes
abbrev pub is_before : State → Bool
is_before state.StartRecord = true
is_before state.StartField = true
is_before state.AfterCr = true
is_before _ = false

-- The reading is at this state of CSV's rules, with the end of a line in the value in quotes at hand, or
-- without.
abbrev pub IsReading : Reading → State → Bool → Type 0
IsReading reading.Before at over = (is_before at ≡ true) × (over ≡ false)
IsReading reading.Plain at over = (at ≡ state.InField) × (over ≡ false)
IsReading (reading.Within has_line_end) at over = (at ≡ state.InQuoted) × (over ≡ has_line_end)
IsReading (reading.Behind has_line_end) at over = (at ≡ state.AfterQuote) × (over ≡ has_line_end)
