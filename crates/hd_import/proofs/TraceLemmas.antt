-- From a line of a catalogue file back to a row of a sheet.
use Rattle.std.proofs.Common.{◌≡◌, ℕ, ◌+◌, ◌<◌, ◌≤◌, List, [], ◌∷◌, Some, None, refl, sym, ap, ◌∙◌}
use Rattle.std.proofs.Common.{subst, arith, get_or, length, suc, zero, take}
use Rattle.std.specs.Prelude.{min, sum}
use Rattle.std.specs.List.{HoldsAt}
use Rattle.std.proofs.lemmas.List.{get_or-map, length-map, take-take}
use Rattle.std.proofs.lemmas.List.Sums.{sum_by-take-le, sum_by_more}
use Rattle.csv.specs.Machine.{Read, next_record}
use Rattle.csv.specs.Reading.{Reached}
use Rattle.csv.specs.declared.parser.Config.{Config}
use Rattle.csv.specs.declared.parser.State.{State}
use Rattle.hd_import.specs.Columns.{all_sheets}
use Rattle.hd_import.specs.Faults.{IsLineOfNoRow, IsLineOfRow}
use Rattle.hd_import.specs.Rows.{AreRowsOfFile, Row, rows_of}
use Rattle.hd_import.specs.Texts.{IsTableOf, IsTextOf, Table, counts_of, file_of}
use Rattle.hd_import.specs.declared.column.Sheet.{Sheet}
use Rattle.hd_import.specs.declared.column.Sheet.TheVariants as sheet
use Rattle.hd_import.specs.declared.format.Format.{Format}
use Rattle.hd_import.specs.declared.settings.Settings.{Settings}
use Rattle.hd_import.specs.declared.sources.Sources.{Sources}

some-none : {A : Type 0} {x : A} → Some x ≡ None → ⊥
some-none e = cc e

-- a text has no records but its own
same_records : (rules : Config) (at : State) (text : List ℕ) (some others : List Row) (end past : State)
    (rest left : List ℕ) → Reached rules at text some end rest → next_record rules end [] [] rest ≡ None
    → Reached rules at text others past left → next_record rules past [] [] left ≡ None → some ≡ others
unfolding Reached
same_records rules at text [] [] end past rest left a over b none = refl
same_records rules at text [] (o ∷ others) end past rest left a over b none =
    let ended : next_record rules at [] [] text ≡ None = rw (a.0, a.1) over in
    absurd (some-none (sym b.1 ∙ ended))
same_records rules at text (r ∷ some) [] end past rest left a over b none =
    let ended : next_record rules at [] [] text ≡ None = rw (b.0, b.1) none in
    absurd (some-none (sym a.1 ∙ ended))
same_records rules at text (r ∷ some) (o ∷ others) end past rest left a over b none =
    let found = a.1 in
    let again = b.1 in
    let same : b.0 ≡ a.0 = cc (found, again) in
    let on : Reached rules a.0.1 a.0.2 others past left =
    subst (λ (p : Read). Reached rules p.1 p.2 others past left) same b.3 in
    let more : some ≡ others =
    same_records rules a.0.1 a.0.2 some others end past rest left a.3 over on none in
    let this : r ≡ o = a.2 ∙ ap (λ (p : Read). p.0) (sym same) ∙ sym b.2 in
    cc (more, this)

-- nor a file other rows
pub same_rows : (format : Format) (bytes : List ℕ) (some others : List Row) → AreRowsOfFile format bytes some
    → AreRowsOfFile format bytes others → some ≡ others
same_rows format bytes some others a b =
    a.2 ∙ ap rows_of (same_records _ _ _ a.0 b.0 a.1.0 b.1.0 a.1.1 b.1.1 a.1.2 a.1.3 b.1.2 b.1.3) ∙ sym b.2

-- a sheet stands in one of five places
one_of_five : (which : Sheet) (index : ℕ) → HoldsAt (λ s. s ≡ which) all_sheets index → index < 5
one_of_five which zero at = omega arith
one_of_five which (suc zero) at = omega arith
one_of_five which (suc (suc zero)) at = omega arith
one_of_five which (suc (suc (suc zero))) at = omega arith
one_of_five which (suc (suc (suc (suc zero)))) at = omega arith
one_of_five which (suc (suc (suc (suc (suc n))))) at =
    let one : sheet.Branches ≡ which = at sheet.Branches in
    let other : sheet.Terminals ≡ which = at sheet.Terminals in
    let both : sheet.Branches ≡ sheet.Terminals = one ∙ sym other in
    absurd (cc both)

-- what comes behind an element of a list comes behind the elements before it, and it
sum_to : (counts : List ℕ) (index n : ℕ) → index < n → index < length counts
    → sum (take index counts) + get_or counts index 0 ≤ sum (take n counts)
sum_to counts index n before within =
    let more = sum_by_more (λ (x : ℕ). x) counts index 0 within in
    let least = sum_by-take-le (λ (x : ℕ). x) (take n counts) (index + 1) in
    let same : take (index + 1) (take n counts) ≡ take (index + 1) counts =
    take-take (index + 1) n counts (omega (arith, before)) in
    omega (arith, more, least, ap sum same)

-- the lines behind the rows of all sheets are of no row
pub no_row_after : (counts : List ℕ) (line n left : ℕ) → min (length counts) 5 ≤ n
    → line ≡ 2 + sum (take n counts) + left → IsLineOfNoRow counts line
no_row_after counts line n left past is = λ which row at.
    let five = one_of_five which at.0 at.2 in
    let within = at.1 in
    let before : at.0 < n = omega (arith, five, within, past) in
    let above = sum_to counts at.0 n before within in
    let row_within = at.3 in
    let line_is = at.4 in
    omega (arith, above, row_within, line_is, is)

-- the row whose line this is stands in its sheet's file
pub row_of_file : (settings : Settings) (format : Format) (sources : Sources) (tables : List Table)
    (text : List ℕ) (which : Sheet) (row line : ℕ) → IsTextOf settings format sources tables text
    → IsLineOfRow (counts_of tables) which row line
    → (headings : Row) × (rows : List Row)
    × AreRowsOfFile format (file_of sources which).bytes.now (headings ∷ rows) × (row < length rows)
row_of_file settings format sources tables text which row line so at =
    let index = at.0 in
    let d : Table = record { sheet = which; headings = []; rows = [] } in
    let table = get_or tables index d in
    let within : index < length tables =
    omega (arith, at.1, length-map tables (λ (t : Table). length t.rows)) in
    let is : IsTableOf settings format sources table = so.each index d within in
    let its : table.sheet ≡ which =
    sym (get_or-map (λ (t : Table). t.sheet) tables index d which within)
    ∙ ap (λ sheets. get_or sheets index which) so.sheets ∙ at.2 which in
    let many : get_or (counts_of tables) index 0 ≡ length table.rows =
    get_or-map (λ (t : Table). length t.rows) tables index d 0 within in
    let below = at.3 in (
      table.headings,
      table.rows,
      subst (λ s. AreRowsOfFile format (file_of sources s).bytes.now (table.headings ∷ table.rows)) its
          is.rows,
      omega (arith, below, many),
    )

-- so that whoever reads the file again finds rows there
pub row_read_again : (settings : Settings) (format : Format) (sources : Sources) (tables : List Table)
    (text : List ℕ) (which : Sheet) (row line : ℕ) (read : List Row)
    → IsTextOf settings format sources tables text → IsLineOfRow (counts_of tables) which row line
    → AreRowsOfFile format (file_of sources which).bytes.now read → row + 1 < length read
row_read_again settings format sources tables text which row line read so at rows =
    let is = row_of_file settings format sources tables text which row line so at in
    let same = same_rows format (file_of sources which).bytes.now read (is.0 ∷ is.1) rows is.2 in
    let below = is.3 in
    omega (arith, below, ap length same)
