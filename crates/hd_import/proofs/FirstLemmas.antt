-- The first element that passes a test, and the first column or row with a fault.
use Rattle.std.proofs.Common.{◌≡◌, ℕ, ◌+◌, ◌<◌, Bool, true, false, List, [], ◌∷◌, Some, None, All, refl}
use Rattle.std.proofs.Common.{sym, ap, ◌∙◌, arith, drop, drop-cons, get_or, length, map, subst, suc, take}
use Rattle.std.specs.Prelude.{not}
use Rattle.std.specs.List.{find, list_all}
use Rattle.std.proofs.lemmas.Bool.{and_parts}
use Rattle.std.proofs.lemmas.List.{get_or-map, length-map, take-append-drop, take-map, take_more}
use Rattle.std.proofs.lemmas.List.Elements.{All-map}
use Rattle.std.proofs.lemmas.List.Folds.{find-append}
use Rattle.csv.specs.Records.{Row as Record, fields_of}
use Rattle.hd_import.specs.Columns.{columns_of, is_fit}
use Rattle.hd_import.specs.Faults.{AreFitBefore, IsLineFault, IsRowFault, IsValueFault}
use Rattle.hd_import.specs.Rows.{Row}
use Rattle.hd_import.specs.Texts.{is_fit_row}
use Rattle.hd_import.specs.Values.{is_unfit, value_of}
use Rattle.hd_import.specs.declared.column.Column.{Column}
use Rattle.hd_import.specs.declared.column.Sheet.{Sheet}
use Rattle.hd_import.specs.declared.settings.Settings.{Settings}
use Rattle.hd_import.specs.declared.writing.RowFault.{RowFault}
use Rattle.hd_import.specs.declared.writing.RowFault.TheVariants as row_fault

-- none so far, nor the next one
pub none_yet : {X : Type 0} (test : X → Bool) (xs : List X) (at : ℕ) (d : X) → at < length xs
    → find test (take at xs) ≡ None → test (get_or xs at d) ≡ false → find test (take (at + 1) xs) ≡ None
none_yet test xs at d l none fails =
    let last : find test (get_or xs at d ∷ []) ≡ None = rw fails refl in
    ap (find test) (take_more xs at d l) ∙ find-append test (take at xs) (get_or xs at d ∷ [])
    ∙ rw none last

-- none so far, but the next one
pub first_here : {X : Type 0} (test : X → Bool) (xs : List X) (at : ℕ) (d : X) → at < length xs
    → find test (take at xs) ≡ None → test (get_or xs at d) ≡ true → find test xs ≡ Some (get_or xs at d)
first_here test xs at d l none passes =
    let rest : find test (get_or xs at d ∷ drop (suc at) xs) ≡ Some (get_or xs at d) = rw passes refl in
    ap (find test) (sym (take-append-drop at xs)) ∙ find-append test (take at xs) (drop at xs)
    ∙ rw none (ap (find test) (drop-cons xs at d l) ∙ rest)

-- where all pass a test, none fails it
none_fails : {X : Type 0} (test : X → Bool) (xs : List X) → list_all test xs ≡ true
    → find (λ x. not (test x)) xs ≡ None
none_fails test [] all = refl
none_fails test (x ∷ xs) all =
    let both = and_parts (test x) (list_all test xs) all in
    rw (both.0) (none_fails test xs both.1)

-- the fault of a value is that of its row, where the values before it are fit
pub fault_of_row : (settings : Settings) (sheet : Sheet) (headings row : Row) (columns : List Column) (at : ℕ)
    (d : Column) (told : RowFault) → columns ≡ columns_of sheet → at < length columns
    → list_all (λ column. is_fit column (value_of settings headings row column)) (take at columns) ≡ true
    → IsValueFault settings headings row (get_or columns at d) told
    → IsRowFault settings sheet headings row told
fault_of_row settings sheet headings row columns at d row_fault.Memory are l fit here = tt
fault_of_row settings sheet headings row columns at d (row_fault.Value column) are l fit here =
    let test = is_unfit settings headings row in
    let fits = λ (column : Column). is_fit column (value_of settings headings row column) in
    let none = none_fails fits (take at columns) fit in
    let passes : test (get_or columns at d) ≡ true = ap not here.1 in
    ap (find test) (sym are) ∙ first_here test columns at d l none passes ∙ ap Some (sym here.0)

-- the fault of a line, where the rows before are fit
pub fault_of_line : (settings : Settings) (sheet : Sheet) (headings : Row) (rows : List Record) (at : ℕ)
    (row : Record) (told : RowFault) → at < length rows → row ≡ get_or rows at row
    → All (λ row. is_fit_row settings sheet headings (fields_of row) ≡ true) (take at rows)
    → IsRowFault settings sheet headings (fields_of row) told
    → IsLineFault settings sheet headings (map fields_of rows) (record { row = at; fault = told })
fault_of_line settings sheet headings rows at row told l is fit here =
    let before : AreFitBefore settings sheet headings (map fields_of rows) at =
    subst (λ (rows : List Row). All (λ row. is_fit_row settings sheet headings row ≡ true) rows)
    (sym (take-map fields_of at rows))
    (All-map (λ (row : Row). is_fit_row settings sheet headings row ≡ true) fields_of (take at rows) fit) in
    let this = ap fields_of is ∙ sym (get_or-map fields_of rows at row [] l) in (
      omega (arith, l, length-map rows fields_of),
      before,
      subst (λ (row : Row). IsRowFault settings sheet headings row told) this here,
    )
