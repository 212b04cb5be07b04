-- Faults of sheets.
use Rattle.std.proofs.Common.{◌≡◌, ℕ, ◌<◌, List, [], ◌∷◌, ◌++◌, refl, sym, ap, ◌∙◌, subst, get_or, length}
use Rattle.std.proofs.Common.{drop, drop-cons, suc, take}
use Rattle.std.specs.List.{HoldsAt}
use Rattle.std.specs.Prelude.{IfErr, Result, Ok, Err}
use Rattle.std.specs.Result.{IsErrAnd}
use Rattle.std.proofs.lemmas.List.{get_or_default, take-append-drop}
use Rattle.std.proofs.lemmas.List.Elements.{All-nil}
use Rattle.hd_import.specs.Columns.{all_sheets, first_column}
use Rattle.hd_import.specs.Faults.{IsFirstSheetFault, IsMissing, IsSheetFault}
use Rattle.hd_import.specs.Texts.{IsTableOf, file_of}
use Rattle.hd_import.specs.declared.column.Column.{Column}
use Rattle.hd_import.specs.declared.column.Sheet.{Sheet}
use Rattle.hd_import.specs.declared.column.Sheet.TheVariants as sheet
use Rattle.hd_import.specs.declared.fault.Fault.{Fault}
use Rattle.hd_import.specs.declared.fault.Fault.TheVariants as fault
use Rattle.hd_import.specs.declared.format.Format.{Format}
use Rattle.hd_import.specs.declared.settings.Settings.{Settings}
use Rattle.hd_import.specs.declared.sources.Source.{Source}
use Rattle.hd_import.specs.declared.sources.Sources.{Sources}
use Rattle.hd_import.proofs.WriteLemmas.{TablesSoFar}

-- a file without rows lacks its first column
missing_first : (settings : Settings) (which : Sheet) → IsMissing settings which [] (first_column which)
missing_first settings sheet.Branches = refl
missing_first settings sheet.Terminals = refl
missing_first settings sheet.Patrons = refl
missing_first settings sheet.Titles = refl
missing_first settings sheet.Copies = refl

pub first_missing : (settings : Settings) (which : Sheet) (column : Column) → column ≡ first_column which
    → IsMissing settings which [] column
first_missing settings which column is = rw is (missing_first settings which)

-- a sheet by its place
pub sheet_at : (sheets : List Sheet) (at : ℕ) (d : Sheet) → sheets ≡ all_sheets → at < length sheets
    → HoldsAt (λ s. s ≡ get_or sheets at d) all_sheets at
sheet_at sheets at d are l = λ e. ap (λ ss. get_or ss at e) (sym are) ∙ get_or_default sheets at e d l

-- the fault is of the first sheet behind those that were read
pub of_this_sheet : (settings : Settings) (format : Format) (sources : Sources) (sheets : List Sheet)
    (at : ℕ) (d : Sheet) (out counts : List ℕ) (file : Source) (told : Fault) → sheets ≡ all_sheets
    → at < length sheets → TablesSoFar settings format sources sheets at out counts
    → file ≡ file_of sources (get_or sheets at d)
    → IsSheetFault settings format (get_or sheets at d) file told
    → IsFirstSheetFault settings format sources told
of_this_sheet settings format sources sheets at d out counts file told are l so is fault =
    let rest = drop (suc at) sheets in
    record {
      before = so.tables;
      sheet = get_or sheets at d;
      after = rest;
      order =
          sym are ∙ sym (take-append-drop at sheets)
          ∙ ap (λ more. take at sheets ++ more) (drop-cons sheets at d l)
          ∙ ap (λ before. before ++ get_or sheets at d ∷ rest) (sym so.of_sheets);
      earlier = so.each;
      here = subst (λ f. IsSheetFault settings format (get_or sheets at d) f told) is fault;
    }

-- out of memory before any sheet was read
pub memory_first : (settings : Settings) (format : Format) (sources : Sources)
    → IsFirstSheetFault settings format sources fault.Memory
memory_first settings format sources = record {
  before = [];
  sheet = sheet.Branches;
  after = sheet.Terminals ∷ sheet.Patrons ∷ sheet.Titles ∷ sheet.Copies ∷ [];
  order = refl;
  earlier = All-nil (IsTableOf settings format sources);
  here = tt;
}

-- a fault that is handed on
pub handed_on : {A E : Type 0} (r : Result A E) (P : E → Type 0) (x : E) → P x
    → IsErrAnd r (λ e. e ≡ x) → IfErr r P
handed_on (Ok a) P x h e = absurd e
handed_on (Err y) P x h e = subst P (sym e) h
