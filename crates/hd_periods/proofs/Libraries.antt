-- Which library a folder has, where all of its files but those of one period are those of another folder.
use Rattle.std.proofs.Common.{ap, arith, ◌≡◌, ◌≢◌, ◌⊎◌, inl, inr, ℕ, ◌<◌, ◌≤◌, List, Bool, false, Option}
use Rattle.std.proofs.Common.{Some, None, refl, subst, sym, ◌∙◌}
use Rattle.std.proofs.lemmas.Bool.{cases_eq}
use Rattle.hd_periods.specs.declared.name.FileKind.{FileKind}
use Rattle.hd_periods.specs.declared.name.FileKind.TheVariants.{Catalogue, Opening, Journal, Joined}
use Rattle.hd_periods.specs.declared.name.PeriodFile.{PeriodFile}
use Rattle.hd_periods.specs.declared.name.FileName.{FileName}
use Rattle.hd_periods.specs.Names.{file, part, whole}
use Rattle.hd_periods.specs.Folders.{Content, Whole, Folder, IsThere}
use Rattle.hd_periods.specs.Periods.{HasFile, IsBrokenOff, IsComplete, IsLastComplete, IsLibrary, IsUpTo}
use Rattle.hd_periods.specs.Laws.{KeepsOthers, IsWritten, IsWhole}
use Rattle.hd_periods.proofs.Carrying.{IsOld, IsNew}
use Rattle.hd_periods.proofs.Puts.{some_is_there}

-- a name that ends in no `.part` is the one that its file has when it is whole
own_whole : (name : FileName) → name.is_part ≡ false → whole name.file.number name.file.kind ≡ name
own_whole name is_whole = ap (λ b. record { file = name.file; is_part = b }) (sym is_whole)

module _ (next : ℕ) (start folder : Folder) (keeps : KeepsOthers next start folder) where
  has_before : (number : ℕ) (kind : FileKind) → number ≢ next → HasFile (IsThere folder) number kind
      → HasFile (IsThere start) number kind
  has_before number kind other has = λ e. has (keeps (whole number kind) other ∙ e)

  has_after : (number : ℕ) (kind : FileKind) → number ≢ next → HasFile (IsThere start) number kind
      → HasFile (IsThere folder) number kind
  has_after number kind other has = λ e. has (sym (keeps (whole number kind) other) ∙ e)

  complete_before : (number : ℕ) → number ≢ next → IsComplete (IsThere folder) number
      → IsComplete (IsThere start) number
  complete_before number other all = (
    has_before number Catalogue other all.0,
    has_before number Journal other all.1,
    elim all.2 [
      | inl one ↦ inl one
      | inr opening ↦ inr (has_before number Opening other opening)
    ],
  )

  complete_after : (number : ℕ) → number ≢ next → IsComplete (IsThere start) number
      → IsComplete (IsThere folder) number
  complete_after number other all = (
    has_after number Catalogue other all.0,
    has_after number Journal other all.1,
    elim all.2 [
      | inl one ↦ inl one
      | inr opening ↦ inr (has_after number Opening other opening)
    ],
  )

  broken_after : (number : ℕ) → number ≢ next → IsBrokenOff (IsThere start) number
      → IsBrokenOff (IsThere folder) number
  broken_after number other broken =
      elim broken [
        | inl first ↦ inl (first.0, has_after number Catalogue other first.1)
        | inr later ↦
            inr (
              later.0,
              (λ has. later.1 (has_before number Opening other has)),
              λ e. later.2 (sym (keeps (part number Opening) other) ∙ e),
            )
      ]

  -- without its opening the period isn't complete
  not_complete : 1 < next → folder (whole next Opening) ≡ None → ¬ IsComplete (IsThere folder) next
  not_complete later none all =
      elim all.2 [
        | inl one ↦ absurd (omega (arith, later, one))
        | inr opening ↦ opening none
      ]

  last_old : (last : Option ℕ) → 1 < next → ¬ IsUpTo last next → folder (whole next Opening) ≡ None
      → IsLastComplete (IsThere start) last → IsLastComplete (IsThere folder) last
  last_old None later above none is = λ number all.
      elim (cases_eq number next) [
        | inl e ↦ not_complete later none (subst (λ n. IsComplete (IsThere folder) n) e all)
        | inr other ↦ is number (complete_before number other all)
      ]
  last_old (Some last) later above none is = (
    complete_after last (λ e. above (omega (arith, e))) is.0,
    λ number all.
        elim (cases_eq number next) [
          | inl e ↦ absurd (not_complete later none (subst (λ n. IsComplete (IsThere folder) n) e all))
          | inr other ↦ is.1 number (complete_before number other all)
        ],
  )

  up_to_next : (last : Option ℕ) (number : ℕ) → ¬ IsUpTo last next → IsUpTo last number → number ≤ next
  up_to_next None number above is = absurd is
  up_to_next (Some last) number above is = omega (arith, above, is)

  above_last : (last : Option ℕ) (number : ℕ) → ¬ IsUpTo last next → ¬ (number ≤ next) → ¬ IsUpTo last number
  above_last None number above more = λ h. h
  above_last (Some last) number above more = λ h. more (omega (arith, above, h))

  complete_up_to : (last : Option ℕ) (number : ℕ) → IsLastComplete (IsThere start) last
      → IsComplete (IsThere start) number → IsUpTo last number
  complete_up_to None number is all = is number all
  complete_up_to (Some last) number is all = is.1 number all

  broken_next : (kind : FileKind) → kind ≢ Joined → 1 < next → IsOld start next folder
      → HasFile (IsThere folder) next kind → IsBrokenOff (IsThere folder) next
  broken_next Catalogue joined later old has =
      elim old.broken [
        | inl none ↦ absurd (has none.0)
        | inr beside ↦ inr ((λ e. absurd (omega (arith, later, e))), (λ h. h old.opening), beside)
      ]
  broken_next Opening joined later old has = absurd (has old.opening)
  broken_next Journal joined later old has =
      elim old.broken [
        | inl none ↦ absurd (has none.1)
        | inr beside ↦ inr ((λ e. absurd (omega (arith, later, e))), (λ h. h old.opening), beside)
      ]
  broken_next Joined joined later old has = absurd (joined refl)

  pub old_library : (last : Option ℕ) → 1 < next → ¬ IsUpTo last next → IsLibrary (IsThere start) last
      → IsOld start next folder → IsLibrary (IsThere folder) last
  old_library last later above library old = record {
    is_last = last_old last later above old.opening library.is_last;
    later = λ name there is_whole joined above_it.
        elim (cases_eq name.file.number next) [
          | inl e ↦
              subst (λ n. IsBrokenOff (IsThere folder) n) (sym e)
              (broken_next name.file.kind joined later old
              (subst (λ n. HasFile (IsThere folder) n name.file.kind) e
              (subst (IsThere folder) (sym (own_whole name is_whole)) there)))
          | inr other ↦
              broken_after name.file.number other
              (library.later name (λ e. there (keeps name other ∙ e)) is_whole joined above_it)
        ];
  }

  -- a file that is written is there
  written_there : (bytes : PeriodFile → List ℕ) (kind : FileKind) → IsWritten bytes folder next kind
      → HasFile (IsThere folder) next kind
  written_there bytes kind written =
      λ e. some_is_there (Whole (bytes (file next kind))) (sym written ∙ e)

  pub new_library : (bytes : PeriodFile → List ℕ) (last : Option ℕ) → ¬ IsUpTo last next
      → IsLibrary (IsThere start) last
      → IsWhole bytes folder next → IsLibrary (IsThere folder) (Some next)
  new_library bytes last above library files = record {
    is_last = (
      (
        written_there bytes Catalogue files.catalogue,
        written_there bytes Journal files.journal,
        inr (written_there bytes Opening files.opening),
      ),
      λ number all.
          elim (cases_eq number next) [
            | inl e ↦ omega (arith, e)
            | inr other ↦
                up_to_next last number above
                (complete_up_to last number library.is_last (complete_before number other all))
          ],
    );
    later = λ name there is_whole joined more.
        let other : name.file.number ≢ next = λ e. more (omega (arith, e)) in
        broken_after name.file.number other
        (library.later name (λ e. there (keeps name other ∙ e)) is_whole joined
        (above_last last name.file.number above more));
  }

none_or_some : (content : Option Content) → (content ≡ None) ⊎ (content ≢ None)
none_or_some None = inl refl
none_or_some (Some content) = inr (some_is_there content)

module _ (start : Folder) (last : Option ℕ) (next : ℕ) (later : 1 < next) (above : ¬ IsUpTo last next)
    (library : IsLibrary (IsThere start) last) where
  -- a file of the next period is there only where it was broken off
  broken_of : (kind : FileKind) → kind ≢ Joined → HasFile (IsThere start) next kind
      → ¬ HasFile (IsThere start) next Opening × (start (part next Opening) ≢ None)
  broken_of kind joined has =
      elim (library.later (whole next kind) has refl joined above) [
        | inl first ↦ absurd (omega (arith, later, first.0))
        | inr broken ↦ (broken.1, broken.2)
      ]

  no_opening : start (whole next Opening) ≡ None
  no_opening =
      elim (none_or_some (start (whole next Opening))) [
        | inl none ↦ none
        | inr has ↦ absurd ((broken_of Opening (λ e. cc) has).0 has)
      ]

  -- at the start the period has no opening, and may have been broken off
  pub begins_old : IsOld start next start
  begins_old = record {
    others = λ name other. refl;
    opening = no_opening;
    broken =
        elim (none_or_some (start (whole next Catalogue))) [
          | inl catalogue ↦
              elim (none_or_some (start (whole next Journal))) [
                | inl journal ↦ inl (catalogue, journal)
                | inr has ↦ inr (broken_of Journal (λ e. cc) has).1
              ]
          | inr has ↦ inr (broken_of Catalogue (λ e. cc) has).1
        ];
  }
