-- Lines of an old catalogue that are kept.
use Rattle.std.specs.Prelude.{ℕ, Bool, false, List, [], ◌∷◌, Option, None, Some, filter}
use Rattle.std.specs.Option.{option_map_or}
use Rattle.hd_catalogue.specs.Contents.{Contents}
use Rattle.hd_catalogue.specs.Text.{values_of}
use Rattle.hd_carry.specs.WriteOffs.{is_noted}
use Rattle.hd_joining.specs.Joining.{joining_lines}
use Rattle.hd_merge.specs.declared.kind.NameKind.{NameKind}
use Rattle.hd_merge.specs.declared.kind.NameKind.TheVariants.{Branch, Patron, Title, Copy}
use Rattle.hd_merge.specs.Kinds.{kind_of, number_named}
use Rattle.hd_merge.specs.Notes.{Notes}

-- the notes of a kind
abbrev pub notes_of : Notes → NameKind → List Bool
notes_of notes Branch = notes.branches
notes_of notes Patron = notes.patrons
notes_of notes Title = notes.titles
notes_of notes Copy = notes.copies

module _ (k : Contents) (notes : Notes) where
  -- whether a catalogue's name of a kind is noted
  abbrev pub is_name_noted : NameKind → List ℕ → Bool
  is_name_noted kind name = option_map_or (is_noted (notes_of notes kind)) (number_named k kind name) false

  abbrev pub is_kind_noted : Option NameKind → List ℕ → Bool
  is_kind_noted None name = false
  is_kind_noted (Some kind) name = is_name_noted kind name

  abbrev pub are_values_noted : List (List ℕ) → Bool
  are_values_noted [] = false
  are_values_noted (letter ∷ []) = false
  are_values_noted (letter ∷ name ∷ more) = is_kind_noted (kind_of letter) name

  -- whether the name that a line defines is noted
  unfoldable pub is_line_noted : List ℕ → Bool
  is_line_noted line = are_values_noted (values_of line)

-- The lines of an old file that a new catalogue keeps: those whose names it lacks and that are noted.
abbrev pub kept : (old new : Contents) → Notes → List (List ℕ) → List (List ℕ)
kept old new notes lines = filter (is_line_noted old notes) (joining_lines new lines)
