-- Names that join a library: which lines of a catalogue file these are, and what the catalogue says with them.
use Rattle.std.specs.Prelude.{◌≡◌, ◌≢◌, ℕ, ◌-◌, ◌<◌, Bool, false, List, [], ◌∷◌, ◌++◌, codes, drop, filter, fold, length}
use Rattle.std.specs.Prelude.{is_none, if◌then◌else◌, slice_index}
use Rattle.std.specs.Str.{bytes_eq}
use Rattle.hd_rules.specs.Growth.{arrivals}
use Rattle.hd_catalogue.specs.Contents.{Contents, OpeningRows, facts_of, told_by}
use Rattle.hd_catalogue.specs.Files.{IsAccepted}
use Rattle.hd_catalogue.specs.Lines.{with_line}
use Rattle.hd_catalogue.specs.Longer.{Extends}
use Rattle.hd_catalogue.specs.Names.{number_of}
use Rattle.hd_catalogue.specs.Text.{values_of}

-- whether the catalogue has no such name of the kind with a letter
abbrev pub lacks_name : Contents → List ℕ → List ℕ → Bool
lacks_name k kind name =
    if bytes_eq kind (codes "B") then is_none (number_of k.branches name)
    else if bytes_eq kind (codes "S") then is_none (number_of k.terminals name)
    else if bytes_eq kind (codes "P") then is_none (number_of k.patrons name)
    else if bytes_eq kind (codes "T") then is_none (number_of k.titles name)
    else if bytes_eq kind (codes "C") then is_none (number_of k.copies name)
    else false

-- the first value of a line is the letter of its kind, and the second the name that it defines
abbrev pub lacks_values : Contents → List (List ℕ) → Bool
lacks_values k [] = false
lacks_values k (kind ∷ []) = false
lacks_values k (kind ∷ name ∷ more) = lacks_name k kind name

-- whether a line defines a name that the catalogue lacks
unfoldable pub lacks : Contents → List ℕ → Bool
lacks k line = lacks_values k (values_of line)

-- the lines behind a file's first whose names the catalogue lacks, in the file's order
abbrev pub joining_lines : Contents → List (List ℕ) → List (List ℕ)
joining_lines k all = filter (lacks k) (drop 1 all)

-- lines, each with its end
abbrev pub text_of : List (List ℕ) → List ℕ
text_of [] = []
text_of (line ∷ lines) = line ++ 10 ∷ text_of lines

-- the last byte of a text
abbrev pub last_byte : List ℕ → ℕ
last_byte text = slice_index text (length text - 1)

-- the last line of a text has its end
abbrev pub IsEnded : List ℕ → Type 0
IsEnded text = (0 < length text) × (last_byte text ≡ 10)

-- The text isn't empty, and doesn't end with a carriage return: what is put behind its last line, and an end of that
-- where it has none, changes none of its lines.
abbrev pub IsWhole : List ℕ → Type 0
IsWhole text = (0 < length text) × (last_byte text ≢ 13)

-- What a catalogue says with these lines behind its own: more names, and in its opening, behind the rows that
-- were there, each copy that joined is on its way to its home.
abbrev pub grown_from : Contents → Contents → Contents
grown_from k j = record j {
  opening = told_by
      (k.opening.rows ++ arrivals (facts_of j).home (length k.copies) (length j.copies - length k.copies))
      k.opening.last;
}

abbrev pub grown_by : Contents → List (List ℕ) → Contents
grown_by k lines = grown_from k (fold with_line k lines)

-- Lines that joined.
pub record WhatJoinedExtends : Type 0 where
  -- a catalogue with them extends the one without
  pub extends : (k : Contents) (lines : List (List ℕ)) → Extends k (grown_by k lines)
  -- it is what a file says that has them behind its lines
  pub read : (all lines : List (List ℕ)) (k j : Contents) (opening : OpeningRows) → IsAccepted all k
      → IsAccepted (all ++ lines) j → let before = record k { opening = opening } in
      grown_from before j ≡ grown_by before lines
