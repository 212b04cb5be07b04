-- How a row is written: the letter of its kind, and its values.
use Rattle.std.specs.Prelude.{◌≡◌, ℕ, ◌<◌, true, List, [], ◌∷◌, ◌++◌, codes, decimal, Option, None, Some}
use Rattle.std.specs.List.{flat_map}
use Rattle.hd_catalogue.specs.Contents.{Contents, branch_number, copy_number, patron_number, title_number}
use Rattle.hd_catalogue.specs.Text.{is_name}
use Rattle.hd_rules.specs.Facts.{Facts}
use Rattle.hd_rules.specs.declared.rows.OpeningRow.{OpeningRow}
use Rattle.hd_rules.specs.declared.holds.HoldKind.{HoldKind}
use Rattle.hd_rules.specs.declared.holds.HoldKind.TheVariants.{Any, One, AtBranch}
use Rattle.hd_rules.specs.declared.rows.OpeningRow.TheVariants as row
use Rattle.hd_opening.specs.Days.{IsDayText}
use Rattle.hd_opening.specs.declared.piece.Piece.{Piece}
use Rattle.hd_opening.specs.declared.piece.Piece.TheVariants as piece
use Rattle.hd_opening.specs.declared.piece.Admits.{Admits}
use Rattle.hd_opening.specs.declared.piece.Admits.TheVariants as admits

-- the word for what a hold admits
abbrev pub admits_text : Admits → List ℕ
admits_text admits.Any = codes "any"
admits_text admits.Branch = codes "branch"
admits_text admits.Copy = codes "copy"

-- the text is a name, and this is what it is the name of
abbrev pub IsNameOf : Option ℕ → ℕ → List ℕ → Type 0
IsNameOf found number text = (is_name text ≡ true) × (found ≡ Some number)

-- the text is that of a value
abbrev pub IsPieceText : Contents → Piece → List ℕ → Type 0
IsPieceText k (piece.Copy c) text = IsNameOf (copy_number k text) c text
IsPieceText k (piece.Patron p) text = IsNameOf (patron_number k text) p text
IsPieceText k (piece.Title t) text = IsNameOf (title_number k text) t text
IsPieceText k (piece.Branch b) text = IsNameOf (branch_number k text) b text
IsPieceText k (piece.Number n) text = text ≡ decimal n
IsPieceText k (piece.Day day) text = IsDayText day text
IsPieceText k (piece.Admits which) text = text ≡ admits_text which
IsPieceText k piece.Nothing text = text ≡ []

-- the texts are those of these values, one after another
abbrev pub ArePieceTexts : Contents → List Piece → List (List ℕ) → Type 0
ArePieceTexts k [] texts = texts ≡ []
ArePieceTexts k (piece ∷ pieces) texts =
    (text : List ℕ) × (more : List (List ℕ)) × IsPieceText k piece text × ArePieceTexts k pieces more
    × (texts ≡ text ∷ more)

-- what a hold admits, and the copy, where it admits one alone
abbrev pub admits_piece : HoldKind → Piece
admits_piece Any = piece.Admits admits.Any
admits_piece AtBranch = piece.Admits admits.Branch
admits_piece (One copy) = piece.Admits admits.Copy

abbrev pub copy_piece : HoldKind → Piece
copy_piece Any = piece.Nothing
copy_piece AtBranch = piece.Nothing
copy_piece (One copy) = piece.Copy copy

-- a day, or nothing
abbrev pub day_piece : Option ℕ → Piece
day_piece None = piece.Nothing
day_piece (Some day) = piece.Day day

-- The letter of each kind of row, and its values.
abbrev pub row_letter : OpeningRow → List ℕ
row_letter (row.Loan c l) = codes "L"
row_letter (row.OpenShelf c b) = codes "O"
row_letter (row.Hold t h) = codes "R"
row_letter (row.HoldShelf c p place) = codes "K"
row_letter (row.HoldTransit c p from) = codes "W"
row_letter (row.Transit c from to) = codes "U"

abbrev pub row_pieces : OpeningRow → List Piece
row_pieces (row.Loan c l) =
    piece.Copy c ∷ piece.Patron l.patron ∷ piece.Day l.due ∷ piece.Number l.renewals ∷ []
row_pieces (row.OpenShelf c b) = piece.Copy c ∷ piece.Branch b ∷ []
row_pieces (row.Hold t h) =
    piece.Title t ∷ piece.Patron h.patron ∷ piece.Number h.stamp ∷ admits_piece h.kind ∷ copy_piece h.kind
    ∷ piece.Branch h.pickup ∷ day_piece h.expiry ∷ []
row_pieces (row.HoldShelf c p place) = piece.Copy c ∷ piece.Patron p ∷ piece.Number place ∷ []
row_pieces (row.HoldTransit c p from) = piece.Copy c ∷ piece.Patron p ∷ piece.Branch from ∷ []
row_pieces (row.Transit c from to) = piece.Copy c ∷ piece.Branch from ∷ piece.Branch to ∷ []

-- values behind bars
abbrev pub behind_bars : List (List ℕ) → List ℕ
behind_bars texts = flat_map (λ text. 124 ∷ text) texts

-- The line says this row: the letter of its kind, and each of its values behind a bar.
abbrev pub IsLine : Contents → OpeningRow → List ℕ → Type 0
IsLine k row line =
    (texts : List (List ℕ)) × ArePieceTexts k (row_pieces row) texts
    × (line ≡ row_letter row ++ behind_bars texts)

-- the new text is the old one with a line of this row behind it
abbrev pub IsWithLine : Contents → OpeningRow → List ℕ → List ℕ → Type 0
IsWithLine k row old new = (line : List ℕ) × IsLine k row line × (new ≡ (old ++ line) ++ 10 ∷ [])

-- The text is a line for each of these rows, in order.
abbrev pub AreLines : Contents → List OpeningRow → List ℕ → Type 0
AreLines k [] text = text ≡ []
AreLines k (row ∷ rows) text =
    (line : List ℕ) × (more : List ℕ) × IsLine k row line × AreLines k rows more × (text ≡ line ++ 10 ∷ more)

-- the value names something of the catalogue
abbrev pub IsKnownPiece : Facts → Piece → Type 0
IsKnownPiece k (piece.Copy c) = c < k.copies
IsKnownPiece k (piece.Patron p) = p < k.patrons
IsKnownPiece k (piece.Title t) = t < k.titles
IsKnownPiece k (piece.Branch b) = b < k.branches
IsKnownPiece k _ = Unit {0}
