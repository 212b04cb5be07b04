-- The table of patron messages: for each its code, and the widths of its fixed part. Each must have AA.
use Rattle.std.specs.Prelude.{ℕ, ◌+◌, Bool, true, false, List, [], ◌∷◌, Option, None, Some, codes}
use Rattle.std.specs.Prelude.{if◌then◌else◌, drop, length, nat_lt, slice_range, sum, take}
use Rattle.hd_message.specs.declared.patron_kind.PatronKind.{PatronKind}
use Rattle.hd_message.specs.declared.patron_kind.PatronKind.TheVariants.{Status, Information, EndSession}
use Rattle.hd_message.specs.declared.patron_kind.PatronKind.TheVariants.{Block, FeePaid, RenewAll}

-- the code
abbrev pub patron_code : PatronKind → List ℕ
patron_code Status = codes "23"
patron_code Information = codes "63"
patron_code EndSession = codes "35"
patron_code Block = codes "01"
patron_code FeePaid = codes "37"
patron_code RenewAll = codes "65"

-- the widths of the columns of the fixed part, behind the code
abbrev pub patron_widths : PatronKind → List ℕ
patron_widths Status = 3 ∷ 18 ∷ []
patron_widths Information = 3 ∷ 18 ∷ 10 ∷ []
patron_widths EndSession = 18 ∷ []
patron_widths Block = 1 ∷ 18 ∷ []
patron_widths FeePaid = 18 ∷ 2 ∷ 2 ∷ 3 ∷ []
patron_widths RenewAll = 18 ∷ []

-- which column is the transaction date, counted from 0
abbrev pub patron_date_column : PatronKind → ℕ
patron_date_column Status = 1
patron_date_column Information = 1
patron_date_column EndSession = 0
patron_date_column Block = 1
patron_date_column FeePaid = 0
patron_date_column RenewAll = 0

-- whether the first column is a language
abbrev pub has_language : PatronKind → Bool
has_language Status = true
has_language Information = true
has_language EndSession = false
has_language Block = false
has_language FeePaid = false
has_language RenewAll = false

-- the place at which a column begins; the code stands before the first
abbrev pub patron_start : PatronKind → ℕ → ℕ
patron_start kind column = 2 + sum (take column (patron_widths kind))

-- the bytes of the code and the fixed part
abbrev pub patron_width : PatronKind → ℕ
patron_width kind = 2 + sum (patron_widths kind)

-- the code and the fixed part of a body
abbrev pub patron_fixed : PatronKind → List ℕ → List ℕ
patron_fixed kind body = take (patron_width kind) body

-- the fields behind them
abbrev pub patron_fields : PatronKind → List ℕ → List ℕ
patron_fields kind body = drop (patron_width kind) body

-- the bytes of a column
abbrev pub patron_column : PatronKind → ℕ → List ℕ → List ℕ
patron_column kind column fixed =
    slice_range fixed (patron_start kind column) (patron_start kind (column + 1))

-- the place of the transaction date
abbrev pub patron_date_start : PatronKind → ℕ
patron_date_start kind = patron_start kind (patron_date_column kind)

-- the transaction date
abbrev pub patron_date : PatronKind → List ℕ → List ℕ
patron_date kind fixed = slice_range fixed (patron_date_start kind) (patron_date_start kind + 18)

-- the language of a message that has one, where the body has it whole
abbrev pub language_in : PatronKind → List ℕ → Option (List ℕ)
language_in kind body =
    if has_language kind then (if nat_lt (length body) 5 then None else Some (slice_range body 2 5)) else None
