-- The table of messages: for each its code, the widths of its fixed part, and the fields that it must have.
use Rattle.std.specs.Prelude.{ℕ, ◌+◌, Bool, List, [], ◌∷◌, Option, None, Some, codes, if◌then◌else◌}
use Rattle.std.specs.Prelude.{drop, length, nat_lt, slice_index, slice_range, sum, take}
use Rattle.std.specs.List.{list_any}
use Rattle.hd_message.specs.Values.{lacks}
use Rattle.hd_message.specs.declared.kind.Kind.{Kind}
use Rattle.hd_message.specs.declared.kind.Kind.TheVariants.{Login, Status, Resend, Desk}
use Rattle.hd_message.specs.declared.kind.DeskKind.{DeskKind}
use Rattle.hd_message.specs.declared.kind.DeskKind.TheVariants.{Checkout, Checkin, Hold, Renew, Item}

-- the code
abbrev pub code_of : Kind → List ℕ
code_of Login = codes "93"
code_of Status = codes "99"
code_of Resend = codes "97"
code_of (Desk Checkout) = codes "11"
code_of (Desk Checkin) = codes "09"
code_of (Desk Hold) = codes "15"
code_of (Desk Renew) = codes "29"
code_of (Desk Item) = codes "17"

-- the widths of the columns of the fixed part, behind the code; that of 99 isn't looked at, and may be short
abbrev pub widths : Kind → List ℕ
widths Login = 1 ∷ 1 ∷ []
widths Status = []
widths Resend = []
widths (Desk Checkout) = 1 ∷ 1 ∷ 18 ∷ 18 ∷ []
widths (Desk Checkin) = 1 ∷ 18 ∷ 18 ∷ []
widths (Desk Hold) = 1 ∷ 18 ∷ []
widths (Desk Renew) = 1 ∷ 1 ∷ 18 ∷ 18 ∷ []
widths (Desk Item) = 18 ∷ []

-- which column is the transaction date, counted from 0
abbrev pub date_column : DeskKind → ℕ
date_column Checkout = 2
date_column Checkin = 1
date_column Hold = 1
date_column Renew = 2
date_column Item = 0

-- the identifiers of the fields that it must have; a hold must name a copy or a title besides
abbrev pub required_fields : Kind → List (List ℕ)
required_fields Login = codes "CN" ∷ codes "CO" ∷ []
required_fields Status = []
required_fields Resend = []
required_fields (Desk Checkout) = codes "AA" ∷ codes "AB" ∷ []
required_fields (Desk Checkin) = codes "AB" ∷ []
required_fields (Desk Hold) = codes "AA" ∷ []
required_fields (Desk Renew) = codes "AA" ∷ codes "AB" ∷ []
required_fields (Desk Item) = codes "AB" ∷ []

-- whether one of these is missing
abbrev pub lacks_required : Kind → List ℕ → Bool
lacks_required kind part = list_any (lacks part) (required_fields kind)

-- the place at which a column begins; the code stands before the first
abbrev pub column_start : Kind → ℕ → ℕ
column_start kind column = 2 + sum (take column (widths kind))

-- the bytes of the code and the fixed part
abbrev pub fixed_width : Kind → ℕ
fixed_width kind = 2 + sum (widths kind)

-- the code and the fixed part of a body
abbrev pub fixed_part : Kind → List ℕ → List ℕ
fixed_part kind body = take (fixed_width kind) body

-- the fields behind them
abbrev pub fields_part : Kind → List ℕ → List ℕ
fields_part kind body = drop (fixed_width kind) body

-- the bytes of a column
abbrev pub column_of : Kind → ℕ → List ℕ → List ℕ
column_of kind column fixed = slice_range fixed (column_start kind column) (column_start kind (column + 1))

-- the byte of a column of one byte
abbrev pub byte_of : Kind → ℕ → List ℕ → ℕ
byte_of kind column fixed = slice_index fixed (column_start kind column)

-- the place of the transaction date
abbrev pub date_start : DeskKind → ℕ
date_start kind = column_start (Desk kind) (date_column kind)

-- the 18 bytes at a place, where the body has them whole
abbrev pub date_at : List ℕ → ℕ → Option (List ℕ)
date_at body place =
    if nat_lt (length body) (place + 18) then None else Some (slice_range body place (place + 18))
