-- What a hold message holds.
use Rattle.std.specs.Prelude.{◌≡◌, ℕ, ◌==◌, ◌||◌, ◌&&◌, not, Bool, true, false, List, [], ◌∷◌, Option, None}
use Rattle.std.specs.Prelude.{Some, MatchBool, codes, replicate, is_none, if◌then◌else◌}
use Rattle.std.specs.Option.{option_copied}
use Rattle.std.specs.Str.{bytes_eq}
use Rattle.hd_message.specs.Table.{byte_of, column_of}
use Rattle.hd_message.specs.Values.{filled_value, first_value, is_yes}
use Rattle.hd_message.specs.declared.kind.Kind.TheVariants.{Desk}
use Rattle.hd_message.specs.declared.kind.DeskKind.TheVariants.{Hold}
use Rattle.hd_message.specs.declared.request.Mode.{Mode}
use Rattle.hd_message.specs.declared.request.Mode.TheVariants.{Add, Delete, Change}
use Rattle.hd_message.specs.declared.request.Wanted.{Wanted}
use Rattle.hd_message.specs.declared.request.Wanted.TheVariants.{AnyCopy, OneCopy, AtBranch}
use Rattle.hd_message.specs.declared.request.HoldRequest.{HoldRequest}
use Rattle.hd_message.specs.declared.request.Wishes.{Wishes}

-- the mode that a byte writes: +, - or *
abbrev pub mode_of : ℕ → Option Mode
mode_of byte =
    if byte == 43 then Some Add
    else if byte == 45 then Some Delete
    else if byte == 42 then Some Change
    else None

-- which copies a value of BY asks for, where it says so; none where it is unreadable
abbrev pub wanted_of : Option (List ℕ) → Option (Option Wanted)
wanted_of None = Some None
wanted_of (Some []) = Some None
wanted_of (Some (byte ∷ bytes)) =
    if (byte == 32) || (byte == 49) then Some None
    else if byte == 50 then Some (Some AnyCopy)
    else if byte == 51 then Some (Some OneCopy)
    else if byte == 52 then Some (Some AtBranch)
    else None

-- a value of BW counts as absent where it is empty or 18 blanks
abbrev pub expiry_of : Option (List ℕ) → Option (List ℕ)
expiry_of None = None
expiry_of (Some text) = if bytes_eq text (replicate 18 32) then None else Some text

-- whether the copies asked for are one copy
abbrev pub is_one_copy : Option Wanted → Bool
is_one_copy (Some OneCopy) = true
is_one_copy _ = false

-- whether a mode is a delete
abbrev pub is_delete : Mode → Bool
is_delete Delete = true
is_delete _ = false

-- whether a message has wishes: it adds or changes a hold, and cancels nothing
abbrev pub has_wishes : Mode → Bool → Bool
has_wishes mode cancels = not (cancels || is_delete mode)

-- wishes have the first fields of their part
abbrev pub AreWishesOf : List ℕ → Option Wishes → Type 0
AreWishesOf part None = ⊥
AreWishesOf part (Some wishes) =
    (wanted_of (first_value part (codes "BY")) ≡ Some wishes.wanted)
    × (option_copied wishes.pickup ≡ filled_value part (codes "BS"))
    × (option_copied wishes.expiry ≡ expiry_of (filled_value part (codes "BW")))

-- a message has the wishes that its fields state where it has wishes, and none elsewhere
abbrev pub AreWishes : List ℕ → Mode → Bool → Option Wishes → Type 0
AreWishes part mode cancels wishes =
    MatchBool (has_wishes mode cancels) (AreWishesOf part wishes) (wishes ≡ None)

-- 15: mode, transaction date; AA, and AB or AJ; BW, BS, BY, BI.
pub record IsHold (fixed part : List ℕ) (hold : HoldRequest) : Type 0 where
  pub mode : mode_of (byte_of (Desk Hold) 0 fixed) ≡ Some hold.mode
  pub date : hold.date.now ≡ column_of (Desk Hold) 1 fixed
  pub patron : first_value part (codes "AA") ≡ Some hold.patron.now
  pub copy : option_copied hold.copy ≡ filled_value part (codes "AB")
  pub title : option_copied hold.title ≡ filled_value part (codes "AJ")
  pub cancels : hold.cancels ≡ is_yes (first_value part (codes "BI"))
  pub wishes : AreWishes part hold.mode hold.cancels hold.wishes

-- whether neither a copy nor a title is named
abbrev pub names_nothing : List ℕ → Bool
names_nothing part = is_none (filled_value part (codes "AB")) && is_none (filled_value part (codes "AJ"))

-- whether what BY asks for is unreadable, or one copy where none is named
abbrev pub is_bad_wish : Option (Option Wanted) → Bool → Bool
is_bad_wish None no_copy = true
is_bad_wish (Some wanted) no_copy = is_one_copy wanted && no_copy

-- whether a message has wishes that are unreadable
abbrev pub has_bad_wishes : List ℕ → Mode → Bool → Bool
has_bad_wishes part mode cancels =
    has_wishes mode cancels
    && is_bad_wish (wanted_of (first_value part (codes "BY"))) (is_none (filled_value part (codes "AB")))

-- whether a mode is none, or has wishes that are unreadable
abbrev pub is_bad_mode : List ℕ → Option Mode → Bool → Bool
is_bad_mode part None cancels = true
is_bad_mode part (Some mode) cancels = has_bad_wishes part mode cancels

-- whether a hold message doesn't say what it must: it names neither a copy nor a title, there is no such
-- mode, or its wishes can't be read
abbrev pub is_bad_hold : List ℕ → List ℕ → Bool
is_bad_hold fixed part =
    names_nothing part
    || is_bad_mode part (mode_of (byte_of (Desk Hold) 0 fixed)) (is_yes (first_value part (codes "BI")))
