-- What terminals write for a hold message, by the values that it states.
use Rattle.std.specs.Prelude.{◌≡◌, ℕ, ◌&&◌, Bool, false, List, ◌∷◌, ◌++◌, ⊤, Option, None, Some, MatchBool}
use Rattle.std.specs.Prelude.{is_none, codes, length, replicate}
use Rattle.std.specs.Option.{option_copied}
use Rattle.std.specs.Str.{bytes_eq}
use Rattle.hd_message.specs.Grammar.{IsDateText, IsGiven, Written, cancel, has_bar, optional}
use Rattle.hd_message.specs.Hold.{has_wishes, is_one_copy}
use Rattle.hd_message.specs.declared.request.Mode.{Mode}
use Rattle.hd_message.specs.declared.request.Mode.TheVariants.{Add, Delete, Change}
use Rattle.hd_message.specs.declared.request.Wanted.{Wanted}
use Rattle.hd_message.specs.declared.request.Wanted.TheVariants.{AnyCopy, OneCopy, AtBranch}
use Rattle.hd_message.specs.declared.request.HoldRequest.{HoldRequest}
use Rattle.hd_message.specs.declared.request.Wishes.{Wishes}
use Rattle.hd_message.specs.declared.request.Request.{Request}
use Rattle.hd_message.specs.declared.request.Request.TheVariants.{Hold}

-- the byte of a mode
abbrev pub mode_byte : Mode → ℕ
mode_byte Add = 43
mode_byte Delete = 45
mode_byte Change = 42

-- the value of BY
abbrev pub wanted_text : Option Wanted → Option (List ℕ)
wanted_text None = None
wanted_text (Some AnyCopy) = Some (codes "2")
wanted_text (Some OneCopy) = Some (codes "3")
wanted_text (Some AtBranch) = Some (codes "4")

-- The values of a hold message (15).
pub record HoldValues : Type 0 where
  pub mode : Mode
  pub date : List ℕ
  pub expiry : Option (List ℕ)
  pub pickup : Option (List ℕ)
  pub wanted : Option Wanted
  pub institution : List ℕ
  pub patron : List ℕ
  pub copy : Option (List ℕ)
  pub title : Option (List ℕ)
  pub cancels : Bool

-- its code and fixed part
abbrev pub hold_fixed : HoldValues → List ℕ
hold_fixed v = codes "15" ++ mode_byte v.mode ∷ v.date

-- its fields but the wishes
abbrev pub named_fields : HoldValues → List Written
named_fields v =
    record { code = codes "AO"; value = v.institution }
    ∷ record { code = codes "AA"; value = v.patron }
    ∷ (optional (codes "AB") v.copy ++ (optional (codes "AJ") v.title ++ cancel v.cancels))

-- its fields: the wishes, and those behind them
abbrev pub hold_fields : HoldValues → List Written
hold_fields v =
    optional (codes "BW") v.expiry
    ++ (optional (codes "BS") v.pickup ++ (optional (codes "BY") (wanted_text v.wanted) ++ named_fields v))

-- an expiration date that is given has 18 bytes and isn't blank
abbrev pub IsExpiry : Option (List ℕ) → Type 0
IsExpiry None = ⊤
IsExpiry (Some value) =
    (has_bar value ≡ false) × (length value ≡ 18) × (bytes_eq value (replicate 18 32) ≡ false)

-- It names a copy or a title, and a copy where it wishes for one copy.
pub record IsHoldWritable (v : HoldValues) : Type 0 where
  pub date : IsDateText v.date
  pub expiry : IsExpiry v.expiry
  pub pickup : IsGiven v.pickup
  pub institution : has_bar v.institution ≡ false
  pub patron : has_bar v.patron ≡ false
  pub copy : IsGiven v.copy
  pub title : IsGiven v.title
  pub named : (is_none v.copy && is_none v.title) ≡ false
  pub one_copy : (has_wishes v.mode v.cancels && (is_one_copy v.wanted && is_none v.copy)) ≡ false

-- the wishes that it is read as
abbrev pub HasWishValues : HoldValues → Option Wishes → Type 0
HasWishValues v None = ⊥
HasWishValues v (Some wishes) =
    (wishes.wanted ≡ v.wanted)
    × (option_copied wishes.pickup ≡ v.pickup)
    × (option_copied wishes.expiry ≡ v.expiry)

-- The hold message that it is read as: wishes count in an add and a change that cancel nothing.
pub record HasHoldValues (v : HoldValues) (hold : HoldRequest) : Type 0 where
  pub mode : hold.mode ≡ v.mode
  pub date : hold.date.now ≡ v.date
  pub patron : hold.patron.now ≡ v.patron
  pub copy : option_copied hold.copy ≡ v.copy
  pub title : option_copied hold.title ≡ v.title
  pub cancels : hold.cancels ≡ v.cancels
  pub wishes : MatchBool (has_wishes v.mode v.cancels) (HasWishValues v hold.wishes) (hold.wishes ≡ None)

-- a request is such a hold message
abbrev pub StatesHold : HoldValues → Request → Type 0
StatesHold v (Hold hold) = HasHoldValues v hold
StatesHold v request = ⊥
