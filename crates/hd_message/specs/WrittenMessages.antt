-- What terminals write for a login, a checkout, a checkin, a renewal and a question about a copy, by the
-- values that they state.
use Rattle.std.specs.Prelude.{◌≡◌, ℕ, ◌==◌, ◌&&◌, not, Bool, false, List, [], ◌∷◌, ◌++◌, Option, None, Some}
use Rattle.std.specs.Prelude.{codes, if◌then◌else◌}
use Rattle.std.specs.List.{concat}
use Rattle.std.specs.Option.{option_copied}
use Rattle.hd_message.specs.Fields.{yes_no}
use Rattle.hd_message.specs.Grammar.{IsDateText, IsGiven, Written, cancel, has_bar, optional}
use Rattle.hd_message.specs.Values.{unless_empty}
use Rattle.hd_message.specs.declared.request.LoginRequest.{LoginRequest}
use Rattle.hd_message.specs.declared.request.CheckoutRequest.{CheckoutRequest}
use Rattle.hd_message.specs.declared.request.CheckinRequest.{CheckinRequest}
use Rattle.hd_message.specs.declared.request.RenewRequest.{RenewRequest}
use Rattle.hd_message.specs.declared.request.ItemRequest.{ItemRequest}
use Rattle.hd_message.specs.declared.request.Request.{Request}
use Rattle.hd_message.specs.declared.request.Request.TheVariants.{Login, Checkout, Checkin, Renew, Item}

-- The values of a login (93).
pub record LoginValues : Type 0 where
  pub name_algorithm : ℕ
  pub password_algorithm : ℕ
  pub name : List ℕ
  pub password : List ℕ

-- its code and fixed part
abbrev pub login_fixed : LoginValues → List ℕ
login_fixed v = codes "93" ++ v.name_algorithm ∷ v.password_algorithm ∷ []

-- its fields
abbrev pub login_fields : LoginValues → List Written
login_fields v =
    record { code = codes "CN"; value = v.name }
    ∷ record { code = codes "CO"; value = v.password }
    ∷ []

-- No value has a bar.
pub record IsLoginWritable (v : LoginValues) : Type 0 where
  pub name : has_bar v.name ≡ false
  pub password : has_bar v.password ≡ false

-- The login that it is read as; 48 is the digit 0.
pub record HasLoginValues (v : LoginValues) (login : LoginRequest) : Type 0 where
  pub clear : login.clear ≡ ((v.name_algorithm == 48) && (v.password_algorithm == 48))
  pub name : login.name.now ≡ v.name
  pub password : login.password.now ≡ v.password

-- a request is such a login
abbrev pub StatesLogin : LoginValues → Request → Type 0
StatesLogin v (Login login) = HasLoginValues v login
StatesLogin v request = ⊥

-- The values of a checkout (11).
pub record CheckoutValues : Type 0 where
  pub renews : Bool
  pub offline : Bool
  pub date : List ℕ
  pub due : List ℕ
  pub institution : List ℕ
  pub patron : List ℕ
  pub copy : List ℕ
  pub cancels : Bool

-- its code and fixed part
abbrev pub checkout_fixed : CheckoutValues → List ℕ
checkout_fixed v = concat (codes "11" ∷ yes_no v.renews ∷ yes_no v.offline ∷ v.date ∷ v.due ∷ [])

-- its fields
abbrev pub checkout_fields : CheckoutValues → List Written
checkout_fields v =
    record { code = codes "AO"; value = v.institution }
    ∷ record { code = codes "AA"; value = v.patron }
    ∷ record { code = codes "AB"; value = v.copy }
    ∷ record { code = codes "AC"; value = [] }
    ∷ cancel v.cancels

-- Its dates have 18 bytes, and no value has a bar.
pub record IsCheckoutWritable (v : CheckoutValues) : Type 0 where
  pub date : IsDateText v.date
  pub due : IsDateText v.due
  pub institution : has_bar v.institution ≡ false
  pub patron : has_bar v.patron ≡ false
  pub copy : has_bar v.copy ≡ false

-- The checkout that it is read as: the due date counts where it is off-line and cancels nothing.
pub record HasCheckoutValues (v : CheckoutValues) (checkout : CheckoutRequest) : Type 0 where
  pub renews : checkout.renews ≡ v.renews
  pub date : checkout.date.now ≡ v.date
  pub due : option_copied checkout.due ≡ (if v.offline && not v.cancels then Some v.due else None)
  pub patron : checkout.patron.now ≡ v.patron
  pub copy : checkout.copy.now ≡ v.copy
  pub cancels : checkout.cancels ≡ v.cancels

-- a request is such a checkout
abbrev pub StatesCheckout : CheckoutValues → Request → Type 0
StatesCheckout v (Checkout checkout) = HasCheckoutValues v checkout
StatesCheckout v request = ⊥

-- The values of a checkin (09).
pub record CheckinValues : Type 0 where
  pub no_block : Bool
  pub date : List ℕ
  pub return_date : List ℕ
  pub branch : List ℕ
  pub institution : List ℕ
  pub copy : List ℕ
  pub cancels : Bool

-- its code and fixed part
abbrev pub checkin_fixed : CheckinValues → List ℕ
checkin_fixed v = concat (codes "09" ∷ yes_no v.no_block ∷ v.date ∷ v.return_date ∷ [])

-- its fields
abbrev pub checkin_fields : CheckinValues → List Written
checkin_fields v =
    record { code = codes "AP"; value = v.branch }
    ∷ record { code = codes "AO"; value = v.institution }
    ∷ record { code = codes "AB"; value = v.copy }
    ∷ record { code = codes "AC"; value = [] }
    ∷ cancel v.cancels

-- Its dates have 18 bytes, and no value has a bar.
pub record IsCheckinWritable (v : CheckinValues) : Type 0 where
  pub date : IsDateText v.date
  pub return_date : IsDateText v.return_date
  pub branch : has_bar v.branch ≡ false
  pub institution : has_bar v.institution ≡ false
  pub copy : has_bar v.copy ≡ false

-- The checkin that it is read as: an empty branch is none.
pub record HasCheckinValues (v : CheckinValues) (checkin : CheckinRequest) : Type 0 where
  pub date : checkin.date.now ≡ v.date
  pub copy : checkin.copy.now ≡ v.copy
  pub branch : option_copied checkin.branch ≡ unless_empty (Some v.branch)
  pub cancels : checkin.cancels ≡ v.cancels

-- a request is such a checkin
abbrev pub StatesCheckin : CheckinValues → Request → Type 0
StatesCheckin v (Checkin checkin) = HasCheckinValues v checkin
StatesCheckin v request = ⊥

-- The values of a renewal (29).
pub record RenewValues : Type 0 where
  pub third_party : Bool
  pub no_block : Bool
  pub date : List ℕ
  pub due : List ℕ
  pub institution : List ℕ
  pub patron : List ℕ
  pub copy : List ℕ
  pub title : Option (List ℕ)
  pub cancels : Bool

-- its code and fixed part
abbrev pub renew_fixed : RenewValues → List ℕ
renew_fixed v = concat (codes "29" ∷ yes_no v.third_party ∷ yes_no v.no_block ∷ v.date ∷ v.due ∷ [])

-- its fields
abbrev pub renew_fields : RenewValues → List Written
renew_fields v =
    record { code = codes "AO"; value = v.institution }
    ∷ record { code = codes "AA"; value = v.patron }
    ∷ record { code = codes "AB"; value = v.copy }
    ∷ (optional (codes "AJ") v.title ++ cancel v.cancels)

-- Its dates have 18 bytes, no value has a bar, and a title that is given isn't empty.
pub record IsRenewWritable (v : RenewValues) : Type 0 where
  pub date : IsDateText v.date
  pub due : IsDateText v.due
  pub institution : has_bar v.institution ≡ false
  pub patron : has_bar v.patron ≡ false
  pub copy : has_bar v.copy ≡ false
  pub title : IsGiven v.title

-- The renewal that it is read as.
pub record HasRenewValues (v : RenewValues) (renew : RenewRequest) : Type 0 where
  pub date : renew.date.now ≡ v.date
  pub patron : renew.patron.now ≡ v.patron
  pub copy : renew.copy.now ≡ v.copy
  pub title : option_copied renew.title ≡ v.title
  pub cancels : renew.cancels ≡ v.cancels

-- a request is such a renewal
abbrev pub StatesRenew : RenewValues → Request → Type 0
StatesRenew v (Renew renew) = HasRenewValues v renew
StatesRenew v request = ⊥

-- The values of a question about a copy (17).
pub record ItemValues : Type 0 where
  pub date : List ℕ
  pub institution : List ℕ
  pub copy : List ℕ

-- its code and fixed part
abbrev pub item_fixed : ItemValues → List ℕ
item_fixed v = codes "17" ++ v.date

-- its fields
abbrev pub item_fields : ItemValues → List Written
item_fields v =
    record { code = codes "AO"; value = v.institution }
    ∷ record { code = codes "AB"; value = v.copy }
    ∷ []

-- Its date has 18 bytes, and no value has a bar.
pub record IsItemWritable (v : ItemValues) : Type 0 where
  pub date : IsDateText v.date
  pub institution : has_bar v.institution ≡ false
  pub copy : has_bar v.copy ≡ false

-- The question that it is read as.
pub record HasItemValues (v : ItemValues) (item : ItemRequest) : Type 0 where
  pub date : item.date.now ≡ v.date
  pub copy : item.copy.now ≡ v.copy

-- a request is such a question
abbrev pub StatesItem : ItemValues → Request → Type 0
StatesItem v (Item item) = HasItemValues v item
StatesItem v request = ⊥
