-- What each message holds: columns of its fixed part, and of its fields the first with an identifier.
use Rattle.std.specs.Prelude.{◌≡◌, ℕ, ◌==◌, ◌&&◌, Bool, not, List, Option, None, Some, codes, if◌then◌else◌}
use Rattle.std.specs.Option.{option_copied}
use Rattle.hd_message.specs.Table.{byte_of, column_of}
use Rattle.hd_message.specs.Values.{filled_value, first_value, is_yes}
use Rattle.hd_message.specs.declared.kind.Kind.TheVariants.{Login, Desk}
use Rattle.hd_message.specs.declared.kind.DeskKind.TheVariants.{Checkout, Checkin, Renew, Item}
use Rattle.hd_message.specs.declared.request.LoginRequest.{LoginRequest}
use Rattle.hd_message.specs.declared.request.CheckoutRequest.{CheckoutRequest}
use Rattle.hd_message.specs.declared.request.CheckinRequest.{CheckinRequest}
use Rattle.hd_message.specs.declared.request.RenewRequest.{RenewRequest}
use Rattle.hd_message.specs.declared.request.ItemRequest.{ItemRequest}

-- 93: two algorithms, of which 0 (48) is none; CN, CO.
pub record IsLogin (fixed part : List ℕ) (login : LoginRequest) : Type 0 where
  pub clear : login.clear ≡ ((byte_of Login 0 fixed == 48) && (byte_of Login 1 fixed == 48))
  pub name : first_value part (codes "CN") ≡ Some login.name.now
  pub password : first_value part (codes "CO") ≡ Some login.password.now

-- the due date of a checkout counts where no block is Y and nothing is cancelled: then it took place off-line
abbrev pub due_of : List ℕ → Bool → Option (List ℕ)
due_of fixed cancels =
    if (byte_of (Desk Checkout) 1 fixed == 89) && not cancels
    then Some (column_of (Desk Checkout) 3 fixed)
    else None

-- 11: renewal policy, no block, transaction date, nb due date; AA, AB; BI. Y is 89.
pub record IsCheckout (fixed part : List ℕ) (checkout : CheckoutRequest) : Type 0 where
  pub renews : checkout.renews ≡ (byte_of (Desk Checkout) 0 fixed == 89)
  pub date : checkout.date.now ≡ column_of (Desk Checkout) 2 fixed
  pub due : option_copied checkout.due ≡ due_of fixed checkout.cancels
  pub patron : first_value part (codes "AA") ≡ Some checkout.patron.now
  pub copy : first_value part (codes "AB") ≡ Some checkout.copy.now
  pub cancels : checkout.cancels ≡ is_yes (first_value part (codes "BI"))

-- 09: no block, transaction date, return date; AB; AP, BI.
pub record IsCheckin (fixed part : List ℕ) (checkin : CheckinRequest) : Type 0 where
  pub date : checkin.date.now ≡ column_of (Desk Checkin) 1 fixed
  pub copy : first_value part (codes "AB") ≡ Some checkin.copy.now
  pub branch : option_copied checkin.branch ≡ filled_value part (codes "AP")
  pub cancels : checkin.cancels ≡ is_yes (first_value part (codes "BI"))

-- 29: third party allowed, no block, transaction date, nb due date; AA, AB; AJ, BI.
pub record IsRenew (fixed part : List ℕ) (renew : RenewRequest) : Type 0 where
  pub date : renew.date.now ≡ column_of (Desk Renew) 2 fixed
  pub patron : first_value part (codes "AA") ≡ Some renew.patron.now
  pub copy : first_value part (codes "AB") ≡ Some renew.copy.now
  pub title : option_copied renew.title ≡ filled_value part (codes "AJ")
  pub cancels : renew.cancels ≡ is_yes (first_value part (codes "BI"))

-- 17: transaction date; AB.
pub record IsItem (fixed part : List ℕ) (item : ItemRequest) : Type 0 where
  pub date : item.date.now ≡ column_of (Desk Item) 0 fixed
  pub copy : first_value part (codes "AB") ≡ Some item.copy.now
