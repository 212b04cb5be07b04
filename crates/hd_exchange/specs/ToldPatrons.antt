-- What a reply reports of a patron: of the desk, and of the patrons' file, where there is one.
use Rattle.std.specs.Prelude.{◌≡◌, ℕ, List, [], Option, None, Some, true, false}
use Rattle.std.specs.Option.{unwrap_or}
use Rattle.hd_message.specs.declared.patron_reply.Counts.{Counts}
use Rattle.hd_message.specs.declared.patron_reply.KnownPatron.{KnownPatron}
use Rattle.hd_message.specs.declared.patron_reply.PasswordValidity.{PasswordValidity}
use Rattle.hd_message.specs.declared.patron_reply.PasswordValidity.TheVariants as CQ
use Rattle.hd_message.specs.declared.patron_reply.PatronFlags.{PatronFlags}
use Rattle.hd_patrons.specs.Checks.{check_in, language_in, name_in}
use Rattle.hd_patrons.specs.Stored.{Stored}
use Rattle.hd_patrons.specs.declared.check.PasswordCheck.{PasswordCheck}
use Rattle.hd_patrons.specs.declared.check.PasswordCheck.TheVariants.{NoFile, Right, Wrong, NoPassword}
use Rattle.hd_rules.specs.Numbers.{PatronNo}
use Rattle.hd_rules.specs.declared.views.Borrowing.{Borrowing}
use Rattle.hd_rules.specs.declared.views.Borrowing.TheVariants.{Denied, TooMany, Allowed}
use Rattle.hd_rules.specs.declared.views.PatronView.{PatronView}

-- what they may do: the privilege to borrow is denied to a patron whose loan limit is 0, and too many items
-- are charged to one who has as many loans as they may have
abbrev pub flags_of : Borrowing → PatronFlags
flags_of Denied = record { charge_denied = true; too_many_charged = false }
flags_of TooMany = record { charge_denied = false; too_many_charged = true }
flags_of Allowed = record { charge_denied = false; too_many_charged = false }

-- how much they have
abbrev pub counts_of : PatronView → Counts
counts_of view = record {
  hold_items = view.kept;
  overdue_items = view.overdue;
  charged_items = view.charged;
  unavailable_holds = view.waiting;
}

-- CQ, by what the check of a password says
abbrev pub validity_of : PasswordCheck → PasswordValidity
validity_of NoFile = CQ.Unasked
validity_of Right = CQ.Right
validity_of Wrong = CQ.Wrong
validity_of NoPassword = CQ.Wrong

module _ (file : Option Stored) (p : PatronNo) where
  -- CQ of a message, which may give a password
  abbrev pub password_told : Option (List ℕ) → PasswordValidity
  password_told None = CQ.Unasked
  password_told (Some given) = validity_of (check_in file p given)

  -- AE: the name in the patrons' file, else the one that AA has; empty where the password is wrong
  abbrev pub name_told : PasswordValidity → List ℕ → List ℕ
  name_told CQ.Unasked own = unwrap_or (name_in file p) own
  name_told CQ.Right own = unwrap_or (name_in file p) own
  name_told CQ.Wrong own = []

  -- the language for a patron: that in the patrons' file, else the message's
  abbrev pub language_told : List ℕ → List ℕ
  language_told own = unwrap_or (language_in file p) own

  -- What is reported of the patron whom a message names so: with this view of the desk, and with the password
  -- checked so.
  pub record IsToldOf (check : PasswordValidity) (view : PatronView) (own : List ℕ) (known : KnownPatron)
      : Type 0 where
    pub flags : known.flags ≡ flags_of view.borrowing
    pub name : known.name.now ≡ name_told check own
    pub password : known.password ≡ check
