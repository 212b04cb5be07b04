-- What extends the standard messages.
use Rattle.std.specs.Prelude.{Option, Some, None, false}
use Rattle.std.specs.Borrow.{Bor}
use Rattle.hd_message.specs.declared.profile.Profile.{Profile}
use Rattle.hd_patrons.specs.Stored.{Stored}

-- Which extensions are on, and what the patrons' file says, where there is one.
pub record Extensions : Type 0 where
  pub profile : Profile
  pub patrons : Option Stored

-- the standard messages alone
abbrev pub no_extensions : Extensions
no_extensions = record {
  profile = record { patron_messages = false; sorter_fields = false };
  patrons = None;
}

-- those that are lent, and else none
abbrev pub extensions_lent : Option (Bor Extensions) → Extensions
extensions_lent None = no_extensions
extensions_lent (Some lent) = lent.now
