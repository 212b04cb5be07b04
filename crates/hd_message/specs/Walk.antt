-- What one walk over the fields of a body finds.
use Rattle.std.specs.Prelude.{◌≡◌, ℕ, List, Option, None, Some, codes, if◌then◌else◌}
use Rattle.std.specs.Option.{option_copied}
use Rattle.hd_field.specs.Fields.{Occurrence, has_code}
use Rattle.hd_message.specs.Values.{first_value}
use Rattle.hd_message.specs.declared.values.Values.{Values}

-- the value of an identifier after a field: the one that there is, else the field's where it has the
-- identifier
abbrev pub value_after : List ℕ → Occurrence → Option (List ℕ) → Option (List ℕ)
value_after code o (Some value) = Some value
value_after code o None = if has_code code o then Some o.value else None

-- The values are those of the first fields of a part.
pub record AreFirst (part : List ℕ) (values : Values) : Type 0 where
  pub patron : option_copied values.patron ≡ first_value part (codes "AA")
  pub copy : option_copied values.copy ≡ first_value part (codes "AB")
  pub title : option_copied values.title ≡ first_value part (codes "AJ")
  pub branch : option_copied values.branch ≡ first_value part (codes "AP")
  pub cancel : option_copied values.cancel ≡ first_value part (codes "BI")
  pub pickup : option_copied values.pickup ≡ first_value part (codes "BS")
  pub expiry : option_copied values.expiry ≡ first_value part (codes "BW")
  pub wanted : option_copied values.wanted ≡ first_value part (codes "BY")
  pub name : option_copied values.name ≡ first_value part (codes "CN")
  pub password : option_copied values.password ≡ first_value part (codes "CO")
  pub patron_password : option_copied values.patron_password ≡ first_value part (codes "AD")
  pub first_item : option_copied values.first_item ≡ first_value part (codes "BP")
  pub last_item : option_copied values.last_item ≡ first_value part (codes "BQ")

-- Each value is the one after a field.
pub record AreAfter (o : Occurrence) (old new : Values) : Type 0 where
  pub patron : option_copied new.patron ≡ value_after (codes "AA") o (option_copied old.patron)
  pub copy : option_copied new.copy ≡ value_after (codes "AB") o (option_copied old.copy)
  pub title : option_copied new.title ≡ value_after (codes "AJ") o (option_copied old.title)
  pub branch : option_copied new.branch ≡ value_after (codes "AP") o (option_copied old.branch)
  pub cancel : option_copied new.cancel ≡ value_after (codes "BI") o (option_copied old.cancel)
  pub pickup : option_copied new.pickup ≡ value_after (codes "BS") o (option_copied old.pickup)
  pub expiry : option_copied new.expiry ≡ value_after (codes "BW") o (option_copied old.expiry)
  pub wanted : option_copied new.wanted ≡ value_after (codes "BY") o (option_copied old.wanted)
  pub name : option_copied new.name ≡ value_after (codes "CN") o (option_copied old.name)
  pub password : option_copied new.password ≡ value_after (codes "CO") o (option_copied old.password)
  pub patron_password : option_copied new.patron_password
      ≡ value_after (codes "AD") o (option_copied old.patron_password)
  pub first_item : option_copied new.first_item ≡ value_after (codes "BP") o (option_copied old.first_item)
  pub last_item : option_copied new.last_item ≡ value_after (codes "BQ") o (option_copied old.last_item)
