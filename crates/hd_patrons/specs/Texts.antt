-- What a patrons' file says of patrons.
use Rattle.std.specs.Prelude.{◌≡◌, ℕ, ◌&&◌, ◌||◌, ◌==◌, Bool, true, if◌then◌else◌, Option, Some, IfSome, List}
use Rattle.std.specs.Prelude.{length}
use Rattle.std.specs.List.{list_all}
use Rattle.hd_catalogue.specs.Text.{is_digit, is_name}
use Rattle.hd_rules.specs.Numbers.{PatronNo}

-- a password or a name: nothing, or a name as in catalogue files
abbrev pub is_text : List ℕ → Bool
is_text text = (length text == 0) || is_name text

-- a language: three digits
abbrev pub is_language : List ℕ → Bool
is_language text = (length text == 3) && list_all is_digit text

-- The texts of a patron. The password and the name may be empty.
pub record PatronTexts : Type 0 where
  pub password : List ℕ
  pub language : Option (List ℕ)
  pub name : List ℕ

-- the texts are such as a line may have
pub record AreProper (texts : PatronTexts) : Type 0 where
  pub password : is_text texts.password ≡ true
  pub language : IfSome texts.language (λ language. is_language language ≡ true)
  pub name : is_text texts.name ≡ true

-- a patron, and the patron's texts
pub record PatronSaid : Type 0 where
  pub patron : PatronNo
  pub texts : PatronTexts

-- what is said of the patron p: the texts that are said here, where it is this patron, and else the others
abbrev pub said_before : PatronSaid → PatronNo → Option PatronTexts → Option PatronTexts
said_before said p others = if said.patron == p then Some said.texts else others
