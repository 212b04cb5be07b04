-- What is told of a patron, where there may be no file.
use Rattle.std.specs.Prelude.{ℕ, ◌==◌, if◌then◌else◌, Option, None, Some, List, length, option_and_then}
use Rattle.std.specs.Str.{bytes_eq}
use Rattle.hd_rules.specs.Numbers.{PatronNo}
use Rattle.hd_patrons.specs.Stored.{Stored, language_of, name_of, password_of}
use Rattle.hd_patrons.specs.declared.check.PasswordCheck.{PasswordCheck}
use Rattle.hd_patrons.specs.declared.check.PasswordCheck.TheVariants.{NoFile, Right, Wrong, NoPassword}

-- a text that isn't empty
abbrev pub some_text : List ℕ → Option (List ℕ)
some_text text = if length text == 0 then None else Some text

-- the name of a patron, where the file has one
abbrev pub name_in : Option Stored → PatronNo → Option (List ℕ)
name_in file p = option_and_then some_text (option_and_then (λ stored. name_of stored p) file)

-- the language of a patron, where the file has one
abbrev pub language_in : Option Stored → PatronNo → Option (List ℕ)
language_in file p = option_and_then (λ stored. language_of stored p) file

-- a password that was given, against the patron's, if there is one
abbrev pub against : List ℕ → Option (List ℕ) → PasswordCheck
against given None = NoPassword
against given (Some password) = if bytes_eq given password then Right else Wrong

-- the check of a patron's password
abbrev pub check_in : Option Stored → PatronNo → List ℕ → PasswordCheck
check_in None p given = NoFile
check_in (Some stored) p given = against given (option_and_then some_text (password_of stored p))
