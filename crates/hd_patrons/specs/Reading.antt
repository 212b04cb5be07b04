-- What the reader's own functions answer of a line.
use Rattle.std.specs.Prelude.{◌≡◌, ◌<◌, Bool, false, Option, None, Some, Result, Ok, Err}
use Rattle.hd_rules.specs.Numbers.{PatronNo}
use Rattle.hd_catalogue.specs.Contents.{Contents, facts_of}
use Rattle.hd_catalogue.specs.declared.cause.Cause.{Cause}
use Rattle.hd_patrons.specs.Texts.{AreProper, PatronSaid}

-- The line passes and says this: proper texts of a patron of the catalogue of whom nothing was told.
pub record Passes (k : Contents) (told : PatronNo → Bool) (cause : Option Cause) (said : Option PatronSaid)
    (line : PatronSaid) : Type 0 where
  pub passes : cause ≡ None
  pub says : said ≡ Some line
  pub new : told line.patron ≡ false
  pub known : line.patron < (facts_of k).patrons
  pub proper : AreProper line.texts

-- a line was read: it passes, or its cause is named
abbrev pub Reads : Contents → (PatronNo → Bool) → Option Cause → Option PatronSaid → Result PatronSaid Cause
    → Type 0
Reads k told cause said (Ok line) = Passes k told cause said line
Reads k told cause said (Err named) = cause ≡ Some named
