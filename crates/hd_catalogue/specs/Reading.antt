-- What the reader's own functions answer, one line after another.
use Rattle.std.specs.Prelude.{◌≡◌, ◌⊎◌, Option, None, Some, Result, Ok, Err}
use Rattle.hd_catalogue.specs.Contents.{Contents}
use Rattle.hd_catalogue.specs.declared.cause.Cause.{Cause}
use Rattle.hd_catalogue.specs.declared.cause.Cause.TheVariants.{Memory}

-- the cause that is named is the line's own, or memory was wanting for a line that passes
abbrev pub Names : Option Cause → Cause → Type 0
Names cause named = (cause ≡ Some named) ⊎ ((named ≡ Memory) × (cause ≡ None))

-- a line was read: it passes and the catalogue says what follows, or its cause is named
abbrev pub Reads : {T : Type 0} → Option Cause → Contents → Contents → Result T Cause → Type 0
Reads cause next new (Ok _) = (cause ≡ None) × (new ≡ next)
Reads cause next new (Err named) = Names cause named

-- the same where the first line makes the catalogue
abbrev pub Begins : Option Cause → Contents → Result Contents Cause → Type 0
Begins cause next (Ok new) = (cause ≡ None) × (new ≡ next)
Begins cause next (Err named) = Names cause named
