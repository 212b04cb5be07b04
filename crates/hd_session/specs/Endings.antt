-- How a session may end, where neither memory nor its office failed.
use Rattle.std.specs.Prelude.{◌≡◌, ◌⊎◌, Option, None, Some}
use Rattle.hd_session.specs.declared.ended.Ended.{Ended}
use Rattle.hd_session.specs.declared.ended.Ended.TheVariants.{TooLong}

-- a session goes on, or a line too long has ended it
abbrev pub EndsWell : Option Ended → Type 0
EndsWell end = (end ≡ None) ⊎ (end ≡ Some TooLong)
