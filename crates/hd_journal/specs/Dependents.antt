-- The first later survivor that depends on one.
use Rattle.std.specs.Prelude.{◌≡◌, Option, Some, None, List}
use Rattle.hd_rules.specs.declared.commands.Survivor.{Survivor}
use Rattle.hd_rules.specs.Numbers.{CommandNo}
use Rattle.hd_rules.specs.Depends.{IsLeastDependent, NoneDepends}
use Rattle.hd_rules.specs.Facts.{Facts}
use Rattle.hd_rules.specs.Run.{IsAmong}

-- What a cancellation of the command of this number would be refused by: the least number of a later survivor
-- that depends on it. None where none depends on it, or where no survivor has this number.
abbrev pub IsFirstDependent : Facts → List Survivor → CommandNo → Option CommandNo → Type 0
IsFirstDependent k survivors n None =
    (s : Survivor) → IsAmong s survivors → s.number ≡ n → NoneDepends k survivors s
IsFirstDependent k survivors n (Some first) =
    (s : Survivor) × IsAmong s survivors × (s.number ≡ n) × IsLeastDependent k survivors s first
