-- Later commands one after another, from a desk with a command and from the desk without it.
use Rattle.std.proofs.Common.{◌≡◌, List, [], ◌∷◌}
use Rattle.hd_rules.specs.Words.{Survivor}
use Rattle.hd_rules.specs.Facts.{Facts}
use Rattle.hd_rules.specs.Desk.{Desk}
use Rattle.hd_rules.specs.Step.{plan}
use Rattle.hd_rules.specs.Run.{outcome_of, step}
use Rattle.hd_rules.specs.Depends.{AnsweredAlike}

-- what the survivor asks at the one desk is answered alike at the other
abbrev pub Stands : Facts → Desk → Desk → Survivor → Type 0
Stands k d e s = AnsweredAlike k d e (plan k s.number s.command)

-- each of them stands
abbrev pub AllStand : Facts → Desk → Desk → List Survivor → Type 0
AllStand k d e [] = Unit {0}
AllStand k d e (s ∷ ss) = Stands k d e s × AllStand k (step k d s) (step k e s) ss

-- each ends alike, with the same changes and reply, at both desks
abbrev pub EndAlike : Facts → Desk → Desk → List Survivor → Type 0
EndAlike k d e [] = Unit {0}
EndAlike k d e (s ∷ ss) = (outcome_of k d s ≡ outcome_of k e s) × EndAlike k (step k d s) (step k e s) ss
