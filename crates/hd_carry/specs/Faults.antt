-- Why a desk isn't carried over.
use Rattle.std.specs.Prelude.{◌≡◌, ◌≢◌, ◌↔◌, ◌∷◌, ◌++◌, List, []}
use Rattle.hd_rules.specs.declared.holds.Hold.{Hold}
use Rattle.hd_rules.specs.Numbers.{TitleNo, CommandNo}
use Rattle.hd_rules.specs.Desk.{Desk}
use Rattle.hd_rules.specs.Run.{IsAmong}
use Rattle.hd_catalogue.specs.Contents.{Contents, facts_of}
use Rattle.hd_carry.specs.declared.fault.CarryFault.{CarryFault}
use Rattle.hd_carry.specs.declared.fault.CarryFault.TheVariants.{Memory, InTheWay}
use Rattle.hd_carry.specs.declared.obstacle.Obstacle.{Obstacle}
use Rattle.hd_carry.specs.ByNames.{by_names}
use Rattle.hd_carry.specs.Obstacles.{number_obstacles, obstacles}

-- all that is in the way of a desk, where so many numbers have been given
abbrev pub all_obstacles : Contents → Contents → CommandNo → Desk → (TitleNo → List Hold) → List Obstacle
all_obstacles old new last d queues =
    obstacles (by_names old new) (facts_of old) d queues ++ number_obstacles last (facts_of new)

-- it is out of memory, or these are in the way, and at least one
abbrev pub IsOf : {A : Type 0} → List Obstacle → CarryFault A → Type 0
IsOf all Memory = Unit {0}
IsOf all (InTheWay told) = (told.items ≡ all) × (all ≢ [])

-- it is out of memory, or each thing that is so is told, and nothing else
abbrev pub Tells : {A : Type 0} → (Obstacle → Type 0) → CarryFault A → Type 0
Tells IsSo Memory = Unit {0}
Tells IsSo (InTheWay told) = (obstacle : Obstacle) → IsAmong obstacle told.items ↔ IsSo obstacle

-- none of these stands twice
abbrev pub IsEachOnce : List Obstacle → Type 0
IsEachOnce [] = Unit {0}
IsEachOnce (obstacle ∷ others) = (IsAmong obstacle others → ⊥) × IsEachOnce others

-- it is out of memory, or nothing is told twice
abbrev pub TellsOnce : {A : Type 0} → CarryFault A → Type 0
TellsOnce Memory = Unit {0}
TellsOnce (InTheWay told) = IsEachOnce told.items
