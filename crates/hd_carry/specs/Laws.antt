-- The laws of carrying over, each proved.
use Rattle.std.specs.Prelude.{◌+◌, ◌≡◌, ◌↔◌, Bool, List, [], All}
use Rattle.hd_rules.specs.declared.holds.Hold.{Hold}
use Rattle.hd_rules.specs.declared.rows.OpeningRow.{OpeningRow}
use Rattle.hd_rules.specs.Numbers.{TitleNo, CopyNo, HoldStamp, CommandNo}
use Rattle.hd_rules.specs.Facts.{Facts, AreInRange}
use Rattle.hd_rules.specs.Desk.{Desk, at_home}
use Rattle.hd_rules.specs.Known.{IsKnownDesk, IsKnownRow}
use Rattle.hd_rules.specs.Run.{IsAmong}
use Rattle.hd_rules.specs.Sound.{AreNamed, MayOpen, Sound}
use Rattle.hd_rules.specs.Carry.{Renumbering, IsCarriedOver}
use Rattle.hd_rules.specs.Rows.{with_rows, EachMayStand, IsInBounds}
use Rattle.hd_catalogue.specs.Contents.{Contents, facts_of, told_by}
use Rattle.hd_desk.specs.Asking.{AreQueuesOf}
use Rattle.hd_carry.specs.ByNames.{by_names, HasDistinctNames, IsRenumbering}
use Rattle.hd_carry.specs.CarriedRows.{carried_rows}
use Rattle.hd_carry.specs.declared.obstacle.Obstacle.{Obstacle}
use Rattle.hd_carry.specs.Faults.{all_obstacles}
use Rattle.hd_carry.specs.InTheWay.{IsInTheWay}
use Rattle.hd_carry.specs.Obstacles.{obstacles}
use Rattle.hd_carry.specs.WriteOffs.{without_loans}

-- The rows carry the desk d over. Each may stand behind those before it, where the next command has the
-- number n; it names things of the new catalogue, and its numbers are in their bounds; from each copy at home
-- they lead to the old desk, by names.
pub record CarryOver (k j : Facts) (r : Renumbering) (n : HoldStamp) (d : Desk) (rows : List OpeningRow) :
    Type 0 where
  pub stand : EachMayStand j n (at_home j.home) rows
  pub known : All (IsKnownRow j) rows
  pub bounds : All (IsInBounds n) rows
  pub over : IsCarriedOver r k j d (with_rows j.title_of (at_home j.home) rows)

module _ (old new : Contents) (listed : CopyNo → Bool) (d : Desk) (queues : TitleNo → List Hold) where
  -- the old desk when the listed loans have ended, what of it is in the way, and its rows
  abbrev pub ended : Desk
  ended = without_loans (facts_of old) listed d

  abbrev pub IsFree : Type 0
  IsFree = obstacles (by_names old new) (facts_of old) ended queues ≡ []

  abbrev pub its_rows : List OpeningRow
  its_rows = carried_rows (by_names old new) (facts_of old) (facts_of new) ended queues

-- By names each number of the old catalogue becomes at most one of the new one, and no two become one.
abbrev pub NamesKeepToThemselves : Type 0
NamesKeepToThemselves =
    (old new : Contents) → HasDistinctNames old →
    IsRenumbering (facts_of old) (facts_of new) (by_names old new)

-- Where nothing is in the way, the rows of a sound desk carry it over.
abbrev pub RowsCarryADeskOver : Type 0
RowsCarryADeskOver =
    (old new : Contents) (n : HoldStamp) (listed : CopyNo → Bool) (d : Desk) (queues : TitleNo → List Hold) →
    HasDistinctNames old → AreInRange (facts_of old) → Sound (facts_of old) n d →
    IsKnownDesk (facts_of old) d → AreQueuesOf (facts_of old) d queues → IsFree old new listed d queues →
    CarryOver (facts_of old) (facts_of new) (by_names old new) n (ended old new listed d queues)
    (its_rows old new listed d queues)

-- Where anything is in the way, there is no desk to which it could be carried over.
abbrev pub ObstaclesAreReal : Type 0
ObstaclesAreReal =
    (old new : Contents) (listed : CopyNo → Bool) (d e : Desk) (queues : TitleNo → List Hold) →
    HasDistinctNames old → AreQueuesOf (facts_of old) d queues →
    IsCarriedOver (by_names old new) (facts_of old) (facts_of new) (ended old new listed d queues) e →
    IsFree old new listed d queues

-- Exactly what is in the way is told.
abbrev pub ObstaclesAreExact : Type 0
ObstaclesAreExact =
    (old new : Contents) (last : CommandNo) (listed : CopyNo → Bool) (d : Desk)
    (queues : TitleNo → List Hold) → AreNamed d.hold → AreQueuesOf (facts_of old) d queues →
    (obstacle : Obstacle) →
    IsAmong obstacle (all_obstacles old new last (ended old new listed d queues) queues)
    ↔ IsInTheWay (facts_of old) (facts_of new) (by_names old new) (ended old new listed d queues) last
    obstacle

-- A journal of the catalogue next may begin, and it does with the desk d of the catalogue old, by names.
pub record BeginsWith (old next : Contents) (d : Desk) : Type 0 where
  pub sound : MayOpen (facts_of next)
  pub known : IsKnownDesk (facts_of next) (facts_of next).opening.desk
  pub over : IsCarriedOver (by_names old next) (facts_of old) (facts_of next) d (facts_of next).opening.desk

-- With the rows that carry a desk over, and the last number given so far, the new catalogue is the next one.
abbrev pub TheNextJournalBegins : Type 0
TheNextJournalBegins =
    (old new : Contents) (last : CommandNo) (d : Desk) (rows : List OpeningRow) → AreInRange (facts_of new) →
    CarryOver (facts_of old) (facts_of new) (by_names old new) (last + 1) d rows →
    BeginsWith old (record new { opening = told_by rows last }) d
