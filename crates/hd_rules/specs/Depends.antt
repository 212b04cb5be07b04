-- When a later command depends on an earlier one (§ Numbers, cancellation and dependence).
use Rattle.std.specs.Prelude.{◌≡◌, ◌<◌, ◌⊎◌, List}
use Rattle.hd_rules.specs.Words.{Survivor}
use Rattle.hd_rules.specs.Numbers.{CommandNo}
use Rattle.hd_rules.specs.Facts.{Facts}
use Rattle.hd_rules.specs.Desk.{Desk}
use Rattle.hd_rules.specs.Ask.{Plan, Ask, answer}
use Rattle.hd_rules.specs.Step.{plan}
use Rattle.hd_rules.specs.Run.{IsAmong, run}
pub use Rattle.hd_rules.specs.Run.{before, less}

module _ (k : Facts) (d e : Desk) where
  -- all that the plan asks at one desk is answered alike at the other
  abbrev pub AnsweredAlike : Plan → Type 0
  AnsweredAlike (Ask q rest) = (answer k d q ≡ answer k e q) × AnsweredAlike (rest (answer k d q))
  AnsweredAlike _ = Unit {0}

  -- some question that the plan asks at one desk has another answer at the other
  abbrev pub AnsweredOtherwise : Plan → Type 0
  AnsweredOtherwise (Ask q rest) =
      ((answer k d q ≡ answer k e q) → ⊥) ⊎ AnsweredOtherwise (rest (answer k d q))
  AnsweredOtherwise _ = ⊥

module _ (k : Facts) (survivors : List Survivor) (c : Survivor) where
  -- Of two survivors d depends on c: some question that it asks, in the
  -- run of those before it, has another answer in the run of those less c.
  abbrev pub Depends : Survivor → Type 0
  Depends d =
      AnsweredOtherwise k (run k (before d.number survivors))
      (run k (less c.number (before d.number survivors))) (plan k d.number d.command)

  -- no later survivor depends on it
  abbrev pub NoneDepends : Type 0
  NoneDepends = (d : Survivor) → IsAmong d survivors → c.number < d.number → Depends d → ⊥

  -- the least number of a later survivor that depends on it
  pub record IsLeastDependent (n : CommandNo) : Type 0 where
    pub dependent : Survivor
    pub survives : IsAmong dependent survivors
    pub later : c.number < dependent.number
    pub depends : Depends dependent
    pub named : n ≡ dependent.number
    pub least : (d : Survivor) → IsAmong d survivors → c.number < d.number → d.number < n → Depends d → ⊥
