-- The laws of the rules that those of clashes rest on.
use Rattle.hd_rules.specs.Laws.{ChoiceIsTheFirstCandidate, CommandsKeepDesksSound, CommandsRestOnTheirAnswers}
use Rattle.hd_rules.specs.Laws.{PlaceIsTheLeastFree, TestsAreExact, TheFirstDependentIsTheLeast}

-- together
pub record Rules : Type 0 where
  pub place : PlaceIsTheLeastFree
  pub choice : ChoiceIsTheFirstCandidate
  pub tests : TestsAreExact
  pub answers : CommandsRestOnTheirAnswers
  pub commands : CommandsKeepDesksSound
  pub dependent : TheFirstDependentIsTheLeast
