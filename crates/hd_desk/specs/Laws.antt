-- What is known of an accepted command's changes.
use Rattle.hd_rules.specs.Laws.{CommandsKeepDesksSound, CommandsRestOnTheirAnswers}

-- laws of the rules, together
pub record CommandLaws : Type 0 where
  pub answers : CommandsRestOnTheirAnswers
  pub commands : CommandsKeepDesksSound
