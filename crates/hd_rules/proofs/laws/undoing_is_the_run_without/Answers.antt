use Rattle.hd_rules.proofs.Legal.{undone_without, back_through_fit, outcomes_stand}
use Rattle.hd_rules.proofs.Mended.{records_stand}
use Rattle.hd_rules.proofs.laws.undoing_is_the_run_without.Goals as goal

pub returns : goal.returns
returns c = record {
  run_without = undone_without;
  fit = back_through_fit;
  outcomes = outcomes_stand;
  records = records_stand;
}
