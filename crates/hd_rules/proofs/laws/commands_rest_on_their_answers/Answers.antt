use Rattle.hd_rules.specs.Step.{plan}
use Rattle.hd_rules.proofs.Undo.{same_outcome, same_asks}
use Rattle.hd_rules.proofs.Dependence.{told_alike}
use Rattle.hd_rules.proofs.Written.{each_written}
use Rattle.hd_rules.proofs.laws.commands_rest_on_their_answers.Goals as goal

pub returns : goal.returns
returns c = record {
  alike = λ k d e n command alike.
      (same_outcome k d e (plan k n command) alike, same_asks k d e (plan k n command) alike);
  told = told_alike;
  written = each_written;
}
