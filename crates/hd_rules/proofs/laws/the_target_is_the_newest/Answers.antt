use Rattle.hd_rules.proofs.Newest.{target_is, no_target_is}
use Rattle.hd_rules.proofs.Splits.{before_split, less_split}
use Rattle.hd_rules.proofs.laws.the_target_is_the_newest.Goals as goal

pub returns : goal.returns
returns c = record {
  found = target_is;
  none = no_target_is;
  split = λ n older x newer rising. (before_split n older x newer rising, less_split n older x newer rising);
}
