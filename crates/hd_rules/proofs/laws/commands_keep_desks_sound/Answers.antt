use Rattle.hd_rules.proofs.Written.{at_most_four}
use Rattle.hd_rules.proofs.Onward.{on_through_fit, sound_after}
use Rattle.hd_rules.proofs.Reach.{reachable_sound}
use Rattle.hd_rules.proofs.Familiar.{known_done}
use Rattle.hd_rules.proofs.laws.commands_keep_desks_sound.Goals as goal

pub returns : goal.returns
returns c = record {
  few = at_most_four;
  fit = on_through_fit;
  sound = sound_after;
  runs = reachable_sound;
  known = known_done;
}
