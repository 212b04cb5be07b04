use Rattle.hd_log.proofs.Hiding.{kept}
use Rattle.hd_log.proofs.laws.secrets_are_masked.Goals as goal

pub returns : goal.returns
returns c = kept
