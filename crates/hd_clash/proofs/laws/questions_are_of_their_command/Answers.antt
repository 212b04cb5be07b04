use Rattle.hd_clash.proofs.About.{questions_of_command}
use Rattle.hd_clash.proofs.laws.questions_are_of_their_command.Goals as goal

pub returns : goal.returns
returns c = questions_of_command
