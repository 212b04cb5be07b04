use Rattle.hd_log.proofs.Lined.{one_line}
use Rattle.hd_log.proofs.laws.lines_are_lines.Goals as goal

pub returns : goal.returns
returns c = one_line
