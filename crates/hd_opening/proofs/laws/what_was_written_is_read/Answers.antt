use Rattle.hd_opening.proofs.FileLemmas.{written_told}
use Rattle.hd_opening.proofs.laws.what_was_written_is_read.Goals as goal

pub returns : goal.returns
returns c = written_told
