use Rattle.hd_clash.proofs.Records.{split, join}
use Rattle.hd_clash.proofs.laws.records_split.Goals as goal

pub returns : goal.returns
returns c = λ k d older newer rs ts same. (split k d older newer rs ts same, join k d older newer rs ts)
