use Rattle.hd_index.proofs.UnionLaws.{rises, union_has}
use Rattle.hd_index.proofs.laws.unions_have_each_once.Goals as goal

pub returns : goal.returns
returns c = record { rising = rises; numbers = union_has }
