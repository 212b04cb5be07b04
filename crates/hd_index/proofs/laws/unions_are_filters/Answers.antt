use Rattle.hd_index.proofs.UnionLaws.{are_filters}
use Rattle.hd_index.proofs.laws.unions_are_filters.Goals as goal

pub returns : goal.returns
returns c = are_filters
