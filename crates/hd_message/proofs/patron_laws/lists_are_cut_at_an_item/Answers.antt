use Rattle.hd_message.proofs.CutLemmas.{cut_at_item}
use Rattle.hd_message.proofs.patron_laws.lists_are_cut_at_an_item.Goals as goal

pub returns : goal.returns
returns c = cut_at_item
