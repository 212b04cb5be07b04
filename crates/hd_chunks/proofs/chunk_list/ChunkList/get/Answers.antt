use Rattle.std.proofs.Common.{◌∙◌, List, ap, slice_get}
use Rattle.hd_chunks.proofs.ChunkLemmas.{found_in}
use Rattle.hd_chunks.proofs.chunk_list.ChunkList.get.Goals as goal

pub returns-clause-item : goal.returns-clause-item
returns-clause-item g c =
    λ has.
    c.item_at.ensures ∙ ap (λ (xs : List g.row.T.Denot). slice_get xs c.args.at.offset) c.chunk.ensures
    ∙ found_in c.args.self.now.chunks c.args.at.chunk c.args.at.offset has
