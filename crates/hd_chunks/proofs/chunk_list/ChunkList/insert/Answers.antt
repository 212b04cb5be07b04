use Rattle.std.proofs.Common.{◌∙◌, ◌++◌, List, ap, arith, insert}
use Rattle.hd_chunks.specs.Chunks.{ChunkListValue, items_of, items_before}
use Rattle.hd_chunks.proofs.ChunkLemmas.{put_in_others}
use Rattle.hd_chunks.proofs.chunk_list.ChunkList.insert.Goals as goal

pub returns-then-at-gt0-clause-items : goal.returns-then-at-gt0-clause-items
returns-then-at-gt0-clause-items g c =
    let first = c.self.inside.first.items in
    ap (λ (xs : List g.row.T.Denot). first ++ xs) c.insert.ensures.items
    ∙ put_in_others first c.self.inside.others.chunks c.args.at.chunk c.args.at.offset c.args.item
    (omega (arith, c.if-at-gt0.true))
    ∙ ap (λ (v : ChunkListValue g.row.T.Denot). insert (items_of v) (items_before v.chunks c.args.at)
    c.args.item) c.self.view_is
