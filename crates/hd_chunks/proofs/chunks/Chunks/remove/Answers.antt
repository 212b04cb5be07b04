use Rattle.std.proofs.Common.{◌+◌, ◌<◌, ◌∙◌, List, ap, length, remove, set, subst, sym}
use Rattle.hd_blocks.specs.Blocks.{all_items}
use Rattle.hd_chunks.specs.Chunks.{ChunksValue, chunk_at, items_passed}
use Rattle.hd_chunks.proofs.ChunkLemmas.{chunk_is, chunk_there, removed_from, removed_with}
use Rattle.hd_chunks.proofs.chunks.Chunks.remove.Given.{Over}
use Rattle.hd_chunks.proofs.chunks.Chunks.remove.Goals.{After-index}
use Rattle.hd_chunks.proofs.chunks.Chunks.remove.Goals as goal

-- the item stands in the chunk
within : (g : Over) (c : After-index g)
    → c.args.offset < length (chunk_at c.self.inside.chunks.items c.args.number)
within g c =
    subst (λ (v : ChunksValue g.row.T.Denot). c.args.offset < length (chunk_at v.chunks c.args.number))
    (sym c.self.view_is) c.requires

pub returns-then-len-eq1-clause-items : goal.returns-then-len-eq1-clause-items
returns-then-len-eq1-clause-items g c =
    let there = (goal.at.returns-then-len-eq1-clause-items g c).After-index in
    let chunks = c.self.inside.chunks.items in
    let number = c.args.number in
    let here = chunk_is chunks number c.index.result.now
    (chunk_there chunks number c.args.offset (within g there)) c.index.ensures in
    let one = ap (λ (xs : List g.row.T.Denot). length xs) (sym here) ∙ sym c.len.ensures
    ∙ c.if-len-eq1.true in
    ap all_items c.remove.ensures.items
    ∙ removed_with chunks number c.args.offset (within g there) one
    ∙ ap (λ (v : ChunksValue g.row.T.Denot). remove (all_items v.chunks)
    (items_passed v.chunks number + c.args.offset)) c.self.view_is

pub returns-else-len-eq1-clause-items : goal.returns-else-len-eq1-clause-items
returns-else-len-eq1-clause-items g c =
    let there = (goal.at.returns-else-len-eq1-clause-items g c).After-index in
    let chunks = c.self.inside.chunks.items in
    let number = c.args.number in
    let here =
    chunk_is chunks number c.index_mut.result.now (chunk_there chunks number c.args.offset (within g there))
    c.index_mut.ensures.value in
    let taken = c.remove-else-len-eq1.ensures
    ∙ ap (λ (xs : List g.row.T.Denot). remove xs c.args.offset) here in
    c.join_around.ensures.items
    ∙ ap (λ (xs : List g.row.T.Denot). all_items (set chunks number xs)) taken
    ∙ removed_from chunks number c.args.offset (within g there)
    ∙ ap (λ (v : ChunksValue g.row.T.Denot). remove (all_items v.chunks)
    (items_passed v.chunks number + c.args.offset)) c.self.view_is
