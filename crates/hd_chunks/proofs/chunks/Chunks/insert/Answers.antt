use Rattle.std.proofs.Common.{◌≡◌, ◌+◌, ◌≤◌, ◌∙◌, [], List, ap, arith, insert, length, rules, set, subst, suc}
use Rattle.std.proofs.Common.{sym}
use Rattle.std.proofs.lemmas.Grind.{common_steps}
use Rattle.hd_blocks.specs.Blocks.{all_items}
use Rattle.hd_chunks.specs.Chunks.{ChunksValue, chunk_at, items_passed}
use Rattle.hd_chunks.proofs.ChunkLemmas.{chunk_is, inserted_in, made_way, passed_one_more}
use Rattle.hd_chunks.proofs.chunks.Chunks.insert.Given.{Over}
use Rattle.hd_chunks.proofs.chunks.Chunks.insert.Goals.{After-has_room}
use Rattle.hd_chunks.proofs.chunks.Chunks.insert.Goals as goal

-- the chunk that was read is that of the number
here : (g : Over) (c : After-has_room g)
    → c.index_mut-chunk.result.now ≡ chunk_at c.self.inside.chunks.items c.args.number
here g c =
    chunk_is c.self.inside.chunks.items c.args.number c.index_mut-chunk.result.now (search rules)
    c.index_mut-chunk.ensures.value

-- to put the item into the chunk is to put it into the list
put : (g : Over) (c : After-has_room g) → let chunks = c.self.inside.chunks.items in
    all_items (set chunks c.args.number (insert (chunk_at chunks c.args.number) c.args.offset c.args.item))
    ≡ insert (all_items c.args.self.now.chunks)
    (items_passed c.args.self.now.chunks c.args.number + c.args.offset) c.args.item
put g c =
    inserted_in c.self.inside.chunks.items c.args.number c.args.offset c.args.item (search rules)
    (subst (λ (v : ChunksValue g.row.T.Denot). c.args.offset ≤ length (chunk_at v.chunks c.args.number))
    (sym c.self.view_is) c.requires.within)
    ∙ ap (λ (v : ChunksValue g.row.T.Denot). insert (all_items v.chunks)
    (items_passed v.chunks c.args.number + c.args.offset) c.args.item)
    c.self.view_is

pub returns-then-has_room-clause-items : goal.returns-then-has_room-clause-items
returns-then-has_room-clause-items g c =
    let there = (goal.at.returns-then-has_room-clause-items g c).After-has_room in
    let inserted = c.insert.ensures
    ∙ ap (λ (xs : List g.row.T.Denot). insert xs c.args.offset c.args.item) (here g there) in
    ap (λ (xs : List g.row.T.Denot). all_items (set c.self.inside.chunks.items c.args.number xs)) inserted
    ∙ put g there

pub returns-then-offset-len-clause-items : goal.returns-then-offset-len-clause-items
returns-then-offset-len-clause-items g c =
    let there = (goal.at.returns-then-offset-len-clause-items g c).After-has_room in
    let chunks = c.self.inside.chunks.items in
    let number = c.args.number in
    let chunk = c.insert_for_last-last.new.self in
    let next : number + 1 ≡ suc number = omega arith in
    let way = c.insert_for_last-last.ensures
    ∙ ap (λ (xs : List g.row.T.Denot). insert xs c.args.offset c.args.item) (here g there) in
    c.insert_before.ensures.items
    ∙ ap (λ n. insert (all_items (set chunks number chunk)) (items_passed (set chunks number chunk) n)
    c.insert_for_last-last.result) next
    ∙ made_way chunks number c.args.offset chunk c.args.item c.insert_for_last-last.result (search rules) way
    ∙ put g there

pub returns-else-offset-len-clause-items : goal.returns-else-offset-len-clause-items
returns-else-offset-len-clause-items g c =
    let there = (goal.at.returns-else-offset-len-clause-items g c).After-has_room in
    let chunks = c.self.inside.chunks.items in
    let number = c.args.number in
    let same : c.index_mut-chunk.result.now ≡ chunk_at chunks number = here g there in
    let within : c.args.offset ≤ length (chunk_at chunks number) =
    subst (λ (v : ChunksValue g.row.T.Denot). c.args.offset ≤ length (chunk_at v.chunks number))
    (sym c.self.view_is) c.requires.within in
    let end : items_passed chunks (number + 1) ≡ items_passed chunks number + c.args.offset =
    omega (
      arith,
      passed_one_more chunks number [] (search rules),
      within,
      ap (λ (xs : List g.row.T.Denot). length xs) same,
      c.len.ensures,
      c.if-offset-len.false,
    ) in
    grind (arith, common_steps, c.insert_before-else-offset-len.ensures.items, end)
