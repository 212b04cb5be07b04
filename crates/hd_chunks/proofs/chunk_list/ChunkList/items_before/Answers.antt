use Rattle.std.proofs.Common.{◌≡◌, ◌+◌, ◌-◌, ◌<◌, ◌∷◌, ◌∙◌, ◌^◌, List, ap, arith, length, sym, take}
use Rattle.hd_blocks.specs.Blocks.{all_items}
use Rattle.hd_chunks.specs.Chunks.{ChunkListValue, items_before, items_of, items_passed}
use Rattle.hd_chunks.proofs.ChunkLemmas.{passed_first, place_counted}
use Rattle.hd_chunks.proofs.chunk_list.ChunkList.items_before.Given.{Over}
use Rattle.hd_chunks.proofs.chunk_list.ChunkList.items_before.Goals.{After-len}
use Rattle.hd_chunks.proofs.chunk_list.ChunkList.items_before.Goals as goal

-- the items of the other chunks that are passed
passed : (g : Over) (c : After-len g)
    → length (all_items c.split_at.result.0.now)
    ≡ items_passed c.self.inside.others.chunks (c.args.at.chunk - 1)
passed g c =
    ap (λ (ps : List (List g.row.T.Denot)). length (all_items ps)) (c.split_at.ensures.front
    ∙ ap (λ (ps : List (List g.row.T.Denot)). take (c.args.at.chunk - 1) ps) c.lend.ensures.chunks)

-- all that stand before the place
total : (g : Over) (c : After-len g)
    → c.len.result + length (all_items c.split_at.result.0.now) + c.args.at.offset
    ≡ items_before c.args.self.now.chunks c.args.at
total g c =
    let first = c.self.inside.first.items in
    let others = c.self.inside.others.chunks in
    let own : items_before (first ∷ others) c.args.at ≡ items_before c.args.self.now.chunks c.args.at =
    ap (λ (v : ChunkListValue g.row.T.Denot). items_before v.chunks c.args.at) c.self.view_is in
    omega (
      arith,
      passed g c,
      passed_first first others c.args.at.chunk (omega (arith, c.if-at-gt0.true)),
      c.len.ensures,
      c.self.inside.first.ok,
      own,
    )

-- they are no more than the list has
fits : (g : Over) (c : After-len g)
    → c.len.result + length (all_items c.split_at.result.0.now) + c.args.at.offset < 2 ^ 63
fits g c =
    let within = place_counted c.args.self.now.chunks c.args.at c.requires in
    let all : length (items_of c.args.self.now) ≡ c.self.inside.len =
    ap (λ (v : ChunkListValue g.row.T.Denot). length (items_of v)) (sym c.self.view_is)
    ∙ sym c.self.invariant.1.counted in
    omega (arith, total g c, within, all, c.self.invariant.1.fits)

pub items_in-requires : goal.items_in-requires
items_in-requires g c = omega (arith, fits g c)

pub overflow_add-result : goal.overflow_add-result
overflow_add-result g c =
    let there = (goal.at.overflow_add-result g c).After-len in omega (arith, fits g there, c.items_in.ensures)

pub overflow_add-result-then-at-gt0 : goal.overflow_add-result-then-at-gt0
overflow_add-result-then-at-gt0 g c =
    let there = (goal.at.overflow_add-result-then-at-gt0 g c).After-len in
    omega (arith, fits g there, c.items_in.ensures)

pub returns-then-at-gt0-clause-count : goal.returns-then-at-gt0-clause-count
returns-then-at-gt0-clause-count g c =
    let there = (goal.at.returns-then-at-gt0-clause-count g c).After-len in
    omega (arith, total g there, c.items_in.ensures)

pub returns-then-at-gt0-clause-fits : goal.returns-then-at-gt0-clause-fits
returns-then-at-gt0-clause-fits g c =
    let there = (goal.at.returns-then-at-gt0-clause-fits g c).After-len in
    omega (arith, fits g there, c.items_in.ensures)
