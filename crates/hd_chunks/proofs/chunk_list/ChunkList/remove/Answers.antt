use Rattle.std.proofs.Common.{◌≡◌, ◌+◌, ◌<◌, ◌∷◌, ◌∙◌, ◌++◌, List, ap, arith, length, remove, rules, subst}
use Rattle.std.proofs.Common.{sym}
use Rattle.std.proofs.lemmas.List.Edits.{length-remove}
use Rattle.hd_blocks.specs.Blocks.{all_items}
use Rattle.hd_chunks.specs.Chunks.{ChunkListValue, HasItem, chunk_at, items_before, items_of, items_passed}
use Rattle.hd_chunks.proofs.ChunkLemmas.{item_counted, removed_from, taken_from_others}
use Rattle.hd_chunks.proofs.chunk_list.ChunkList.remove.Given.{Over}
use Rattle.hd_chunks.proofs.chunk_list.ChunkList.remove.Goals.{After-self}
use Rattle.hd_chunks.proofs.chunk_list.ChunkList.remove.Goals as goal

-- the item stands in its chunk, and so in the list
has_item : (g : Over) (c : After-self g)
    → HasItem (c.self.inside.first.items ∷ c.self.inside.others.chunks) c.args.at
has_item g c = subst (λ (v : ChunkListValue g.row.T.Denot). HasItem v.chunks c.args.at) (sym c.self.view_is)
    c.requires

counted : (g : Over) (c : After-self g)
    → let chunks = c.self.inside.first.items ∷ c.self.inside.others.chunks in
    items_before chunks c.args.at < length (all_items chunks)
counted g c =
    item_counted (c.self.inside.first.items ∷ c.self.inside.others.chunks) c.args.at.chunk c.args.at.offset
    (has_item g c)

pub overflow_sub-self : goal.overflow_sub-self
overflow_sub-self g c = omega (arith, counted g c, c.self.invariant.1.counted)

pub invariant_of-self : goal.invariant_of-self
invariant_of-self g c =
    let there = (goal.at.invariant_of-self g c).After-self in
    let first = c.self.inside.first.items in
    let chunks = first ∷ c.self.inside.others.chunks in
    let left : first ++ all_items c.remove.new.self.chunks
    ≡ remove (all_items chunks) (items_before chunks c.args.at) =
    ap (λ (xs : List g.row.T.Denot). first ++ xs) c.remove.ensures.items
    ∙ taken_from_others first c.self.inside.others.chunks c.args.at.chunk c.args.at.offset
    (omega (arith, c.if-at-gt0.true)) in
    let less : length (first ++ all_items c.remove.new.self.chunks) + 1 ≡ length (all_items chunks) =
    ap (λ (xs : List g.row.T.Denot). length xs + 1) left
    ∙ length-remove (all_items chunks) (items_before chunks c.args.at) (counted g there) in (
      search rules,
      record {
        counted = omega (arith, less, c.self.invariant.1.counted);
        fits = omega (arith, c.self.invariant.1.fits);
      },
    )

pub returns-then-at-gt0-clause-items : goal.returns-then-at-gt0-clause-items
returns-then-at-gt0-clause-items g c =
    let first = c.self.inside.first.items in
    ap (λ (xs : List g.row.T.Denot). first ++ xs) c.remove.ensures.items
    ∙ taken_from_others first c.self.inside.others.chunks c.args.at.chunk c.args.at.offset
    (omega (arith, c.if-at-gt0.true))
    ∙ ap (λ (v : ChunkListValue g.row.T.Denot). remove (items_of v) (items_before v.chunks c.args.at))
    c.self.view_is

pub returns-else-at-gt0-clause-items : goal.returns-else-at-gt0-clause-items
returns-else-at-gt0-clause-items g c =
    let there = (goal.at.returns-else-at-gt0-clause-items g c).After-self in
    let chunks = c.self.inside.first.items ∷ c.self.inside.others.chunks in
    let none : c.args.at.chunk ≡ 0 = omega (arith, c.if-at-gt0.false) in
    let within : c.args.at.offset < length c.self.inside.first.items =
    subst (λ n. c.args.at.offset < length (chunk_at chunks n)) none (has_item g there) in
    ap (λ (xs : List g.row.T.Denot). xs ++ all_items c.self.inside.others.chunks)
    c.remove-else-at-gt0.ensures.items
    ∙ removed_from chunks 0 c.args.at.offset within
    ∙ ap (λ n. remove (all_items chunks) (items_passed chunks n + c.args.at.offset)) (sym none)
    ∙ ap (λ (v : ChunkListValue g.row.T.Denot). remove (items_of v) (items_before v.chunks c.args.at))
    c.self.view_is
