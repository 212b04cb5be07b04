use Rattle.std.proofs.Common.{◌≡◌, ◌+◌, ◌∙◌, ◌∷◌, [], List, All, ap, arith, insert, rules, set, subst, sym}
use Rattle.std.proofs.lemmas.Grind.{common_steps}
use Rattle.hd_blocks.specs.Blocks.{all_items}
use Rattle.hd_chunks.specs.Chunks.{ChunksValue, has_some, items_passed}
use Rattle.hd_chunks.proofs.ChunkLemmas.{chunk_is, inserted_before, inserted_in, some_inserted}
use Rattle.hd_chunks.proofs.chunks.Chunks.insert_before.Given.{Over}
use Rattle.hd_chunks.proofs.chunks.Chunks.insert_before.Goals.{After-insert-2}
use Rattle.hd_chunks.proofs.chunks.Chunks.insert_before.Goals as goal

pub returns-then-has_room-clause-items : goal.returns-then-has_room-clause-items
returns-then-has_room-clause-items g c =
    let chunks = c.self.inside.chunks.items in
    let number = c.args.number in
    let here = chunk_is chunks number c.index_mut.result.now (search rules) c.index_mut.ensures.value in
    let put = c.insert.ensures ∙ ap (λ (xs : List g.row.T.Denot). insert xs 0 c.args.item) here in
    let none : items_passed chunks number + 0 ≡ items_passed chunks number = omega arith in
    ap (λ (xs : List g.row.T.Denot). all_items (set chunks number xs)) put
    ∙ inserted_in chunks number 0 c.args.item (search rules) (omega arith)
    ∙ ap (λ n. insert (all_items chunks) n c.args.item) none
    ∙ ap (λ (v : ChunksValue g.row.T.Denot). insert (all_items v.chunks) (items_passed v.chunks number)
    c.args.item) c.self.view_is

-- the new chunk stands before the others
begun : (g : Over) (c : After-insert-2 g)
    → c.insert-2.new.self.items ≡ insert c.self.inside.chunks.items c.args.number (c.args.item ∷ [])
begun g c = grind (arith, common_steps)

pub invariant_of-self-2 : goal.invariant_of-self-2
invariant_of-self-2 g c =
    let there = (goal.at.invariant_of-self-2 g c).After-insert-2 in
    let chunks = c.self.inside.chunks.items in (
      subst (λ (ps : List (List g.row.T.Denot)). All has_some ps) (sym (begun g there))
          (some_inserted chunks c.args.number (c.args.item ∷ []) c.self.invariant.0 (omega arith)),
      search rules,
    )

pub returns-clause-items : goal.returns-clause-items
returns-clause-items g c =
    let there = (goal.at.returns-clause-items g c).After-insert-2 in
    let number = c.args.number in
    ap all_items (begun g there)
    ∙ inserted_before c.self.inside.chunks.items number c.args.item (search rules)
    ∙ ap (λ (v : ChunksValue g.row.T.Denot). insert (all_items v.chunks) (items_passed v.chunks number)
    c.args.item) c.self.view_is
