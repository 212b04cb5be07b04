use Rattle.std.proofs.Common.{◌≡◌, ◌+◌, ◌∙◌, ◌++◌, List, All, ap, arith, get_or, length, length-append}
use Rattle.std.proofs.Common.{remove, rules, set, subst, suc, sym}
use Rattle.std.proofs.lemmas.List.Edits.{get_or-remove_below}
use Rattle.std.proofs.lemmas.List.Elements.{All-get_or, All-set}
use Rattle.hd_blocks.specs.Blocks.{all_items}
use Rattle.hd_chunks.specs.Chunks.{ChunksValue, chunk_at, has_some}
use Rattle.hd_chunks.proofs.ChunkLemmas.{chunk_is, joined_next, some_removed}
use Rattle.hd_chunks.proofs.chunks.Chunks.join.Given.{Over}
use Rattle.hd_chunks.proofs.chunks.Chunks.join.Goals.{After-append}
use Rattle.hd_chunks.proofs.chunks.Chunks.join.Goals as goal

-- the chunk has its items, and those of the next
joined : (g : Over) (c : After-append g) → c.append.new.self
    ≡ chunk_at c.self.inside.chunks.items c.args.number ++ chunk_at c.self.inside.chunks.items
    (suc c.args.number)
joined g c =
    let chunks = c.self.inside.chunks.items in
    let number = c.args.number in
    let here = c.index_mut.result.now in
    let next : number + 1 ≡ suc number = omega arith in
    let own : here ≡ chunk_at chunks number =
    chunk_is chunks number here (search rules) (c.index_mut.ensures.value
    ∙ ap (λ (ps : List (List g.row.T.Denot)). get_or ps number here) c.remove-chunk.ensures.items
    ∙ get_or-remove_below chunks (number + 1) here number (omega arith) (search rules)) in
    let other : c.remove-chunk.result ≡ chunk_at chunks (suc number) =
    chunk_is chunks (number + 1) c.remove-chunk.result (search rules) c.remove-chunk.ensures.value
    ∙ ap (chunk_at chunks) next in
    c.append.ensures
    ∙ ap (λ (xs : List g.row.T.Denot). xs ++ c.remove-chunk.result) own
    ∙ ap (λ (xs : List g.row.T.Denot). chunk_at chunks number ++ xs) other

pub invariant_of-self : goal.invariant_of-self
invariant_of-self g c =
    let chunks = c.self.inside.chunks.items in
    let left = c.remove-chunk.new.self.items in
    let here = c.index_mut.result.now in
    let are : All has_some left =
    subst (λ (ps : List (List g.row.T.Denot)). All has_some ps) (sym c.remove-chunk.ensures.items)
    (some_removed chunks (c.args.number + 1) c.self.invariant.0) in
    let some : has_some here =
    subst (λ (xs : List g.row.T.Denot). has_some xs) (sym c.index_mut.ensures.value)
    (All-get_or has_some left c.args.number here (search rules) are) in
    let more : has_some c.append.new.self =
    omega (
      arith,
      some,
      length-append here c.remove-chunk.result,
      ap (λ (xs : List g.row.T.Denot). length xs)
          c.append.ensures,
    ) in
    (All-set has_some left c.args.number c.append.new.self more are, search rules)

pub returns-then-has_few-2-clause-items : goal.returns-then-has_few-2-clause-items
returns-then-has_few-2-clause-items g c =
    let there = (goal.at.returns-then-has_few-2-clause-items g c).After-append in
    let chunks = c.self.inside.chunks.items in
    let number = c.args.number in
    let left = c.remove-chunk.new.self.items in
    let next : number + 1 ≡ suc number = omega arith in
    let both = chunk_at chunks number ++ chunk_at chunks (suc number) in
    ap (λ (xs : List g.row.T.Denot). all_items (set left number xs)) (joined g there)
    ∙ ap (λ (ps : List (List g.row.T.Denot)). all_items (set ps number both)) (c.remove-chunk.ensures.items
    ∙ ap (λ n. remove chunks n) next)
    ∙ joined_next chunks number (search rules)
    ∙ ap (λ (v : ChunksValue g.row.T.Denot). all_items v.chunks) c.self.view_is
