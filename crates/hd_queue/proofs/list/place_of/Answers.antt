use Rattle.std.proofs.Common.{◌≡◌, ◌∷◌, ◌∙◌, List, ap, arith, length, subst, sym}
use Rattle.hd_blocks.specs.Blocks.{all_items}
use Rattle.hd_chunks.specs.Chunks.{chunk_at}
use Rattle.hd_rules.specs.declared.holds.Hold.{Hold}
use Rattle.hd_queue.specs.Holds.{IsInOrder, count_before}
use Rattle.hd_queue.proofs.ChunksLemmas.{Stands, chunk_in_order, count_within, others_in_order, stands}
use Rattle.hd_queue.proofs.list.place_of.Given.{Over}
use Rattle.hd_queue.proofs.list.place_of.Goals.{After-parts}
use Rattle.hd_queue.proofs.list.place_of.Goals as goal

-- the holds of the first chunk and of the others are in order
ordered : (g : Over) (c : After-parts g) → IsInOrder (all_items (c.parts.result.0.now ∷ c.parts.result.1.now))
ordered g c = subst (λ (cs : List (List Hold)). IsInOrder (all_items cs)) c.parts.ensures.chunks c.requires

pub chunk_of-chunk-requires-clause-ordered : goal.chunk_of-chunk-requires-clause-ordered
chunk_of-chunk-requires-clause-ordered g c =
    let there = (goal.at.chunk_of-chunk-requires-clause-ordered g c).After-parts in
    others_in_order c.parts.result.0.now (all_items c.parts.result.1.now) (ordered g there)

pub before_in-offset-requires : goal.before_in-offset-requires
before_in-offset-requires g c =
    subst (λ (hs : List Hold). IsInOrder hs) (sym c.chunk.ensures)
    (chunk_in_order c.args.list.now.chunks c.chunk_of-chunk.result c.requires)

pub returns : goal.returns
returns g c =
    let chunks = c.args.list.now.chunks in
    let number = c.chunk_of-chunk.result in
    let first = c.parts.result.0.now in
    let others = c.parts.result.1.now in
    let there = (goal.at.returns g c).After-parts in
    let stands = subst (λ (cs : List (List Hold)). Stands cs number c.args.stamp) (sym c.parts.ensures.chunks)
    (stands first others number c.args.stamp (ordered g there)
    c.parts.ensures.some c.chunk_of-chunk.ensures.within c.chunk_of-chunk.ensures.point) in
    let own : c.before_in-offset.result ≡ count_before (chunk_at chunks number) c.args.stamp =
    c.before_in-offset.ensures.count
    ∙ ap (λ (hs : List Hold). count_before hs c.args.stamp) c.chunk.ensures in
    record {
      stands = record {
        there = omega (
          arith,
          ap (λ (cs : List (List Hold)). length cs) c.parts.ensures.chunks,
          c.chunk_of-chunk.ensures.within,
        );
        within = omega (arith, own, count_within (chunk_at chunks number) c.args.stamp);
      };
      count = omega (arith, own, stands.count);
      own = own;
      found = stands.found;
    }
