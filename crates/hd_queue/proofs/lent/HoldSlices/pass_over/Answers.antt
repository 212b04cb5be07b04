use Rattle.std.proofs.Common.{◌≡◌, ◌∙◌, ◌∷◌, ◌++◌, List, ap, arith, filter, length, length-append, sym}
use Rattle.std.proofs.lemmas.List.Elements.{All-rest}
use Rattle.hd_blocks.specs.Blocks.{all_items}
use Rattle.hd_chunks.specs.Chunks.{has_some}
use Rattle.hd_rules.specs.declared.holds.Hold.{Hold}
use Rattle.hd_queue.specs.Wanted.{is_picked_up_at}
use Rattle.hd_queue.proofs.WaitingLemmas.{passed_over}
use Rattle.hd_queue.proofs.lent.HoldSlices.pass_over.Goals as goal

pub loop-chunk-preserved : goal.loop-chunk-preserved
loop-chunk-preserved g c =
    let was = c.loop-chunk.invariant in
    let chunk = c.in-Some.chunk.now in
    let others = c.in-Some.others.now in
    let parts : c.loop-chunk.self-inside.chunks.now ≡ chunk ∷ others = c.in-Some.ensures.cases.0 in
    let none = passed_over chunk (all_items others) c.args.pickup c.mark_of.result c.mark_of.ensures
    (c.may_have.ensures c.if-may_have.false) in
    let all : length (all_items c.loop-chunk.self-inside.chunks.now) ≡ length (chunk ++ all_items others) =
    ap (λ (cs : List (List Hold)). length (all_items cs)) parts in (
      was.0,
      All-rest has_some chunk others c.loop-chunk.self-inside.chunks.now parts was.1,
      sym none
          ∙ ap (λ (cs : List (List Hold)). filter (is_picked_up_at c.args.pickup) (all_items cs)) (sym parts)
          ∙ was.2,
      omega (arith, was.3, all, length-append chunk (all_items others)),
    )
