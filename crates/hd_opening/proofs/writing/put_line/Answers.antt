use Rattle.std.proofs.Common.{[], ◌∷◌, ◌++◌, ap, ◌∙◌, take}
use Rattle.std.proofs.lemmas.List.{take_more}
use Rattle.hd_opening.proofs.WriteLemmas.{behind_more, texts_push}
use Rattle.hd_opening.proofs.writing.put_line.Goals as goal

pub loop-piece-preserved : goal.loop-piece-preserved
loop-piece-preserved g c =
    let k = c.args.catalogue.now in
    let pieces = c.args.pieces.now in
    let at = c.loop-piece.piece-index in
    let piece = c.piece-item.result in
    let start = c.args.out.now.items ++ c.args.letter ∷ [] in
    let texts = c.loop-piece.invariant.0 in
    let text = c.in_ok-put.ensures.0 in
    let more = take_more pieces at piece c.loop-piece-test.true in
    rw (more, ← c.piece-item.is) (
      texts ++ text ∷ [],
      texts_push k (take at pieces) texts piece text c.loop-piece.invariant.1 c.in_ok-put.ensures.1,
      c.in_ok-put.ensures.2 ∙ ap (λ o. o ++ text) {x = c.push-in-loop-piece.new.self.items} {y =
          c.loop-piece.out.items ++ 124 ∷ []} c.in_ok-push-2.ensures.items
          ∙ behind_more start c.loop-piece.out.items texts text c.loop-piece.invariant.2,
    )
