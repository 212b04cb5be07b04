use Rattle.std.proofs.Common.{[], ◌∷◌, ◌++◌, ◌∙◌, take}
use Rattle.std.proofs.lemmas.List.{take_more}
use Rattle.hd_opening.specs.Files.{heading_line}
use Rattle.hd_opening.proofs.WriteLemmas.{line_more, lines_push}
use Rattle.hd_opening.proofs.writing.opening_text.Goals as goal

pub loop-row-preserved : goal.loop-row-preserved
loop-row-preserved g c =
    let k = c.args.catalogue.now in
    let rows = c.args.rows.now in
    let at = c.loop-row.row-index in
    let row = c.row-item.result in
    let head = heading_line c.args.digest.now c.args.last in
    let lines = c.loop-row.invariant.0 in
    let line = c.in_ok-put_row.ensures.0 in
    let more = take_more rows at row c.loop-row-test.true in
    rw (more, ← c.row-item.is) (
      lines ++ (line ++ 10 ∷ []),
      lines_push k (take at rows) lines row line c.loop-row.invariant.1 c.in_ok-put_row.ensures.1,
      c.in_ok-put_row.ensures.2 ∙ line_more head lines line c.loop-row.out.items c.loop-row.invariant.2,
    )
