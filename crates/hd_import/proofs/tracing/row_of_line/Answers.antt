use Rattle.std.proofs.Common.{ap, arith, length}
use Rattle.std.proofs.Math.Nat.{min-le_left, min-le_right}
use Rattle.hd_import.proofs.FaultLemmas.{sheet_at}
use Rattle.hd_import.proofs.TraceLemmas.{no_row_after}
use Rattle.hd_import.proofs.tracing.row_of_line.Goals as goal

pub returns-then-left-counts-clause-found : goal.returns-then-left-counts-clause-found
returns-then-left-counts-clause-found c = (
  c.loop-index.index,
  omega (arith, min-le_left),
  sheet_at c.all_sheets-sheets.result.now c.loop-index.index _ c.all_sheets-sheets.ensures
      (omega (arith, min-le_right)),
  c.if-left-counts.true,
  c.loop-index.invariant,
)

pub returns-clause-none : goal.returns-clause-none
returns-clause-none c =
    let five = ap length c.all_sheets-sheets.ensures in
    no_row_after c.args.counts.now c.args.line c.loop-index.index c.loop-index.left
    (omega (arith, five, c.min-index-end.ensures)) c.loop-index.invariant
