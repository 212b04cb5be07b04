use Rattle.hd_desk.proofs.Making.{readying-start, readying-next, readying-on, still-known, lacking, on-err}
use Rattle.hd_desk.proofs.cells.DeskCells.ready.Goals as goal

pub loop-change-init : goal.loop-change-init
loop-change-init g c = readying-start _ _ c.requires

pub ready_cell-requires : goal.ready_cell-requires
ready_cell-requires g c =
    (readying-next _ _ _ _ _ c.loop-change.invariant c.loop-change-test.true c.change-item.is).old

pub ready_cell-requires-in-loop-change : goal.ready_cell-requires-in-loop-change
ready_cell-requires-in-loop-change g c =
    still-known _ _ _ _ (record {
      desk = c.in_ok-ready_cell.ensures.desk;
      same = c.in_ok-ready_cell.ensures.contents;
      kept = c.in_ok-ready_cell.ensures.room;
    }) (readying-next _ _ _ _ _ c.loop-change.invariant c.loop-change-test.true c.change-item.is).new

pub loop-change-preserved : goal.loop-change-preserved
loop-change-preserved g c =
    readying-on _ _ _ _ _ _ _ c.loop-change.invariant c.loop-change-test.true c.change-item.is (record {
      desk = c.in_ok-ready_cell.ensures.desk;
      same = c.in_ok-ready_cell.ensures.contents;
      kept = c.in_ok-ready_cell.ensures.room;
    }) (record {
      desk = c.in_ok-ready_cell-2.ensures.desk;
      same = c.in_ok-ready_cell-2.ensures.contents;
      kept = c.in_ok-ready_cell-2.ensures.room;
    }) c.in_ok-ready_cell.ensures.ok c.in_ok-ready_cell-2.ensures.ok

pub returns-in_err-ready_cell-clause-full : goal.returns-in_err-ready_cell-clause-full
returns-in_err-ready_cell-clause-full g c =
    on-err _ (lacking _ _ _ _ _ c.loop-change.invariant c.loop-change-test.true c.change-item.is
    (λ old new. c.in_err-ready_cell.ensures.full old))

pub returns-in_err-ready_cell-2-clause-full : goal.returns-in_err-ready_cell-2-clause-full
returns-in_err-ready_cell-2-clause-full g c =
    on-err _ (lacking _ _ _ _ _ c.loop-change.invariant c.loop-change-test.true c.change-item.is
    (λ old new. c.in_err-ready_cell-2.ensures.full (c.in_ok-ready_cell.ensures.room _ _ _ new)))
