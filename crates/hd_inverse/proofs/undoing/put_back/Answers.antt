use Rattle.std.proofs.Common.{arith, rules}
use Rattle.hd_inverse.proofs.Backward.{undoing_start, undoing_next, undoing_on, undoing_end}
use Rattle.hd_inverse.proofs.undoing.put_back.Goals as goal

pub loop-change-init : goal.loop-change-init
loop-change-init g c =
    undoing_start _ _ _ _ _ _ (search rules) c.requires.known c.requires.apart c.requires.room c.requires.fit

pub put-requires-clause-known : goal.put-requires-clause-known
put-requires-clause-known g c =
    (undoing_next _ _ _ _ _ _ _ _ _ _ _ c.loop-change.invariant c.in-Some.ensures.steps).known

pub put-requires-clause-room : goal.put-requires-clause-room
put-requires-clause-room g c =
    g.met.C.Cells.fewer _ _ _ 1 _ (omega arith)
    (undoing_next _ _ _ _ _ _ _ _ _ _ _ c.loop-change.invariant c.in-Some.ensures.steps).room

pub put-requires-clause-fit : goal.put-requires-clause-fit
put-requires-clause-fit g c =
    (undoing_next _ _ _ _ _ _ _ _ _ _ _ c.loop-change.invariant c.in-Some.ensures.steps).fit

pub loop-change-preserved : goal.loop-change-preserved
loop-change-preserved g c =
    undoing_on _ _ _ _ _ _ _ _ _ _ _ _ _ _ _ c.loop-change.invariant c.in-Some.ensures.steps
    c.put.ensures.desk c.put.ensures.contents
    c.put.ensures.room c.add.ensures

pub returns-clause-desk : goal.returns-clause-desk
returns-clause-desk g c =
    (undoing_end _ _ _ _ _ _ _ _ _ c.loop-change.invariant c.in-None.ensures.steps.0).desk

pub returns-clause-contents : goal.returns-clause-contents
returns-clause-contents g c =
    (undoing_end _ _ _ _ _ _ _ _ _ c.loop-change.invariant c.in-None.ensures.steps.0).same

pub returns-clause-counted : goal.returns-clause-counted
returns-clause-counted g c =
    (undoing_end _ _ _ _ _ _ _ _ _ c.loop-change.invariant c.in-None.ensures.steps.0).counted
