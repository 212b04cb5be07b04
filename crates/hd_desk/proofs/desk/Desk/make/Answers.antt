use Rattle.std.proofs.Common.{arith}
use Rattle.hd_desk.proofs.Making.{making-start, making-next, making-on, making-end}
use Rattle.hd_desk.proofs.desk.Desk.make.Goals as goal

pub loop-change-init : goal.loop-change-init
loop-change-init g c = making-start _ _ _ c.requires.known c.requires.apart c.requires.room c.requires.fit

pub put-requires-clause-known : goal.put-requires-clause-known
put-requires-clause-known g c =
    (making-next _ _ _ _ _ _ _ c.loop-change.invariant c.loop-change-test.true c.change-item.is).known

pub put-requires-clause-room : goal.put-requires-clause-room
put-requires-clause-room g c =
    (making-next _ _ _ _ _ _ _ c.loop-change.invariant c.loop-change-test.true c.change-item.is).room

pub put-requires-clause-fit : goal.put-requires-clause-fit
put-requires-clause-fit g c =
    (making-next _ _ _ _ _ _ _ c.loop-change.invariant c.loop-change-test.true c.change-item.is).fit

pub loop-change-preserved : goal.loop-change-preserved
loop-change-preserved g c =
    making-on _ _ _ _ _ _ _ _ _ c.loop-change.invariant c.loop-change-test.true c.change-item.is
    c.put.ensures.desk c.put.ensures.contents
    c.put.ensures.room c.add.ensures

pub returns-clause-desk : goal.returns-clause-desk
returns-clause-desk g c = (making-end _ _ _ _ _ _ c.loop-change.invariant (omega arith)).desk

pub returns-clause-contents : goal.returns-clause-contents
returns-clause-contents g c = (making-end _ _ _ _ _ _ c.loop-change.invariant (omega arith)).same

pub returns-clause-meter : goal.returns-clause-meter
returns-clause-meter g c = (making-end _ _ _ _ _ _ c.loop-change.invariant (omega arith)).counted
