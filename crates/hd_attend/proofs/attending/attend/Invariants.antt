use Rattle.std.proofs.Common.{◌≡◌, Err, List}
use Rattle.hd_connection.specs.Streams.{streams}
use Rattle.hd_exchange.specs.Deeds.{Deed}
use Rattle.hd_exchange.specs.Works.{Works}
use Rattle.hd_attend.specs.Attending.{Attends}
use Rattle.hd_attend.specs.declared.fault.AttendFault.TheVariants.{Read}
use Rattle.hd_attend.proofs.attending.attend.Given as goal

-- what was read is answered, and the session is as open as at the beginning: so it ends where a read fails
-- now
abbrev pub invariant-loop : goal.invariant-loop
invariant-loop g l = record {
  attends : (did : List Deed) × Works g.O.Office l.fn.office l.announced.office.now did
      × Attends (g.O.Office.keeps l.fn.office).contents (g.O.Office.keeps l.fn.office).seat g.O.Office.faults
      (g.S.Surroundings.tells l.surroundings) (g.L.SessionLog.entries l.fn.log) (g.L.SessionLog.entries l.log)
      (streams (g.I.Read.remaining l.fn.from) (g.I.Read.remaining l.from) (g.W.Write.contents l.fn.to)
      (g.W.Write.contents l.to))
      did l.fn.state l.state (Err Read);
  same_reference : l.announced.office.ghost_name ≡ l.initial.announced.office.ghost_name;
}
