-- Which connections are accepted.
use Rattle.std.specs.Prelude.{◌≡◌, ◌⊎◌, ◌||◌, ◌<◌, ◌≤◌, nat_lt, ℕ, Bool, true, false, if◌then◌else◌}
use Rattle.std.specs.Prelude.{Option, Some, None, Result, Ok, Err, IsErr, IsFalse}
use Rattle.hd_journal.specs.declared.fault.WriteFault.{WriteFault}
use Rattle.hd_serve.specs.declared.accepting.Arrival.{Arrival}
use Rattle.hd_serve.specs.declared.accepting.Arrival.TheVariants as arrivals
use Rattle.hd_serve.specs.declared.failed.Failed.{Failed}
use Rattle.hd_serve.specs.declared.failed.Failed.TheVariants.{Lost, ForNow, ForGood}
use Rattle.hd_serve.specs.declared.fault.ServeFault.{ServeFault}
use Rattle.hd_serve.specs.declared.fault.ServeFault.TheVariants.{CannotListen, Unwritten}
use Rattle.hd_serve.specs.declared.standing.Course.{Course}
use Rattle.hd_serve.specs.Ends.{is_to_end}

-- What the port gave, where so many accepts failed before it in a row, and so many connections are open: a
-- connection is served; where one was lost the next is waited for; where something is lacking it is tried
-- again as long as a connection is open that may give it back, and else 16 times in a row at most; any other
-- failure ends the accepting.
abbrev pub served : {X : Type 0} → Result X Failed → ℕ → ℕ → Result (Arrival X) ServeFault
served (Ok connection) failed others = Ok (arrivals.Connection connection)
served (Err Lost) failed others = Ok arrivals.Again
served (Err ForNow) failed others =
    if nat_lt 0 others || nat_lt failed 16 then Ok arrivals.Again else Err CannotListen
served (Err ForGood) failed others = Err CannotListen

-- Where the journal can't be written that is reported first; a server that was asked to end accepts no more.
abbrev pub received_on : {X : Type 0} → Option WriteFault → Bool → Result X Failed → ℕ → ℕ
    → Result (Arrival X) ServeFault
received_on (Some why) asked came failed others = Err (Unwritten why)
received_on None true came failed others = Ok arrivals.End
received_on None false came failed others = served came failed others

-- on the course that the server takes
abbrev pub received : {X : Type 0} → Course → Result X Failed → ℕ → ℕ → Result (Arrival X) ServeFault
received course came failed others = received_on course.unwritten course.is_asked came failed others

-- A failed accept is told, behind so many in a row that failed too: the first is, and the one that ends the
-- accepting; but of a server that is to end none, since its port was shut.
abbrev pub IsToldFailed : {X : Type 0} → Course → ℕ → Result (Arrival X) ServeFault → Type 0
IsToldFailed course failed arrival =
    IsFalse (is_to_end course) × ((failed ≡ 0) ⊎ IsErr arrival)

-- a fault that ends the accepting: it is never out of memory then
abbrev pub IsOfAccepting : ServeFault → Type 0
IsOfAccepting CannotListen = Unit {0}
IsOfAccepting (Unwritten why) = Unit {0}
IsOfAccepting fault = ⊥

-- the connection of this number, from 1, is the last of so many; of 0, which is no limit, none is
abbrev pub IsLast : ℕ → ℕ → Type 0
IsLast number connections = (0 < connections) × (connections ≤ number)
