-- What ends a server and its connections.
use Rattle.std.specs.Prelude.{◌≡◌, ◌⊎◌, ◌||◌, ℕ, ◌-◌, ◌/◌, ◌≤◌, Bool, true, false, Option, Some, None}
use Rattle.std.specs.Prelude.{Result, Ok, Err, is_some, if◌then◌else◌}
use Rattle.hd_journal.specs.declared.fault.TurnFault.{TurnFault}
use Rattle.hd_journal.specs.declared.fault.TurnFault.TheVariants as turn
use Rattle.hd_journal.specs.declared.fault.WriteFault.{WriteFault}
use Rattle.hd_session.specs.declared.ended.Ended.{Ended}
use Rattle.hd_session.specs.declared.ended.Ended.TheVariants as session
use Rattle.hd_attend.specs.declared.fault.AttendFault.{AttendFault}
use Rattle.hd_attend.specs.declared.fault.AttendFault.TheVariants as connection
use Rattle.hd_log.specs.declared.event.End.{End}
use Rattle.hd_log.specs.declared.event.End.TheVariants as told
use Rattle.hd_serve.specs.declared.fault.ServeFault.{ServeFault}
use Rattle.hd_serve.specs.declared.fault.ServeFault.TheVariants.{NotClosed, Unwritten}
use Rattle.hd_serve.specs.declared.standing.Course.{Course}

-- a session ends the server where a turn of it couldn't be written, and for no other reason
abbrev pub stop_of : Option Ended → Option WriteFault
stop_of (Some (session.Turn (turn.Unwritten why))) = Some why
stop_of end = None

-- what is told of a turn that wasn't made
abbrev pub end_of_turn : TurnFault → End
end_of_turn turn.Memory = told.Memory
end_of_turn (turn.Unwritten why) = told.Unwritten
end_of_turn fault = told.Estranged

-- a server is to end where it was asked to, or its journal can't be written
abbrev pub is_to_end : Course → Bool
is_to_end course = course.is_asked || is_some course.unwritten

-- What is told of why a connection ended of which no more came: its server's journal can't be written, or
-- else it was asked to end, or else the other side ended it.
abbrev pub end_on : Option WriteFault → Bool → End
end_on (Some why) asked = told.Unwritten
end_on None true = told.Stop
end_on None false = told.Peer

-- a connection that has waited is begun, or, at a server that is to end, closed for that reason
abbrev pub begun : Course → Result (Unit {0}) End
begun course = if is_to_end course then Err (end_on course.unwritten course.is_asked) else Ok tt

-- What is told of why a connection was closed that was given no place: its server, on this course, is to end,
-- or else memory ran out.
abbrev pub end_without_place : Course → End
end_without_place course =
    if is_to_end course then end_on course.unwritten course.is_asked else told.Memory

-- What is told of why a connection ended, whose last read waited for too long or not, at a server on this
-- course.
abbrev pub end_of : Result (Unit {0}) AttendFault → Bool → Course → End
end_of (Ok _) idle course = end_on course.unwritten course.is_asked
end_of (Err connection.Read) true course = told.Idle
end_of (Err connection.Read) false course = told.Read
end_of (Err connection.Write) idle course = told.Write
end_of (Err (connection.Ended session.TooLong)) idle course = told.LongLine
end_of (Err (connection.Ended (session.Turn fault))) idle course = end_of_turn fault

-- nine tenths of so many numbers have been given, of which this is the last
abbrev pub AreFew : ℕ → ℕ → Type 0
AreFew last most = most - most / 10 ≤ last

-- of two reasons to stop the first is reported
abbrev pub first_reason : Option WriteFault → WriteFault → WriteFault
first_reason None why = why
first_reason (Some before) why = before

-- What a server answers whose hall has closed: the fault of its accepting, or else why its journal couldn't
-- be written, or else the closed hall.
abbrev pub answered : {T : Type 0} → Result (Unit {0}) ServeFault → Option WriteFault → T
    → Result T ServeFault
answered (Err fault) unwritten closed = Err fault
answered (Ok _) (Some why) closed = Err (Unwritten why)
answered (Ok _) None closed = Ok closed

-- What is told at the end of a server, where its accepting ended so and its journal couldn't be written for
-- this reason, or could: that its hall doesn't close, or what it answers with the closed hall.
abbrev pub IsEnd : {T : Type 0} → Result (Unit {0}) ServeFault → Option WriteFault → Result T ServeFault
    → Type 0
IsEnd {T = T} accepted unwritten end =
    (end ≡ Err NotClosed) ⊎ ((closed : T) × (end ≡ answered accepted unwritten closed))
