-- How the calls of the service end.
use Rattle.std.specs.Prelude.{◌≡◌, ℕ, List, Result, Ok, Err}
use Rattle.hd_connection.specs.Streams.{Streams}
use Rattle.hd_replay.specs.Ends.{IsReplayOf}
use Rattle.hd_replay.specs.Reasons as replays
use Rattle.hd_serve.specs.declared.fault.ServeFault.{ServeFault}
use Rattle.hd_server.specs.declared.fault.ServerFault.{ServerFault}
use Rattle.hd_server.specs.declared.fault.ServerFault.TheVariants.{Replay, Serve}

-- what replaying an input results in, whose fault is reported as a replay's; it never ends as a server does
abbrev pub IsReplay : List ℕ → List ℕ → Streams → Result (Unit {0}) ServerFault → Type 0
IsReplay file present bytes (Ok _) = IsReplayOf file present bytes (Ok tt)
IsReplay file present bytes (Err (Replay fault)) = IsReplayOf file present bytes (Err fault)
IsReplay file present bytes (Err (Serve fault)) = ⊥

-- a fault of a replay has a reason, of its reader or its writer
abbrev pub HasReason : Type 0 → Type 0 → ServerFault → Type 0
HasReason reader writer (Replay fault) = replays.HasReason reader writer fault
HasReason reader writer (Serve fault) = ⊥

-- the fault is a server's
abbrev pub IsOfServe : ServerFault → Type 0
IsOfServe fault = (why : ServeFault) × (fault ≡ Serve why)
