-- How long a connection is waited for.
use Rattle.std.specs.Prelude.{◌≡◌, ◌⊎◌, ℕ, ◌*◌, ◌<◌, Bool, true, false, Option, Some, None, IsTrue, IsFalse}
use Rattle.std.specs.Duration.{as_nanos}
use Rattle.std.specs.declared.time.Duration.{Duration}
use Rattle.std.specs.declared.io.ErrorKind.{ErrorKind}
use Rattle.std.specs.declared.io.ErrorKind.TheVariants.{WouldBlock, TimedOut}
use Rattle.hd_serve.specs.Ends.{is_to_end}
use Rattle.hd_serve.specs.declared.standing.Course.{Course}

-- a call failed that had waited for as long as it may
abbrev pub is_late : ErrorKind → Bool
is_late WouldBlock = true
is_late TimedOut = true
is_late kind = false

-- A write that failed in this way is tried again, at a server on this course, behind so many seconds in which
-- nothing was taken: it had waited for as long as it may, the server is to go on, and the connection may be
-- idle for longer; with 0 it may be for ever.
abbrev pub IsWaitedFor : Course → ErrorKind → ℕ → ℕ → Type 0
IsWaitedFor course kind seconds idle =
    IsTrue (is_late kind) × IsFalse (is_to_end course) × ((idle ≡ 0) ⊎ (seconds < idle))

-- A read waits for so many seconds at most as a connection may be idle; with 0 it may wait for ever.
abbrev pub IsLongestWait : ℕ → Option Duration → Type 0
IsLongestWait idle None = idle ≡ 0
IsLongestWait idle (Some wait) = (0 < idle) × (as_nanos wait ≡ idle * 1_000_000_000)
