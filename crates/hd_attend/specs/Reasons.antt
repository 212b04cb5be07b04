-- Why a connection isn't attended to any longer, where a read or a write fails.
use Rattle.std.specs.Prelude.{⊤}
use Rattle.hd_attend.specs.declared.fault.AttendFault.{AttendFault}
use Rattle.hd_attend.specs.declared.fault.AttendFault.TheVariants as fault

-- A fault has a reason: that a read failed has the reader's, and that a write failed the writer's. That the
-- session has ended is of neither.
abbrev pub HasReason : Type 0 → Type 0 → AttendFault → Type 0
HasReason reader writer fault.Read = reader
HasReason reader writer fault.Write = writer
HasReason reader writer (fault.Ended why) = ⊤
