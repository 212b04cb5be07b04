-- Why a replay stops at a read or a write.
use Rattle.std.specs.Prelude.{⊤}
use Rattle.hd_replay.specs.declared.fault.ReplayFault.{ReplayFault}
use Rattle.hd_replay.specs.declared.fault.ReplayFault.TheVariants.{Read, Write}

-- A fault has a reason: that a read failed has the reader's, and that a write failed the writer's. The other
-- faults are of neither.
abbrev pub HasReason : Type 0 → Type 0 → ReplayFault → Type 0
HasReason reader writer Read = reader
HasReason reader writer Write = writer
HasReason reader writer fault = ⊤
