-- Why a turn isn't made, and how it is told.
use Rattle.std.specs.Prelude.{◌≡◌, ℕ, List, codes}
use Rattle.hd_journal.specs.declared.fault.TurnFault.{TurnFault}
use Rattle.hd_journal.specs.declared.fault.TurnFault.TheVariants as fault
use Rattle.hd_journal.specs.declared.fault.WriteFault.{WriteFault}
use Rattle.hd_journal.specs.declared.fault.WriteFault.TheVariants as write

-- of a journal alone: memory, and nothing else
abbrev pub IsMemory : TurnFault → Type 0
IsMemory why = why ≡ fault.Memory

-- of a journal whose turns outlive a stop: memory, or that a turn couldn't be written
abbrev pub IsMemoryOrUnwritten : TurnFault → Type 0
IsMemoryOrUnwritten fault.Memory = Unit {0}
IsMemoryOrUnwritten (fault.Estranged front) = ⊥
IsMemoryOrUnwritten (fault.Unwritten why) = Unit {0}

-- of a look: anything but memory, since it takes none
abbrev pub IsNotMemory : TurnFault → Type 0
IsNotMemory fault.Memory = ⊥
IsNotMemory (fault.Estranged front) = Unit {0}
IsNotMemory (fault.Unwritten why) = Unit {0}

-- the words that an operator reads
abbrev pub write_fault_text : WriteFault → List ℕ
write_fault_text write.Memory = codes "out of memory"
write_fault_text write.DiskFull = codes "the disk is full"
write_fault_text write.Refused = codes "the system refuses the write"
