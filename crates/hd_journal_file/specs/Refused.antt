-- Why a turn isn't committed to a file.
use Rattle.std.specs.Prelude.{◌≡◌, ◌⊎◌, ℕ, None}
use Rattle.sqlite.specs.declared.error.ErrorCode.TheVariants as code
use Rattle.sqlite.specs.declared.error.Error.{Error}
use Rattle.sqlite.specs.declared.error.Error.TheVariants.{SqliteFailure}
use Rattle.sqlite.specs.State.{State, HasCleanDisk}
use Rattle.hd_rules.specs.Journal.{Turn}
use Rattle.hd_catalogue.specs.Contents.{Contents}
use Rattle.hd_journal.specs.declared.fault.WriteFault.{WriteFault}
use Rattle.hd_journal.specs.declared.fault.WriteFault.TheVariants.{Memory, DiskFull, Refused}
use Rattle.hd_ask_parts.specs.Parts.{asked_parts}
use Rattle.hd_turn_row.specs.Rows.{IsTurnRow}
use Rattle.hd_turn_store.specs.Faults as store
use Rattle.hd_turn_store.specs.Kept.{KeptTurn}

-- what an error of SQLite is told as
abbrev pub write_fault : Error → WriteFault
write_fault (SqliteFailure code.OutOfMemory) = Memory
write_fault (SqliteFailure code.DiskFull) = DiskFull
write_fault _ = Refused

-- SQLite refused to put this row by an error that is told so.
abbrev pub IsRefusedBy : State → State → KeptTurn → WriteFault → Type 0
IsRefusedBy old new row fault =
    (error : Error) × store.RefusesTurn old new row error × (fault ≡ write_fault error)

-- It refused so to put the turn's row. Of a disk that didn't return what was written nothing is claimed.
abbrev pub IsUnwritten : Contents → State → Turn → State → WriteFault → Type 0
IsUnwritten k old turn new fault =
    (row : KeptTurn) × ((format : ℕ) → IsTurnRow k format turn row)
    × (HasCleanDisk new → IsRefusedBy old new row fault)

-- A query has no row.
abbrev pub HasNoRow : Turn → WriteFault → Type 0
HasNoRow turn Refused = asked_parts turn.message.asked ≡ None
HasNoRow turn _ = ⊥

-- Why a turn isn't committed over a connection, which shows a state: out of memory, before SQLite was asked;
-- the turn has no row; or SQLite refused it.
abbrev pub RefusesTurn : {C : Type 0} → (C → State) → Contents → C → Turn → C → WriteFault → Type 0
RefusesTurn shown k old turn new Memory =
    (new ≡ old) ⊎ IsUnwritten k (shown old) turn (shown new) Memory
RefusesTurn shown k old turn new fault =
    HasNoRow turn fault ⊎ IsUnwritten k (shown old) turn (shown new) fault
