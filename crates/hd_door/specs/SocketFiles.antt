-- The files of sockets.
use Rattle.std.specs.Prelude.{◌≡◌, ◌≢◌, ◌⊎◌, ◌≤◌, ℕ, Bool, true, false, Result, Ok, Err, List, bit_and}
use Rattle.std.specs.Prelude.{length}
use Rattle.std.specs.IoError.{error_kind}
use Rattle.std.specs.declared.io.Error.{Error}
use Rattle.std.specs.declared.io.ErrorKind.TheVariants.{ConnectionRefused}
use Rattle.hd_door.specs.declared.fault.DoorFault.{DoorFault}
use Rattle.hd_door.specs.declared.fault.DoorFault.TheVariants as fault
use Rattle.hd_door.specs.declared.socket_file.Occupant.{Occupant}
use Rattle.hd_door.specs.declared.socket_file.Occupant.TheVariants.{Nothing, Dead, Live, Other}

-- Whether a file gives way to a new socket's. One does at which nobody listens any more; where somebody
-- listens, and where it is no socket's, nothing is done.
abbrev pub gives_way : Occupant → Result Bool DoorFault
gives_way Nothing = Ok false
gives_way Dead = Ok true
gives_way Live = Err fault.Live
gives_way Other = Err fault.OtherFile

-- what is found of a socket to which connecting failed: nobody listens exactly where it was refused
abbrev pub IsFoundBy : Error → Result Occupant Error → Type 0
IsFoundBy why found =
    ((error_kind why ≡ ConnectionRefused) × (found ≡ Ok Dead))
    ⊎ ((error_kind why ≢ ConnectionRefused) × (found ≡ Err why))

-- a mode by which nobody but a file's owner may do anything with it: it has no bit of the lower six
abbrev pub IsForOwnerAlone : ℕ → Type 0
IsForOwnerAlone mode = bit_and mode 0o077 ≡ 0

-- a mode by which its owner may read and write it
abbrev pub IsUsedByOwner : ℕ → Type 0
IsUsedByOwner mode = bit_and mode 0o600 ≡ 0o600

-- A path that a socket's file may have in this folder. The system takes 107 bytes, and the socket is made in a
-- new folder in that one, by five bytes more.
abbrev pub IsShortEnough : List ℕ → List ℕ → Type 0
IsShortEnough path folder = (length path ≤ 107) × (length folder ≤ 102)
