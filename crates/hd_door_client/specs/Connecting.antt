-- Connecting to a server.
use Rattle.std.specs.declared.io.ErrorKind.{ErrorKind}
use Rattle.std.specs.declared.io.ErrorKind.TheVariants.{ConnectionRefused, NotFound, PermissionDenied}
use Rattle.hd_door_client.specs.declared.fault.AskFault.{AskFault}
use Rattle.hd_door_client.specs.declared.fault.AskFault.TheVariants.{Forbidden, NoServer, Refused}

-- why a server can't be asked, by how connecting failed
abbrev pub fault_by : ErrorKind → AskFault
fault_by NotFound = NoServer
fault_by ConnectionRefused = NoServer
fault_by PermissionDenied = Forbidden
fault_by kind = Refused
