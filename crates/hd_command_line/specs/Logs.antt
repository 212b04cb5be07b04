-- What is told while a server runs.
use Rattle.std.specs.Prelude.{ℕ, if◌then◌else◌, List, codes}
use Rattle.std.specs.Str.{bytes_eq}
use Rattle.hd_command_line.specs.declared.orders.Log.{Log}
use Rattle.hd_command_line.specs.declared.orders.Log.TheVariants.{Quiet, Events, Messages}

-- the level of a name
abbrev pub log_named : List ℕ → Log
log_named name =
    if bytes_eq name (codes "events") then Events
    else if bytes_eq name (codes "messages") then Messages
    else Quiet
