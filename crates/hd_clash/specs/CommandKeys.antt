-- What the questions of a command can be about, told from the command alone.
use Rattle.std.specs.Prelude.{ℕ, Bool, false, ◌==◌, Option, Some, None}
use Rattle.hd_rules.specs.declared.commands.Action.{Action}
use Rattle.hd_rules.specs.declared.commands.Action.TheVariants as action
use Rattle.hd_rules.specs.declared.commands.Command.{Command}
use Rattle.hd_rules.specs.Facts.{Facts}
use Rattle.hd_clash.specs.declared.key.Key.{Key}
use Rattle.hd_clash.specs.declared.key.Key.TheVariants as key
use Rattle.hd_clash.specs.declared.command_keys.CommandKeys.{CommandKeys}

-- the title alone
abbrev pub title_alone : ℕ → CommandKeys
title_alone t = record { title = t; patron = None; branch = None }

-- The title that an action names, or that of its copy. A checkout asks for the patron's room, too, and a
-- return for a place at the branch.
abbrev pub keys_of_action : Facts → Action → CommandKeys
keys_of_action k (action.Checkout p c may_renew) =
    record { title = k.title_of c; patron = Some p; branch = None }
keys_of_action k (action.OffLine p c due) = title_alone (k.title_of c)
keys_of_action k (action.Checkin c b) = record { title = k.title_of c; patron = None; branch = Some b }
keys_of_action k (action.Add p t kind pickup expiry) = title_alone t
keys_of_action k (action.Delete p t) = title_alone t
keys_of_action k (action.Change p t kind pickup expiry) = title_alone t
keys_of_action k (action.Renewal p c) = title_alone (k.title_of c)

-- what a command asks about
abbrev pub keys_of_command : Facts → Command → CommandKeys
keys_of_command k command = keys_of_action k command.action

-- there is a number, and it is this one
abbrev pub is_the : ℕ → Option ℕ → Bool
is_the n None = false
is_the n (Some m) = m == n

-- the key is one of them
abbrev pub has_key : CommandKeys → Key → Bool
has_key keys (key.Title t) = keys.title == t
has_key keys (key.Branch b) = is_the b keys.branch
has_key keys (key.Patron p) = is_the p keys.patron
