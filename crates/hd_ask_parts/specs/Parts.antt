-- What is asked, part by part. Each part is a number, as a command has it.
use Rattle.std.specs.Prelude.{ℕ, true, false, Option, Some, None, option_map, option_and_then}
use Rattle.hd_rules.specs.declared.holds.HoldKind.{HoldKind}
use Rattle.hd_rules.specs.declared.holds.HoldKind.TheVariants as kind
use Rattle.hd_rules.specs.declared.commands.Action.{Action}
use Rattle.hd_rules.specs.declared.commands.Action.TheVariants as action
use Rattle.hd_rules.specs.declared.commands.Cancel.{Cancel}
use Rattle.hd_rules.specs.declared.commands.Cancel.TheVariants as cancel
use Rattle.hd_rules.specs.declared.commands.Command.{Command}
use Rattle.hd_rules.specs.declared.turns.Asked.{Asked}
use Rattle.hd_rules.specs.declared.turns.Asked.TheVariants as ask
use Rattle.hd_ask_parts.specs.declared.act.Act.{Act}
use Rattle.hd_ask_parts.specs.declared.act.Act.TheVariants as acts
use Rattle.hd_ask_parts.specs.declared.act.Admits.{Admits}
use Rattle.hd_ask_parts.specs.declared.act.Admits.TheVariants as admitted
use Rattle.hd_ask_parts.specs.declared.parts.Parts.{Parts}

-- an act that names nothing
abbrev pub bare : Act → Parts
bare act = record {
  act = act;
  day = None;
  patron = None;
  copy = None;
  title = None;
  branch = None;
  admits = None;
  until = None;
}

-- of a copy; of a copy and a patron; of a patron's hold of a title
abbrev pub copy_parts : Act → ℕ → Parts
copy_parts act copy = record (bare act) { copy = Some copy }

abbrev pub loan_parts : Act → ℕ → ℕ → Parts
loan_parts act patron copy = record (bare act) { patron = Some patron; copy = Some copy }

abbrev pub hold_parts : Act → ℕ → ℕ → Parts
hold_parts act patron title = record (bare act) { patron = Some patron; title = Some title }

-- what a hold admits, without the copy
abbrev pub admits_of : HoldKind → Admits
admits_of kind.Any = admitted.Any
admits_of (kind.One copy) = admitted.Copy
admits_of kind.AtBranch = admitted.Branch

-- and the copy, where it admits one alone
abbrev pub copy_of : HoldKind → Option ℕ
copy_of (kind.One copy) = Some copy
copy_of sort = None

-- what a command asks
abbrev pub action_parts : Action → Parts
action_parts (action.Checkout patron copy true) = loan_parts acts.CheckoutOrRenewal patron copy
action_parts (action.Checkout patron copy false) = loan_parts acts.Checkout patron copy
action_parts (action.OffLine patron copy due) =
    record (loan_parts acts.OffLine patron copy) { until = Some due }
action_parts (action.Checkin copy branch) = record (copy_parts acts.Checkin copy) { branch = Some branch }
action_parts (action.Add patron title sort pickup expiry) = record (hold_parts acts.Add patron title) {
  copy = copy_of sort;
  branch = Some pickup;
  admits = Some (admits_of sort);
  until = expiry;
}
action_parts (action.Delete patron title) = hold_parts acts.Delete patron title
action_parts (action.Change patron title sort pickup expiry) = record (hold_parts acts.Change patron title) {
  copy = option_and_then copy_of sort;
  branch = pickup;
  admits = option_map admits_of sort;
  until = expiry;
}
action_parts (action.Renewal patron copy) = loan_parts acts.Renewal patron copy

-- on its day
abbrev pub command_parts : Command → Parts
command_parts command = record (action_parts command.action) { day = Some command.day }

-- what a cancellation asks: it has no day
abbrev pub cancel_parts : Cancel → Parts
cancel_parts (cancel.Checkout copy) = copy_parts acts.CancelCheckout copy
cancel_parts (cancel.Checkin copy) = copy_parts acts.CancelCheckin copy
cancel_parts (cancel.Renewal copy) = copy_parts acts.CancelRenewal copy
cancel_parts (cancel.Add patron title) = hold_parts acts.CancelAdd patron title
cancel_parts (cancel.Delete patron title) = hold_parts acts.CancelDelete patron title
cancel_parts (cancel.Change patron title) = hold_parts acts.CancelChange patron title

-- what is asked; a query does nothing
abbrev pub asked_parts : Asked → Option Parts
asked_parts (ask.Command command) = Some (command_parts command)
asked_parts (ask.Cancel what) = Some (cancel_parts what)
asked_parts (ask.Item copy) = None
