-- What parts ask, read back.
use Rattle.std.specs.Prelude.{ℕ, true, false, Option, option_map, unwrap_or}
use Rattle.hd_ask_parts.specs.declared.act.Act.{Act}
use Rattle.hd_ask_parts.specs.declared.act.Act.TheVariants as acts
use Rattle.hd_ask_parts.specs.declared.act.Admits.{Admits}
use Rattle.hd_ask_parts.specs.declared.act.Admits.TheVariants as admitted
use Rattle.hd_ask_parts.specs.declared.parts.Parts.{Parts}
use Rattle.hd_rules.specs.declared.holds.HoldKind.{HoldKind}
use Rattle.hd_rules.specs.declared.holds.HoldKind.TheVariants as kind
use Rattle.hd_rules.specs.declared.commands.Action.{Action}
use Rattle.hd_rules.specs.declared.commands.Action.TheVariants as action
use Rattle.hd_rules.specs.declared.commands.Cancel.TheVariants as cancel
use Rattle.hd_rules.specs.declared.turns.Asked.{Asked}
use Rattle.hd_rules.specs.declared.turns.Asked.TheVariants as ask

-- a part, and the first number of its kind where it is wanting
abbrev pub value : Option ℕ → ℕ
value part = unwrap_or part 0

-- the hold's kind of two columns
abbrev pub kind_by : Admits → ℕ → HoldKind
kind_by admitted.Any copy = kind.Any
kind_by admitted.Copy copy = kind.One copy
kind_by admitted.Branch copy = kind.AtBranch

abbrev pub command_by : Parts → Action → Asked
command_by p does = ask.Command (record { day = value p.day; action = does })

-- What parts ask of an act. For a part that is wanting stands the first number of its kind, and one that the
-- act bars isn't looked at: so parts are those of some ask just where they are those of this one.
abbrev pub asked_at : Act → Parts → Asked
asked_at acts.Checkout p = command_by p (action.Checkout (value p.patron) (value p.copy) false)
asked_at acts.CheckoutOrRenewal p = command_by p (action.Checkout (value p.patron) (value p.copy) true)
asked_at acts.OffLine p = command_by p (action.OffLine (value p.patron) (value p.copy) (value p.until))
asked_at acts.Checkin p = command_by p (action.Checkin (value p.copy) (value p.branch))
asked_at acts.Add p =
    let sort = kind_by (unwrap_or p.admits admitted.Any) (value p.copy) in
    command_by p (action.Add (value p.patron) (value p.title) sort (value p.branch) p.until)
asked_at acts.Delete p = command_by p (action.Delete (value p.patron) (value p.title))
asked_at acts.Change p =
    let sort = option_map (λ admits. kind_by admits (value p.copy)) p.admits in
    command_by p (action.Change (value p.patron) (value p.title) sort p.branch p.until)
asked_at acts.Renewal p = command_by p (action.Renewal (value p.patron) (value p.copy))
asked_at acts.CancelCheckout p = ask.Cancel (cancel.Checkout (value p.copy))
asked_at acts.CancelCheckin p = ask.Cancel (cancel.Checkin (value p.copy))
asked_at acts.CancelRenewal p = ask.Cancel (cancel.Renewal (value p.copy))
asked_at acts.CancelAdd p = ask.Cancel (cancel.Add (value p.patron) (value p.title))
asked_at acts.CancelDelete p = ask.Cancel (cancel.Delete (value p.patron) (value p.title))
asked_at acts.CancelChange p = ask.Cancel (cancel.Change (value p.patron) (value p.title))

unfoldable pub asked_by : Parts → Asked
asked_by p = asked_at p.act p
