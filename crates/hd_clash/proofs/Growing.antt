-- Records stay as they are where the catalogue grows.
use Rattle.std.proofs.Common.{◌≡◌, refl, sym, ◌∙◌, ap, ℕ, List, [], ◌∷◌, Some, None}
use Rattle.hd_rules.specs.declared.commands.Action.{Action}
use Rattle.hd_rules.specs.declared.commands.Action.TheVariants as action
use Rattle.hd_rules.specs.declared.commands.Command.{Command}
use Rattle.hd_rules.specs.declared.commands.Survivor.{Survivor}
use Rattle.hd_rules.specs.Facts.{Facts, AreInRange}
use Rattle.hd_rules.specs.Desk.{Desk}
use Rattle.hd_rules.specs.Step.{plan}
use Rattle.hd_rules.specs.Run.{step}
use Rattle.hd_rules.specs.Known.{IsKnownAction, IsKnownDesk}
use Rattle.hd_rules.specs.Record.{Record, IsRecordAt}
use Rattle.hd_rules.specs.Growth.{IsGrownDesk, Grows}
use Rattle.hd_rules.proofs.FamiliarTurns.{step_known}
use Rattle.hd_rules.proofs.Grown.{Same, Related, plan_same}
use Rattle.hd_rules.proofs.GrownTurns.{Opened, step_grown}
use Rattle.hd_clash.specs.CommandKeys.{keys_of_action, keys_of_command, title_alone}
use Rattle.hd_clash.specs.declared.command_keys.CommandKeys.{CommandKeys}
use Rattle.hd_clash.specs.Records.{AreRecords, EachCommandIsKnown}

records_on : (k j : Facts) (opened : Opened k j) (d e : Desk) (ss : List Survivor) (rs : List Record)
    → IsKnownDesk k d → IsGrownDesk k j d e → EachCommandIsKnown k ss → AreRecords k d ss rs
    → AreRecords j e ss rs
records_on k j opened d e [] [] desk grown known are = tt
records_on k j opened d e [] (r ∷ rs) desk grown known are = absurd are
records_on k j opened d e (s ∷ ss) [] desk grown known are = absurd are
records_on k j opened d e (s ∷ ss) (r ∷ rs) desk grown known are =
    let same : Same k j d e (plan k s.number s.command) (plan j s.number s.command) =
    plan_same k j d e (record { grows = opened.grows; range = opened.range; desk = desk; grown = grown })
    s.number s.command known.0 in (
      record {
        number = are.0.number;
        terminal = are.0.terminal;
        command = are.0.command;
        done = same.ends ∙ are.0.done;
        findings = are.0.findings ∙ sym same.found;
      },
      records_on k j opened (step k d s) (step j e s) ss rs (step_known k d s opened.range desk known.0)
          (step_grown k j opened d e s desk grown known.0) known.1 are.1,
    )

pub records_grow : (k j : Facts) (ss : List Survivor) (rs : List Record) → Grows k j → AreInRange k
    → IsKnownDesk k k.opening.desk → EachCommandIsKnown k ss → AreRecords k k.opening.desk ss rs
    → AreRecords j j.opening.desk ss rs
records_grow k j ss rs grows range desk known are =
    records_on k j (record { grows = grows; range = range; known = desk }) k.opening.desk j.opening.desk ss rs
    desk grows.opening known are

action_keys : (k j : Facts) (a : Action) → Grows k j → IsKnownAction k a
    → keys_of_action j a ≡ keys_of_action k a
action_keys k j (action.Checkout p c may_renew) grows known =
    ap (λ (t : ℕ). let keys : CommandKeys = record { title = t; patron = Some p; branch = None } in keys)
    (grows.longer.title_of c known.1)
action_keys k j (action.OffLine p c due) grows known = ap title_alone (grows.longer.title_of c known.1)
action_keys k j (action.Checkin c b) grows known =
    ap (λ (t : ℕ). let keys : CommandKeys = record { title = t; patron = None; branch = Some b } in keys)
    (grows.longer.title_of c known.0)
action_keys k j (action.Add p t kind pickup expiry) grows known = refl
action_keys k j (action.Delete p t) grows known = refl
action_keys k j (action.Change p t kind pickup expiry) grows known = refl
action_keys k j (action.Renewal p c) grows known = ap title_alone (grows.longer.title_of c known.1)

pub keys_grow : (k j : Facts) (command : Command) → Grows k j → IsKnownAction k command.action
    → keys_of_command j command ≡ keys_of_command k command
keys_grow k j command grows known = action_keys k j command.action grows known
