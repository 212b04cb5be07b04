-- What is asked, column by column.
use Rattle.std.proofs.Common.{◌≡◌, ℕ, true, None, Some, refl}
use Rattle.std.proofs.lemmas.Option.{none-some, same_Some}
use Rattle.hd_rules.specs.Facts.{Facts}
use Rattle.hd_rules.specs.Known.{IsKnown, IsKnownAction, IsKnownCancel}
use Rattle.hd_rules.specs.declared.holds.HoldKind.TheVariants as kind
use Rattle.hd_rules.specs.declared.commands.Action.{Action}
use Rattle.hd_rules.specs.declared.commands.Action.TheVariants as action
use Rattle.hd_rules.specs.declared.commands.Cancel.{Cancel}
use Rattle.hd_rules.specs.declared.commands.Cancel.TheVariants as cancel
use Rattle.hd_rules.specs.declared.turns.Asked.{Asked}
use Rattle.hd_rules.specs.declared.turns.Asked.TheVariants as ask
use Rattle.hd_turn_row.specs.Columns.{AreKnownParts}
use Rattle.hd_ask_parts.specs.Parts.{action_parts, asked_parts, cancel_parts}
use Rattle.hd_turn_row.specs.Parts.{asked_at, asked_by}
use Rattle.hd_ask_parts.specs.declared.act.Act.{Act}
use Rattle.hd_ask_parts.specs.declared.act.Act.TheVariants as acts
use Rattle.hd_ask_parts.specs.declared.parts.Parts.{Parts}

-- parts ask something that has a row
at_some : (act : Act) (p : Parts) → asked_parts (asked_at act p) ≡ None → ⊥
at_some acts.Checkout p none = cc
at_some act p none = cc

pub asks_some : (p : Parts) → asked_parts (asked_by p) ≡ None → ⊥
unfolding asked_by
asks_some p = at_some p.act p

-- what is asked is what its parts ask
command_back : (day : ℕ) (a : Action) → asked_by (record (action_parts a) { day = Some day })
    ≡ ask.Command (record { day = day; action = a })
unfolding asked_by
command_back day (action.Checkout patron copy true) = refl
command_back day (action.Add patron title (kind.One copy) pickup expiry) = refl
command_back day (action.Change patron title (Some (kind.One copy)) pickup expiry) = refl
command_back day a = refl

cancel_back : (what : Cancel) → asked_by (cancel_parts what) ≡ ask.Cancel what
unfolding asked_by
cancel_back (cancel.Checkout copy) = refl
cancel_back what = refl

pub asked_back : (asked : Asked) (parts : Parts) → asked_parts asked ≡ Some parts → asked_by parts ≡ asked
asked_back (ask.Command command) parts e = cc (command_back command.day command.action)
asked_back (ask.Cancel what) parts e = cc (cancel_back what)
asked_back (ask.Item copy) parts e = cc

-- what a command names is known where its parts are, and the other way round
action_known : (k : Facts) (day : ℕ) (a : Action)
    → (IsKnownAction k a → AreKnownParts k (record (action_parts a) { day = Some day }))
    × (AreKnownParts k (record (action_parts a) { day = Some day }) → IsKnownAction k a)
action_known k day (action.Checkout patron copy true) = (λ h. assumption, λ h. assumption)
action_known k day (action.Add patron title (kind.One copy) pickup expiry) =
    (λ h. assumption, λ h. assumption)
action_known k day (action.Change patron title (Some (kind.One copy)) None expiry) =
    (λ h. assumption, λ h. assumption)
action_known k day (action.Change patron title sort None expiry) = (λ h. assumption, λ h. assumption)
action_known k day a = (λ h. assumption, λ h. assumption)

cancel_known : (k : Facts) (what : Cancel)
    → (IsKnownCancel k what → AreKnownParts k (cancel_parts what))
    × (AreKnownParts k (cancel_parts what) → IsKnownCancel k what)
cancel_known k (cancel.Checkout copy) = (λ h. assumption, λ h. assumption)
cancel_known k what = (λ h. assumption, λ h. assumption)

pub parts_known : (k : Facts) (asked : Asked) (parts : Parts) → asked_parts asked ≡ Some parts
    → (IsKnown k asked → AreKnownParts k parts) × (AreKnownParts k parts → IsKnown k asked)
parts_known k (ask.Command command) parts e =
    rw (← same_Some _ _ e) (action_known k command.day command.action)
parts_known k (ask.Cancel what) parts e = rw (← same_Some _ _ e) (cancel_known k what)
parts_known k (ask.Item copy) parts e = absurd (none-some _ e)
