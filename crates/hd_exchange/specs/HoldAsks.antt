-- What a hold message (15) asks of the desk, or the first refusal.
use Rattle.std.specs.Prelude.{ℕ, List, Option, None, Some, Result, Ok, if◌then◌else◌}
use Rattle.std.specs.Option.{option_copied, unwrap_or}
use Rattle.hd_message.specs.declared.request.Mode.{Mode}
use Rattle.hd_message.specs.declared.request.Mode.TheVariants as mode
use Rattle.hd_message.specs.declared.request.Wanted.{Wanted}
use Rattle.hd_message.specs.declared.request.Wanted.TheVariants.{AnyCopy, OneCopy, AtBranch}
use Rattle.hd_message.specs.declared.request.Wishes.{Wishes}
use Rattle.hd_message.specs.declared.request.HoldRequest.{HoldRequest}
use Rattle.hd_rules.specs.declared.holds.HoldKind.{HoldKind}
use Rattle.hd_rules.specs.declared.holds.HoldKind.TheVariants as kind
use Rattle.hd_rules.specs.declared.commands.Action.{Action}
use Rattle.hd_rules.specs.declared.commands.Action.TheVariants as action
use Rattle.hd_rules.specs.declared.commands.Cancel.{Cancel}
use Rattle.hd_rules.specs.declared.commands.Cancel.TheVariants as cancel
use Rattle.hd_rules.specs.declared.replies.Refusal.{Refusal}
use Rattle.hd_rules.specs.declared.replies.Refusal.TheVariants.{BadDate, UnknownPatron, UnknownItem}
use Rattle.hd_rules.specs.declared.replies.Refusal.TheVariants.{UnknownTitle, UnknownBranch}
use Rattle.hd_rules.specs.declared.turns.Asked.{Asked}
use Rattle.hd_rules.specs.declared.turns.Asked.TheVariants as ask
use Rattle.hd_catalogue.specs.Contents.{Contents, branch_number, copy_number, patron_number}
use Rattle.hd_exchange.specs.Asks.{command, need}
use Rattle.hd_exchange.specs.Names.{if_given, title_asked}
use Rattle.hd_exchange.specs.declared.dates.Dates.{Dates}
use Rattle.hd_exchange.specs.declared.holds.HoldNames.{HoldNames}
use Rattle.hd_exchange.specs.declared.holds.Wish.{Wish}

-- which copies a new hold admits: where BY doesn't say so, the copy that is named, or else any; BY 3 without
-- a copy never comes
abbrev pub added_kind : Option Wanted → Option ℕ → HoldKind
added_kind None None = kind.Any
added_kind None (Some copy) = kind.One copy
added_kind (Some AnyCopy) copy = kind.Any
added_kind (Some AtBranch) copy = kind.AtBranch
added_kind (Some OneCopy) None = kind.Any
added_kind (Some OneCopy) (Some copy) = kind.One copy

-- which copies a changed hold admits, where BY says so
abbrev pub changed_kind : Option Wanted → Option ℕ → Option HoldKind
changed_kind None copy = None
changed_kind (Some AnyCopy) copy = Some kind.Any
changed_kind (Some AtBranch) copy = Some kind.AtBranch
changed_kind (Some OneCopy) None = None
changed_kind (Some OneCopy) (Some copy) = Some (kind.One copy)

-- the adding of a hold: it is picked up at the terminal's own branch where BS names none
abbrev pub hold_addition : HoldNames → Wish → ℕ → Action
hold_addition named wish own =
    action.Add named.patron named.title (added_kind wish.wanted named.copy) (unwrap_or wish.pickup own)
    wish.expiry

-- the change of a hold: what the message doesn't say stays
abbrev pub hold_change : HoldNames → Wish → Action
hold_change named wish =
    action.Change named.patron named.title (changed_kind wish.wanted named.copy) wish.pickup wish.expiry

-- what a hold message does
abbrev pub hold_action : Mode → HoldNames → Wish → ℕ → Action
hold_action mode.Add named wish own = hold_addition named wish own
hold_action mode.Delete named wish own = action.Delete named.patron named.title
hold_action mode.Change named wish own = hold_change named wish

-- what a cancelling hold message takes back: an addition a deletion, a deletion an addition, and a change a
-- change
abbrev pub hold_cancel : Mode → HoldNames → Cancel
hold_cancel mode.Add named = cancel.Delete named.patron named.title
hold_cancel mode.Delete named = cancel.Add named.patron named.title
hold_cancel mode.Change named = cancel.Change named.patron named.title

-- the branch that wishes name for the pickup
abbrev pub pickup_name : Option Wishes → Option (List ℕ)
pickup_name None = None
pickup_name (Some wishes) = option_copied wishes.pickup

-- which copies they want
abbrev pub wanted_copies : Option Wishes → Option Wanted
wanted_copies None = None
wanted_copies (Some wishes) = wishes.wanted

-- the expiration date that they state
abbrev pub expiry_text : Option Wishes → Option (List ℕ)
expiry_text None = None
expiry_text (Some wishes) = option_copied wishes.expiry

-- a hold message whose names are known
abbrev pub hold_named : Contents → ℕ → HoldRequest → ℕ → Option ℕ → HoldNames → Result Asked Refusal
hold_named k own r day expiry named =
    if r.cancels then Ok (ask.Cancel (hold_cancel r.mode named))
    else need (if_given (branch_number k) (pickup_name r.wishes)) UnknownBranch (λ pickup.
    let wish : Wish = record { wanted = wanted_copies r.wishes; pickup = pickup; expiry = expiry } in
    Ok (command day (hold_action r.mode named wish own)))

-- a hold message (15)
abbrev pub hold_asks : Contents → ℕ → HoldRequest → Dates → Result Asked Refusal
hold_asks k own r dates =
    need dates.transaction BadDate (λ stamp.
    need dates.other BadDate (λ expiry.
    need (patron_number k r.patron.now) UnknownPatron (λ patron.
    need (if_given (copy_number k) (option_copied r.copy)) UnknownItem (λ copy.
    need (title_asked k (option_copied r.title) copy) UnknownTitle (λ title.
    hold_named k own r stamp.day expiry (record { patron = patron; title = title; copy = copy }))))))
