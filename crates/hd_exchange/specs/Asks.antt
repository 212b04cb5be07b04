-- What a message asks of the desk, or the first refusal: the checks are made in this order.
use Rattle.std.specs.Prelude.{ℕ, Bool, List, Option, None, Some, Result, Ok, Err, if◌then◌else◌}
use Rattle.std.specs.Option.{option_copied, unwrap_or}
use Rattle.hd_message.specs.declared.kind.DeskKind.{DeskKind}
use Rattle.hd_message.specs.declared.kind.DeskKind.TheVariants as kind
use Rattle.hd_message.specs.declared.request.CheckoutRequest.{CheckoutRequest}
use Rattle.hd_message.specs.declared.request.CheckinRequest.{CheckinRequest}
use Rattle.hd_message.specs.declared.request.RenewRequest.{RenewRequest}
use Rattle.hd_message.specs.declared.request.ItemRequest.{ItemRequest}
use Rattle.hd_rules.specs.declared.commands.Action.{Action}
use Rattle.hd_rules.specs.declared.commands.Action.TheVariants as action
use Rattle.hd_rules.specs.declared.commands.Cancel.{Cancel}
use Rattle.hd_rules.specs.declared.commands.Cancel.TheVariants as cancel
use Rattle.hd_rules.specs.declared.replies.Refusal.{Refusal}
use Rattle.hd_rules.specs.declared.replies.Refusal.TheVariants.{BadDate, UnknownPatron, UnknownItem}
use Rattle.hd_rules.specs.declared.replies.Refusal.TheVariants.{UnknownTitle}
use Rattle.hd_rules.specs.declared.turns.Asked.{Asked}
use Rattle.hd_rules.specs.declared.turns.Asked.TheVariants as ask
use Rattle.hd_catalogue.specs.Contents.{Contents, branch_number, copy_number, patron_number}
use Rattle.hd_exchange.specs.Names.{title_asked}
use Rattle.hd_exchange.specs.declared.dates.Dates.{Dates}

-- what is needed, or the refusal where it is missing
abbrev pub need : {A B : Type 0} → Option A → Refusal → (A → Result B Refusal) → Result B Refusal
need None refusal go_on = Err refusal
need (Some a) refusal go_on = go_on a

-- an action on the day of a message
abbrev pub command : ℕ → Action → Asked
command day does = ask.Command (record { day = day; action = does })

-- what a checkout does: it is off line where it states a due day
abbrev pub checkout_action : Bool → Option ℕ → ℕ → ℕ → Action
checkout_action renews None patron copy = action.Checkout patron copy renews
checkout_action renews (Some due) patron copy = action.OffLine patron copy due

-- a checkout (11)
abbrev pub checkout_asks : Contents → CheckoutRequest → Dates → Result Asked Refusal
checkout_asks k r dates =
    need dates.transaction BadDate (λ stamp.
    need dates.other BadDate (λ due.
    need (patron_number k r.patron.now) UnknownPatron (λ patron.
    need (copy_number k r.copy.now) UnknownItem (λ copy.
    Ok (
    if r.cancels then ask.Cancel (cancel.Checkin copy)
    else command stamp.day (checkout_action r.renews due patron copy))))))

-- the branch that AP names, or the terminal's own where it names none
abbrev pub return_branch : Contents → ℕ → Option (List ℕ) → ℕ
return_branch k own None = own
return_branch k own (Some name) = unwrap_or (branch_number k name) own

-- a checkin (09)
abbrev pub checkin_asks : Contents → ℕ → CheckinRequest → Dates → Result Asked Refusal
checkin_asks k own r dates =
    need dates.transaction BadDate (λ stamp.
    need (copy_number k r.copy.now) UnknownItem (λ copy.
    Ok (
    if r.cancels then ask.Cancel (cancel.Checkout copy)
    else command stamp.day (action.Checkin copy (return_branch k own (option_copied r.branch))))))

-- a renewal (29)
abbrev pub renew_asks : Contents → RenewRequest → Dates → Result Asked Refusal
renew_asks k r dates =
    need dates.transaction BadDate (λ stamp.
    need (patron_number k r.patron.now) UnknownPatron (λ patron.
    need (copy_number k r.copy.now) UnknownItem (λ copy.
    need (title_asked k (option_copied r.title) (Some copy)) UnknownTitle (λ title.
    Ok (
    if r.cancels then ask.Cancel (cancel.Renewal copy)
    else command stamp.day (action.Renewal patron copy))))))

-- a question about a copy (17)
abbrev pub item_asks : Contents → ItemRequest → Dates → Result Asked Refusal
item_asks k r dates =
    need dates.transaction BadDate (λ stamp.
    need (copy_number k r.copy.now) UnknownItem (λ copy.
    Ok (ask.Item copy)))

-- the kind of the messages that ask for an action
abbrev pub kind_of_action : Action → DeskKind
kind_of_action (action.Checkout p c may_renew) = kind.Checkout
kind_of_action (action.OffLine p c due) = kind.Checkout
kind_of_action (action.Checkin c b) = kind.Checkin
kind_of_action (action.Add p t sort pickup expiry) = kind.Hold
kind_of_action (action.Delete p t) = kind.Hold
kind_of_action (action.Change p t sort pickup expiry) = kind.Hold
kind_of_action (action.Renewal p c) = kind.Renew

-- and of those that take something back: a checkout a return, a checkin a loan, a renewal a renewal, a hold
-- message one on a hold
abbrev pub kind_of_cancel : Cancel → DeskKind
kind_of_cancel (cancel.Checkin c) = kind.Checkout
kind_of_cancel (cancel.Checkout c) = kind.Checkin
kind_of_cancel (cancel.Renewal c) = kind.Renew
kind_of_cancel (cancel.Add p t) = kind.Hold
kind_of_cancel (cancel.Delete p t) = kind.Hold
kind_of_cancel (cancel.Change p t) = kind.Hold

-- the kind of the messages that ask so
abbrev pub kind_of : Asked → DeskKind
kind_of (ask.Command command) = kind_of_action command.action
kind_of (ask.Cancel what) = kind_of_cancel what
kind_of (ask.Item c) = kind.Item
