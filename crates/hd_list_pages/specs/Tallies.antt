-- Turns by kind and outcome.
use Rattle.std.specs.Prelude.{◌≡◌, ◌&&◌, ℕ, zero, suc, ◌+◌, ◌<◌, ◌≤◌, ◌==◌, nat_lt, min, Bool, true}
use Rattle.std.specs.Prelude.{false, if◌then◌else◌, Option, Some, None, option_and_then, List, length}
use Rattle.std.specs.Prelude.{slice_index_or}
use Rattle.hd_rules.specs.declared.commands.Action.{Action}
use Rattle.hd_rules.specs.declared.commands.Action.TheVariants as action
use Rattle.hd_rules.specs.declared.replies.TurnReply.{TurnReply}
use Rattle.hd_rules.specs.declared.replies.TurnReply.TheVariants as reply
use Rattle.hd_rules.specs.declared.turns.Asked.{Asked}
use Rattle.hd_rules.specs.declared.turns.Asked.TheVariants as ask
use Rattle.hd_rules.specs.Numbers.{TerminalNo}
use Rattle.hd_rules.specs.Same.{same_asked, same_line}
use Rattle.hd_rules.specs.Turns.{Message}
use Rattle.hd_rules.specs.Messages.{is_query}
use Rattle.hd_rules.specs.Journal.{Turn}
use Rattle.hd_journal.specs.Books.{turn_numbered}
use Rattle.hd_http.specs.declared.state.Tally.{Tally}
use Rattle.hd_http.specs.declared.state.Turns.{Turns}
use Rattle.hd_list_pages.specs.declared.tally.Kind.{Kind}
use Rattle.hd_list_pages.specs.declared.tally.Kind.TheVariants as kind
use Rattle.hd_list_pages.specs.declared.tally.Ending.{Ending}
use Rattle.hd_list_pages.specs.declared.tally.Ending.TheVariants as ending

-- of what kind an action is
abbrev pub kind_of_action : Action → Kind
kind_of_action (action.Checkout p c may_renew) = kind.Checkout
kind_of_action (action.OffLine p c due) = kind.OffLine
kind_of_action (action.Checkin c b) = kind.Checkin
kind_of_action (action.Add p t k pickup expiry) = kind.Add
kind_of_action (action.Delete p t) = kind.Delete
kind_of_action (action.Change p t k pickup expiry) = kind.Change
kind_of_action (action.Renewal p c) = kind.Renewal

-- of what kind a turn is: a cancellation is one, whatever it cancels
abbrev pub kind_of : Asked → Kind
kind_of (ask.Command command) = kind_of_action command.action
kind_of (ask.Cancel what) = kind.Cancel
kind_of (ask.Item c) = kind.Item

-- how a turn ended: it was refused, or did or showed what it asked
abbrev pub ending_of : TurnReply → Ending
ending_of (reply.Refused why) = ending.Refused
ending_of _ = ending.Done

-- how a turn ended that repeats another or doesn't
abbrev pub ending_in : Bool → TurnReply → Ending
ending_in true told = ending.Repeated
ending_in false told = ending_of told

-- one more, as far as numbers of 64 bits go
abbrev pub one_more : ℕ → ℕ
one_more n = min (n + 1) 18446744073709551615

-- a tally with one more that ended so
abbrev pub with_one : Ending → Tally → Tally
with_one ending.Done t = record t { done = one_more t.done }
with_one ending.Refused t = record t { refused = one_more t.refused }
with_one ending.Repeated t = record t { repeated = one_more t.repeated }

-- the tallies with one turn more, of this kind, that ended so
abbrev pub tallied : Kind → Ending → Turns → Turns
tallied kind.Checkout e t = record t { checkout = with_one e t.checkout }
tallied kind.OffLine e t = record t { off_line = with_one e t.off_line }
tallied kind.Checkin e t = record t { checkin = with_one e t.checkin }
tallied kind.Renewal e t = record t { renewal = with_one e t.renewal }
tallied kind.Add e t = record t { add = with_one e t.add }
tallied kind.Delete e t = record t { delete = with_one e t.delete }
tallied kind.Change e t = record t { change = with_one e t.change }
tallied kind.Cancel e t = record t { cancel = with_one e t.cancel }
tallied kind.Item e t = record t { item = with_one e t.item }

-- no turns
abbrev pub no_tally : Tally
no_tally = record { done = 0; refused = 0; repeated = 0 }

abbrev pub no_turns : Turns
no_turns = record {
  checkout = no_tally;
  off_line = no_tally;
  checkin = no_tally;
  renewal = no_tally;
  add = no_tally;
  delete = no_tally;
  change = no_tally;
  cancel = no_tally;
  item = no_tally;
}

-- two messages carried the same line
abbrev pub carry_same : Option (List ℕ) → Option (List ℕ) → Bool
carry_same (Some one) (Some other) = same_line one other
carry_same _ _ = false

-- A message repeats the terminal's last turn before it that is no query, if there is one: it asks the same,
-- with the same line (docs/protocol.md, "Repeats").
abbrev pub repeats : Option Turn → Message → Bool
repeats None m = false
repeats (Some last) m = same_asked last.message.asked m.asked && carry_same last.message.line m.line

-- what is known of turns when some of them have been counted: their tallies, and by terminal the last of them
-- that is no query
pub record Counted : Type 0 where
  pub tallies : Turns
  pub last : TerminalNo → Option Turn

-- none was counted
abbrev pub none_counted : Counted
none_counted = record { tallies = no_turns; last = λ t. None }

-- the tallies with this turn
abbrev pub tallies_with : Counted → Turn → Turns
tallies_with c turn =
    let again : Bool = repeats (c.last turn.message.terminal) turn.message in
    tallied (kind_of turn.message.asked) (ending_in again turn.reply) c.tallies

-- the last turns by terminal with this turn
abbrev pub last_with : (TerminalNo → Option Turn) → Turn → TerminalNo → Option Turn
last_with last turn =
    if is_query turn.message.asked then last
    else (λ t. if t == turn.message.terminal then Some turn else last t)

-- one turn more, if there is one, which has a tally or none
abbrev pub counted_with : Bool → Counted → Option Turn → Counted
counted_with is_new c None = c
counted_with is_new c (Some turn) = record {
  tallies = if is_new then tallies_with c turn else c.tallies;
  last = last_with c.last turn;
}

-- of a journal's turns the first so many were counted: those behind the ones that were there at the beginning
-- have tallies
module _ (begun : ℕ) (turns : List Turn) where
  abbrev pub counted : ℕ → Counted
  counted zero = none_counted
  counted (suc n) = counted_with (nat_lt begun (suc n)) (counted n) (turn_numbered turns (suc n))
