-- What is told of a copy, of what is asked, and of what it came to, part by part.
use Rattle.std.specs.Prelude.{Option, Some, None}
use Rattle.hd_ask_parts.specs.Parts.{cancel_parts, command_parts}
use Rattle.hd_ask_parts.specs.declared.parts.Parts.{Parts}
use Rattle.hd_rules.specs.declared.copies.CopyState.{CopyState}
use Rattle.hd_rules.specs.declared.replies.Refusal.{Refusal}
use Rattle.hd_rules.specs.declared.replies.Reply.{Reply}
use Rattle.hd_rules.specs.declared.replies.TurnReply.{TurnReply}
use Rattle.hd_rules.specs.declared.turns.Asked.{Asked}
use Rattle.hd_rules.specs.declared.copies.CopyState.TheVariants.{Shelf, OnLoan, OnHoldShelf, InTransit}
use Rattle.hd_rules.specs.declared.replies.Reply.TheVariants.{LentOrRenewed}
use Rattle.hd_rules.specs.declared.replies.Refusal.TheVariants.{Depends}
use Rattle.hd_rules.specs.declared.replies.TurnReply.TheVariants as turn
use Rattle.hd_rules.specs.declared.turns.Asked.TheVariants as ask
use Rattle.hd_rules.specs.Numbers.{CommandNo, Day}
use Rattle.hd_list_pages.specs.declared.asked.AskedParts.{AskedParts}
use Rattle.hd_list_pages.specs.declared.state.StateParts.{StateParts}
use Rattle.hd_list_pages.specs.declared.words.Word.{Word}
use Rattle.hd_list_pages.specs.declared.words.Word.TheVariants as word

-- a word alone
abbrev pub bare_state : Word → StateParts
bare_state w = record {
  word = w;
  branch = None;
  to = None;
  place = None;
  patron = None;
  due = None;
  renewals = None;
}

-- where a copy is
abbrev pub state_parts : CopyState → StateParts
state_parts (Shelf b) = record (bare_state word.OpenShelf) { branch = Some b }
state_parts (OnLoan l) =
    record (bare_state word.OnLoan) { patron = Some l.patron; due = Some l.due; renewals = Some l.renewals }
state_parts (OnHoldShelf s) = record (bare_state word.HoldShelf) {
  branch = Some s.branch;
  place = Some s.place;
  patron = Some s.patron;
}
state_parts (InTransit t) =
    record (bare_state word.InTransit) { branch = Some t.from; to = Some t.to; patron = t.patron }

-- what a command or a cancellation asks, as it is told
abbrev pub told_parts : Parts → AskedParts
told_parts p = record {
  word = word.Act p.act;
  day = p.day;
  patron = p.patron;
  copy = p.copy;
  title = p.title;
  branch = p.branch;
  until = p.until;
}

-- what is asked
unfoldable pub asked_parts : Asked → AskedParts
asked_parts (ask.Command command) = told_parts (command_parts command)
asked_parts (ask.Cancel what) = told_parts (cancel_parts what)
asked_parts (ask.Item c) = record {
  word = word.Item;
  day = None;
  patron = None;
  copy = Some c;
  title = None;
  branch = None;
  until = None;
}

-- what a turn came to, in one word
abbrev pub outcome_word : TurnReply → Word
outcome_word (turn.Done n reply) = word.Done
outcome_word (turn.Refused refusal) = word.Refused
outcome_word (turn.Cancelled n) = word.Cancelled
outcome_word (turn.Item view) = word.Item

-- the command that its reply names: the one that was done or cancelled, or that depends on the target
abbrev pub number_told : TurnReply → Option CommandNo
number_told (turn.Done n reply) = Some n
number_told (turn.Refused (Depends n)) = Some n
number_told (turn.Refused refusal) = None
number_told (turn.Cancelled n) = Some n
number_told (turn.Item view) = None

-- why it was refused
abbrev pub why_refused : TurnReply → Option Refusal
why_refused (turn.Refused refusal) = Some refusal
why_refused _ = None

-- the due day that a reply tells
abbrev pub reply_due : Reply → Option Day
reply_due (LentOrRenewed title due renewal) = Some due
reply_due _ = None

abbrev pub due_told : TurnReply → Option Day
due_told (turn.Done n reply) = reply_due reply
due_told _ = None
