-- What a seat's terminal asks in one turn, and the turn that a reply makes of it.
use Rattle.std.specs.Prelude.{ℕ, ◌<◌, Bool, true, false, List, Option, None, option_map}
use Rattle.hd_rules.specs.declared.ask.Ask.{Ask}
use Rattle.hd_rules.specs.declared.replies.TurnReply.{TurnReply}
use Rattle.hd_rules.specs.declared.turns.Asked.{Asked}
use Rattle.hd_rules.specs.declared.turns.Asked.TheVariants as ask
use Rattle.hd_rules.specs.Numbers.{SeatNo, TerminalNo}
use Rattle.hd_rules.specs.Facts.{Facts}
use Rattle.hd_rules.specs.Known.{IsKnown}
use Rattle.hd_rules.specs.Turns.{Message}
use Rattle.hd_rules.specs.Journal.{Turn}

-- a message, and the seat that it comes from
pub record SeatMessage : Type 0 where
  pub seat : SeatNo
  pub message : Message

abbrev pub asking : TerminalNo → Asked → Option (List ℕ) → Message
asking terminal asked line = record { terminal = terminal; asked = asked; line = line }

-- the line that a turn keeps: a query keeps none
abbrev pub kept_line : Asked → Option (List ℕ) → Option (List ℕ)
kept_line (ask.Item copy) line = None
kept_line (ask.Command command) line = line
kept_line (ask.Cancel what) line = line

-- what is asked, with the bytes that its line lends
abbrev pub message_of : Ask → SeatMessage
message_of ask = record {
  seat = ask.seat;
  message = asking ask.terminal ask.asked (option_map (λ bytes. bytes.now) ask.line);
}

-- the turn of what is asked, with its reply
abbrev pub turn_with_reply : SeatMessage → TurnReply → Turn
turn_with_reply ask reply = record { seat = ask.seat; message = ask.message; reply = reply }

-- whether it asks for no change
abbrev pub is_query : Asked → Bool
is_query (ask.Command command) = false
is_query (ask.Cancel what) = false
is_query (ask.Item copy) = true

-- a terminal of the catalogue asks something that names things of it
abbrev pub IsKnownMessage : Facts → Message → Type 0
IsKnownMessage k message = (message.terminal < k.terminals) × IsKnown k message.asked
