-- A turn, as a journal shows it.
use Rattle.std.specs.Prelude.{option_map}
use Rattle.hd_rules.specs.Journal.{Turn}
use Rattle.hd_journal.specs.declared.turn.TurnRef.{TurnRef}

-- with the bytes that its line lends
abbrev pub turn_shown : TurnRef → Turn
turn_shown turn = record {
  seat = turn.seat;
  message = record {
    terminal = turn.terminal;
    asked = turn.asked;
    line = option_map (λ bytes. bytes.now) turn.line;
  };
  reply = turn.reply;
}
