-- A turn as it is handed in and given back, and what values say of one.
use Rattle.std.specs.Prelude.{ℕ, pos, List, [], Option, Some, None}
use Rattle.std.specs.Option.{option_copied}
use Rattle.hd_turn_store.specs.Words.{Blob, Int, Row, Text, Value, column}
use Rattle.hd_turn_store.specs.declared.row.TurnRow.{TurnRow}
use Rattle.hd_turn_store.specs.declared.heading.Heading.{Heading}
use Rattle.hd_turn_store.specs.Kept.{KeptTurn, Head}

-- what a row lends
abbrev pub kept : TurnRow → KeptTurn
kept row = record {
  seat = row.seat;
  terminal = row.terminal.now;
  day = row.day.now;
  act = row.act.now;
  patron = option_copied row.patron;
  copy = option_copied row.copy;
  title = option_copied row.title;
  branch = option_copied row.branch;
  admits = option_copied row.admits;
  until = option_copied row.until;
  line = option_copied row.line;
  outcome = row.outcome.now;
  number = row.number;
  reply = row.reply.now;
}

-- what a value says, and what it says where it isn't null
abbrev pub text_in : Value → List ℕ
text_in (Text text) = text
text_in _ = []

abbrev pub text_if : Value → Option (List ℕ)
text_if (Text text) = Some text
text_if _ = None

abbrev pub bytes_in : Value → List ℕ
bytes_in (Blob bytes) = bytes
bytes_in _ = []

abbrev pub bytes_if : Value → Option (List ℕ)
bytes_if (Blob bytes) = Some bytes
bytes_if _ = None

abbrev pub number_in : Value → ℕ
number_in (Int (pos number)) = number
number_in _ = 0

abbrev pub number_if : Value → Option ℕ
number_if (Int (pos number)) = Some number
number_if _ = None

-- what the values of a turn's columns say
unfoldable pub read_cells : Row → KeptTurn
read_cells row = record {
  seat = number_in (column row 0);
  terminal = text_in (column row 1);
  day = text_in (column row 2);
  act = text_in (column row 3);
  patron = text_if (column row 4);
  copy = text_if (column row 5);
  title = text_if (column row 6);
  branch = text_if (column row 7);
  admits = text_if (column row 8);
  until = text_if (column row 9);
  line = bytes_if (column row 10);
  outcome = text_in (column row 11);
  number = number_if (column row 12);
  reply = bytes_in (column row 13);
}

abbrev pub read_head : Heading → Head
read_head h = record { format = h.format; catalogue = h.catalogue.items }
