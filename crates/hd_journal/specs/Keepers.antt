-- What a keeper's turn adds.
use Rattle.std.specs.Prelude.{◌≡◌, List, [], ◌∷◌, ◌++◌, length}
use Rattle.hd_rules.specs.Journal.{Turn}
use Rattle.hd_rules.specs.Messages.{SeatMessage, turn_with_reply}
use Rattle.hd_journal.specs.declared.turn.Turn.{Turn as Made}

-- One turn was added, behind all others: what was asked, with the reply that was made. It has the number of
-- turns that there are then.
pub record IsAdded (before after : List Turn) (ask : SeatMessage) (made : Made) : Type 0 where
  pub turns : after ≡ before ++ turn_with_reply ask made.reply ∷ []
  pub number : made.at ≡ length after
