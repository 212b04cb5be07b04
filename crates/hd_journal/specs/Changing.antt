-- The changing turns of a journal: those that ask for a change, and weren't answered already.
use Rattle.std.specs.Prelude.{Bool, ◌&&◌, not, if◌then◌else◌, is_none, List, [], ◌∷◌}
use Rattle.hd_rules.specs.Facts.{Facts}
use Rattle.hd_rules.specs.Turns.{Message, State, start}
use Rattle.hd_rules.specs.Machine.{reply_again, turn_of}
use Rattle.hd_rules.specs.Journal.{Turn}
use Rattle.hd_rules.specs.Messages.{is_query}

-- neither a query, nor answered already
abbrev pub is_changing : State → Message → Bool
is_changing s m = not (is_query m.asked) && is_none (reply_again s m)

module _ (k : Facts) where
  -- of turns from a state, the changing ones
  abbrev pub changing_from : State → List Turn → List Turn
  changing_from s [] = []
  changing_from s (turn ∷ turns) =
      let later : List Turn = changing_from (turn_of k s turn.message).state turns in
      if is_changing s turn.message then turn ∷ later else later

  -- Of turns from the start, the changing ones.
  abbrev pub changing : List Turn → List Turn
  changing turns = changing_from (start k) turns
