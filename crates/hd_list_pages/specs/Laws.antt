-- What is proved of the tallies.
use Rattle.std.specs.Prelude.{◌≡◌, ℕ, is_some, List, ◌++◌, length}
use Rattle.hd_rules.specs.Facts.{Facts}
use Rattle.hd_rules.specs.Turns.{Message}
use Rattle.hd_rules.specs.Machine.{reply_again}
use Rattle.hd_rules.specs.Journal.{Turn, state_after, IsLegal}
use Rattle.hd_list_pages.specs.Tallies.{counted, repeats}

-- After legal turns, whatever follows, a message is counted as a repeat where the turn machine answers it
-- again, and only there.
abbrev pub RepeatsAreAnsweredAgain : Type 0
RepeatsAreAnsweredAgain =
    (k : Facts) (begun : ℕ) (turns later : List Turn) (m : Message) → IsLegal k turns →
    repeats ((counted begun (turns ++ later) (length turns)).last m.terminal) m
    ≡ is_some (reply_again (state_after k turns) m)
