-- The changing turns of a beginning, and of what comes after it.
use Rattle.std.proofs.Common.{◌≡◌, refl, ap, Bool, true, false, if◌then◌else◌, List, [], ◌∷◌, ◌++◌}
use Rattle.hd_rules.specs.Facts.{Facts}
use Rattle.hd_rules.specs.Turns.{State}
use Rattle.hd_rules.specs.Machine.{turn_of}
use Rattle.hd_rules.specs.Journal.{Turn, state_from}
use Rattle.hd_journal.specs.Changing.{is_changing, changing_from}

pub beginning : (k : Facts) (s : State) (turns more : List Turn)
    → changing_from k s (turns ++ more)
    ≡ changing_from k s turns ++ changing_from k (state_from k s turns) more
beginning k s [] more = refl
beginning k s (turn ∷ turns) more =
    split (is_changing s turn.message) (beginning k (turn_of k s turn.message).state turns more)
  where
    next : State
    next = (turn_of k s turn.message).state

    all : List Turn
    all = changing_from k next (turns ++ more)

    first : List Turn
    first = changing_from k next turns

    last : List Turn
    last = changing_from k (state_from k next turns) more

    split : (b : Bool) → all ≡ first ++ last
        → (if b then turn ∷ all else all) ≡ (if b then turn ∷ first else first) ++ last
    split true rest = ap (λ (ts : List Turn). turn ∷ ts) rest
    split false rest = rest
