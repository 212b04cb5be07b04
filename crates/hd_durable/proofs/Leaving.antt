-- What leaving out the turns that change nothing leaves.
use Rattle.std.proofs.Common.{◌≡◌, refl, ◌∙◌, ap, subst, Bool, true, false, ◌&&◌, not, if◌then◌else◌}
use Rattle.std.proofs.Common.{true≢false}
use Rattle.std.proofs.Common.{Option, Some, None, is_none, List, [], ◌∷◌}
use Rattle.hd_rules.specs.declared.turns.Asked.{Asked}
use Rattle.hd_rules.specs.declared.replies.TurnReply.{TurnReply}
use Rattle.hd_rules.specs.declared.turns.Asked.TheVariants as ask
use Rattle.hd_rules.specs.Facts.{Facts}
use Rattle.hd_rules.specs.Turns.{Message, State}
use Rattle.hd_rules.specs.Machine.{reply_again, answered_new, answered_unless, turn_of}
use Rattle.hd_rules.specs.Journal.{Turn, state_from, IsLegalFrom}
use Rattle.hd_rules.specs.Messages.{is_query}
use Rattle.hd_journal.specs.Changing.{is_changing, changing_from}

-- a query leaves the state
leaves_new : (k : Facts) (s : State) (m : Message) (asked : Asked) → not (is_query asked) && true ≡ false
    → (answered_new k s m asked).state ≡ s
leaves_new k s m (ask.Command command) is = absurd (true≢false is)
leaves_new k s m (ask.Cancel what) is = absurd (true≢false is)
leaves_new k s m (ask.Item copy) is = refl

leaves_unless : (k : Facts) (s : State) (m : Message) (reply : Option TurnReply)
    → not (is_query m.asked) && is_none reply ≡ false → (answered_unless k s m reply).state ≡ s
leaves_unless k s m (Some reply) is = refl
leaves_unless k s m None is = leaves_new k s m m.asked is

pub leaves : (k : Facts) (s : State) (m : Message) → is_changing s m ≡ false → (turn_of k s m).state ≡ s
leaves k s m is = leaves_unless k s m (reply_again s m) is

pub state_changing : (k : Facts) (s : State) (turns : List Turn)
    → state_from k s (changing_from k s turns) ≡ state_from k s turns
state_changing k s [] = refl
state_changing k s (turn ∷ turns) =
    split (is_changing s turn.message) refl (state_changing k (turn_of k s turn.message).state turns)
  where
    next : State
    next = (turn_of k s turn.message).state

    later : List Turn
    later = changing_from k next turns

    split : (b : Bool) → is_changing s turn.message ≡ b → state_from k next later ≡ state_from k next turns
        → state_from k s (if b then turn ∷ later else later) ≡ state_from k next turns
    split true is rest = rest
    split false is rest =
        subst (λ (z : State). state_from k z later ≡ state_from k next turns)
        (leaves k s turn.message is) rest

pub legal_changing : (k : Facts) (s : State) (turns : List Turn) → IsLegalFrom k s turns
    → IsLegalFrom k s (changing_from k s turns)
legal_changing k s [] legal = tt
legal_changing k s (turn ∷ turns) legal =
    split (is_changing s turn.message) refl
    (legal_changing k (turn_of k s turn.message).state turns legal.1)
  where
    next : State
    next = (turn_of k s turn.message).state

    later : List Turn
    later = changing_from k next turns

    split : (b : Bool) → is_changing s turn.message ≡ b → IsLegalFrom k next later
        → IsLegalFrom k s (if b then turn ∷ later else later)
    split true is rest = (legal.0, rest)
    split false is rest = subst (λ (z : State). IsLegalFrom k z later) (leaves k s turn.message is) rest

pub all_change : (k : Facts) (s : State) (turns : List Turn)
    → changing_from k s (changing_from k s turns) ≡ changing_from k s turns
all_change k s [] = refl
all_change k s (turn ∷ turns) =
    split (is_changing s turn.message) refl (all_change k (turn_of k s turn.message).state turns)
  where
    next : State
    next = (turn_of k s turn.message).state

    later : List Turn
    later = changing_from k next turns

    split : (b : Bool) → is_changing s turn.message ≡ b → changing_from k next later ≡ later
        → changing_from k s (if b then turn ∷ later else later) ≡ (if b then turn ∷ later else later)
    split true is rest =
        ap (λ (b : Bool). if b then turn ∷ changing_from k next later else changing_from k next later) is
        ∙ ap (λ (ts : List Turn). turn ∷ ts) rest
    split false is rest =
        subst (λ (z : State). changing_from k z later ≡ later) (leaves k s turn.message is) rest
