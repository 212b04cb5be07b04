-- Legal journals.
use Rattle.std.specs.Prelude.{◌≡◌, ℕ, ◌+◌, ◌≤◌, Ok, List, [], ◌∷◌}
use Rattle.hd_rules.specs.Words.{Survivor, Reply, TurnReply}
use Rattle.hd_rules.specs.declared.turns.Asked.TheVariants as ask
use Rattle.hd_rules.specs.declared.replies.TurnReply.TheVariants.{Done as Accepted}
use Rattle.hd_rules.specs.Facts.{Facts, first_number}
use Rattle.hd_rules.specs.Ask.{Done}
use Rattle.hd_rules.specs.Run.{IsAmong, outcome_of, run, Rising, next_number, before}
use Rattle.hd_rules.specs.Turns.{Message, State, start}
use Rattle.hd_rules.specs.Machine.{turn_of}

-- a message with its reply, and the seat that it came from
pub record Turn : Type 0 where
  pub seat : ℕ
  pub message : Message
  pub reply : TurnReply

-- in one of the turns the survivor's command was given its number, and this reply
pub record WasTold (turns : List Turn) (s : Survivor) (reply : Reply) : Type 0 where
  pub turn : Turn
  pub among : IsAmong turn turns
  pub terminal : turn.message.terminal ≡ s.terminal
  pub asked : turn.message.asked ≡ ask.Command s.command
  pub told : turn.reply ≡ Accepted s.number reply

module _ (k : Facts) where
  -- the state that the machine comes to by these turns
  abbrev pub state_from : State → List Turn → State
  state_from s [] = s
  state_from s (turn ∷ turns) = state_from (turn_of k s turn.message).state turns

  -- the state that the machine comes to from the start
  abbrev pub state_after : List Turn → State
  state_after turns = state_from (start k) turns

  -- each reply is the machine's
  abbrev pub IsLegalFrom : State → List Turn → Type 0
  IsLegalFrom s [] = Unit {0}
  IsLegalFrom s (turn ∷ turns) =
      (turn.reply ≡ (turn_of k s turn.message).reply) × IsLegalFrom (turn_of k s turn.message).state turns

  -- Each reply is the machine's after the turns before it, from the start.
  abbrev pub IsLegal : List Turn → Type 0
  IsLegal turns = IsLegalFrom (start k) turns

  -- the turns of the same messages with the machine's replies
  abbrev pub replied_from : State → List Turn → List Turn
  replied_from s [] = []
  replied_from s (turn ∷ turns) =
      record { seat = turn.seat; message = turn.message; reply = (turn_of k s turn.message).reply }
      ∷ replied_from (turn_of k s turn.message).state turns

  -- Each of the survivors is accepted in their run, with the reply that it got.
  abbrev pub RepliesStand : List Turn → List Survivor → Type 0
  RepliesStand turns survivors = (s : Survivor) → IsAmong s survivors →
      (done : Done) × (outcome_of k (run k (before s.number survivors)) s ≡ Ok done)
      × WasTold turns s done.reply

  -- The desk is the run of the survivors; their numbers rise, and
  -- none is above the last one given; all their replies stand.
  pub record IsRunOfSurvivors (turns : List Turn) (s : State) : Type 0 where
    pub desk : s.desk ≡ run k s.survivors
    pub rising : Rising (first_number k) s.survivors
    pub last : next_number (first_number k) s.survivors ≤ s.last + 1
    pub replies : RepliesStand turns s.survivors
