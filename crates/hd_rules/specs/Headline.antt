-- What holds after every list of the terminals' messages (§ Numbers, cancellation and dependence).
use Rattle.std.specs.Prelude.{◌≡◌, ◌↔◌, true, List, [], ◌∷◌, ◌++◌}
use Rattle.hd_rules.specs.Words.{Command, Cancel, Reply, TurnReply}
use Rattle.hd_rules.specs.declared.turns.Asked.TheVariants as ask
use Rattle.hd_rules.specs.declared.replies.Refusal.TheVariants as refusal
use Rattle.hd_rules.specs.declared.replies.TurnReply.TheVariants.{Done as Accepted, Refused, Cancelled}
use Rattle.hd_rules.specs.Numbers.{CopyNo, CommandNo}
use Rattle.hd_rules.specs.Facts.{Facts}
use Rattle.hd_rules.specs.Run.{run, less}
use Rattle.hd_rules.specs.Depends.{NoneDepends, IsLeastDependent}
use Rattle.hd_rules.specs.Target.{Split, is_of_kind, NoTarget, IsTarget}
use Rattle.hd_rules.specs.Turns.{Message, State, Answered, IsRepeat, IsNew}
use Rattle.hd_rules.specs.Machine.{turn_of}
use Rattle.hd_rules.specs.Journal.{Turn, state_after, IsLegal, RepliesStand}

-- none of the turns is of a changing message
abbrev pub AllQueries : List Turn → Type 0
AllQueries [] = Unit {0}
AllQueries (turn ∷ turns) = ((c : CopyNo) × (turn.message.asked ≡ ask.Item c)) × AllQueries turns

module _ (s : State) where
  -- no cell, survivor or number changes
  pub record ChangesNothing (next : State) : Type 0 where
    pub desk : next.desk ≡ s.desk
    pub survivors : next.survivors ≡ s.survivors
    pub last : next.last ≡ s.last

  -- a cancellation, which is no repeat, with its target
  pub record IsCancellation (m : Message) (at : Split) : Type 0 where
    pub what : Cancel
    pub is_cancel : m.asked ≡ ask.Cancel what
    pub is_new : IsNew s m
    pub target : IsTarget m.terminal what s.survivors at

  -- a cancellation, which is no repeat, without a target
  pub record IsAimless (m : Message) : Type 0 where
    pub what : Cancel
    pub is_cancel : m.asked ≡ ask.Cancel what
    pub is_new : IsNew s m
    pub none : NoTarget m.terminal what s.survivors

  -- there is nothing to cancel
  pub record IsNothingToCancel (answered : Answered) : Type 0 where
    pub answer : answered.reply ≡ Refused refusal.NothingToCancel
    pub nothing : ChangesNothing answered.state

  -- A repeat is answered as before, and leaves all as it is (docs/protocol.md, "Repeats").
  pub record IsRepeated (reply : TurnReply) (answered : Answered) : Type 0 where
    pub answer : answered.reply ≡ reply
    pub state : answered.state ≡ s

module _ (k : Facts) (turns : List Turn) where
  -- the state that the turns lead to
  abbrev pub here : State
  here = state_after k turns

  -- After the turns a command is accepted with this number, and the
  -- next changing message is its terminal's cancellation of it.
  pub record IsCancelledAtOnce (submitted : Turn) (queries : List Turn) (cancelled : Turn) (n : CommandNo) :
      Type 0 where
    pub legal : IsLegal k (turns ++ submitted ∷ (queries ++ cancelled ∷ []))
    pub command : Command
    pub is_command : submitted.message.asked ≡ ask.Command command
    pub is_new : IsNew here submitted.message
    pub reply : Reply
    pub accepted : submitted.reply ≡ Accepted n reply
    pub only_queries : AllQueries queries
    pub what : Cancel
    pub is_cancel : cancelled.message.asked ≡ ask.Cancel what
    pub same_terminal : cancelled.message.terminal ≡ submitted.message.terminal
    pub aimed : is_of_kind what command.action ≡ true

  -- the desk is as before the command
  pub record LeavesTheDesk (submitted : Turn) (queries : List Turn) (cancelled : Turn) (n : CommandNo) :
      Type 0 where
    pub answer : cancelled.reply ≡ Cancelled n
    pub desk : (state_after k (turns ++ submitted ∷ (queries ++ cancelled ∷ []))).desk ≡ here.desk
    pub survivors :
        (state_after k (turns ++ submitted ∷ (queries ++ cancelled ∷ []))).survivors ≡ here.survivors

  -- the desk is the run of the survivors less the target, all their replies standing; no number is given
  pub record IsRunWithout (s : State) (target : CommandNo) (next : State) : Type 0 where
    pub desk : next.desk ≡ run k (less target s.survivors)
    pub survivors : next.survivors ≡ less target s.survivors
    pub last : next.last ≡ s.last
    pub replies : RepliesStand k turns (less target s.survivors)

  -- It is accepted exactly when no surviving later command depends
  -- on its target; otherwise the first that does is named.
  pub record IsDecided (s : State) (at : Split) (answered : Answered) : Type 0 where
    pub accepted : (answered.reply ≡ Cancelled at.survivor.number) ↔ NoneDepends k s.survivors at.survivor
    pub run_without : NoneDepends k s.survivors at.survivor
        → IsRunWithout s at.survivor.number answered.state
    pub refused : (NoneDepends k s.survivors at.survivor → ⊥) → (n : CommandNo) ×
        (answered.reply ≡ Refused (refusal.Depends n)) × IsLeastDependent k s.survivors at.survivor n
        × ChangesNothing s answered.state

  -- Cancelled at once, a command leaves the desk as before; a cancellation
  -- is decided by dependence alone; a repeat changes nothing.
  pub record Headline : Type 0 where
    pub at_once : (submitted : Turn) (queries : List Turn) (cancelled : Turn) (n : CommandNo) →
        IsCancelledAtOnce submitted queries cancelled n → LeavesTheDesk submitted queries cancelled n
    pub cancellation : (m : Message) (at : Split) →
        IsCancellation here m at → IsDecided here at (turn_of k here m)
    pub aimless : (m : Message) → IsAimless here m → IsNothingToCancel here (turn_of k here m)
    pub repeat : (m : Message) (reply : TurnReply) →
        IsRepeat here m reply → IsRepeated here reply (turn_of k here m)
