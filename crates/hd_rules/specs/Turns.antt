-- The turn machine: what each message may be answered, and what that leaves. The law
-- EachTurnIsDetermined says that it is one reply and one state, those that Machine.turn_of computes.
use Rattle.std.specs.Prelude.{◌≡◌, ◌⊎◌, ℕ, ◌+◌, ◌==◌, if◌then◌else◌, Ok, Err, Option, Some, None, is_some}
use Rattle.std.specs.Prelude.{List, [], ◌∷◌, ◌++◌}
use Rattle.hd_rules.specs.Words.{Command, Cancel, Survivor, Refusal, ItemView, TurnReply, Asked}
use Rattle.hd_rules.specs.declared.turns.Asked.TheVariants as ask
use Rattle.hd_rules.specs.declared.replies.Refusal.TheVariants as refusal
use Rattle.hd_rules.specs.declared.replies.TurnReply.TheVariants.{Done as Accepted, Refused, Cancelled, Item}
use Rattle.hd_rules.specs.Numbers.{CopyNo, TerminalNo, CommandNo}
use Rattle.hd_rules.specs.Facts.{Facts}
use Rattle.hd_rules.specs.Desk.{Desk, after}
use Rattle.hd_rules.specs.Choose.{count_below}
use Rattle.hd_rules.specs.Ask.{Done}
use Rattle.hd_rules.specs.Run.{outcome_of, run}
use Rattle.hd_rules.specs.Depends.{NoneDepends, IsLeastDependent}
use Rattle.hd_rules.specs.Target.{Split, NoTarget, IsTarget}

-- a message: who asks what, and the line where it carried a sequence number
pub record Message : Type 0 where
  pub terminal : TerminalNo
  pub asked : Asked
  pub line : Option (List ℕ)

-- what is kept of a terminal's last changing message
pub record Kept : Type 0 where
  pub line : List ℕ
  pub asked : Asked
  pub reply : TurnReply

-- what the machine knows
pub record State : Type 0 where
  pub desk : Desk
  pub survivors : List Survivor
  pub last : CommandNo
  pub kept : TerminalNo → Option Kept

-- a reply, and the state that it leaves
pub record Answered : Type 0 where
  pub reply : TurnReply
  pub state : State

-- the opening desk, and the last number given before; no survivor, nothing kept
abbrev pub start : Facts → State
start k = record { desk = k.opening.desk; survivors = []; last = k.opening.last; kept = λ t. None }

-- A message that was answered already: a changing message that equals what is kept of
-- its terminal's last (docs/protocol.md, "Repeats"; SIP2 2.00, sequence numbers).
pub record IsRepeat (s : State) (m : Message) (reply : TurnReply) : Type 0 where
  pub kept : Kept
  pub is_kept : s.kept m.terminal ≡ Some kept
  pub asked : kept.asked ≡ m.asked
  pub line : m.line ≡ Some kept.line
  pub again : reply ≡ kept.reply

-- what is kept of a message: nothing where it had no line
abbrev pub kept_of : Option (List ℕ) → Asked → TurnReply → Option Kept
kept_of None asked reply = None
kept_of (Some line) asked reply = Some (record { line = line; asked = asked; reply = reply })

-- the state in which that is kept of its terminal
abbrev pub keeping : Message → TurnReply → State → State
keeping m reply s =
    record s { kept = λ t. if t == m.terminal then kept_of m.line m.asked reply else s.kept t }

-- where the copy is, and how many holds its title has (SIP2 2.00, item information)
abbrev pub item_view : Facts → Desk → CopyNo → ItemView
item_view k d c =
    record { state = d.copy c; holds = count_below (λ p. is_some (d.hold (k.title_of c) p)) k.patrons }

module _ (s : State) where
  -- the message is no repeat
  abbrev pub IsNew : Message → Type 0
  IsNew m = (reply : TurnReply) → IsRepeat s m reply → ⊥

  -- the command with the next number (§ Numbers, cancellation and dependence)
  abbrev pub next_survivor : TerminalNo → Command → Survivor
  next_survivor terminal command = record { number = s.last + 1; terminal = terminal; command = command }

  -- the state after a survivor more, at this desk
  abbrev pub with_survivor : Survivor → Desk → State
  with_survivor new desk =
      record s { desk = desk; survivors = s.survivors ++ new ∷ []; last = new.number }

module _ (k : Facts) (s : State) where
  -- the state without the survivor at which its survivors are split
  abbrev pub without : Split → State
  without at = record s { desk = run k (at.older ++ at.newer); survivors = at.older ++ at.newer }

  -- a command is accepted with the next number, or refused
  abbrev pub IsCommandTurn : Message → Survivor → TurnReply → State → Type 0
  IsCommandTurn m new (Accepted n reply) next =
      (done : Done) × (outcome_of k s.desk new ≡ Ok done) × (n ≡ new.number) × (reply ≡ done.reply)
      × (next ≡ keeping m (Accepted n reply) (with_survivor s new (after done.changes s.desk)))
  IsCommandTurn m new (Refused r) next =
      (outcome_of k s.desk new ≡ Err r) × (next ≡ keeping m (Refused r) s)
  IsCommandTurn m new _ next = ⊥

  -- a cancellation is refused without a target, or where a later survivor depends on it, and not otherwise
  abbrev pub IsRefusedCancel : Message → Cancel → Refusal → Type 0
  IsRefusedCancel m what refusal.NothingToCancel = NoTarget m.terminal what s.survivors
  IsRefusedCancel m what (refusal.Depends n) =
      (at : Split) × IsTarget m.terminal what s.survivors at × IsLeastDependent k s.survivors at.survivor n
  IsRefusedCancel m what _ = ⊥

  -- a cancellation is accepted where no later survivor depends on its target
  abbrev pub IsCancelTurn : Message → Cancel → TurnReply → State → Type 0
  IsCancelTurn m what (Refused r) next = IsRefusedCancel m what r × (next ≡ keeping m (Refused r) s)
  IsCancelTurn m what (Cancelled n) next =
      (at : Split) × IsTarget m.terminal what s.survivors at × NoneDepends k s.survivors at.survivor
      × (n ≡ at.survivor.number) × (next ≡ keeping m (Cancelled n) (without at))
  IsCancelTurn m what _ next = ⊥

  -- a query shows the copy, and changes nothing
  abbrev pub IsQueryTurn : CopyNo → TurnReply → State → Type 0
  IsQueryTurn c (Item view) next = (view ≡ item_view k s.desk c) × (next ≡ s)
  IsQueryTurn c _ next = ⊥

  -- a message that is no repeat
  abbrev pub IsNewTurn : Message → Asked → TurnReply → State → Type 0
  IsNewTurn m (ask.Command command) reply next =
      IsCommandTurn m (next_survivor s m.terminal command) reply next
  IsNewTurn m (ask.Cancel what) reply next = IsCancelTurn m what reply next
  IsNewTurn m (ask.Item c) reply next = IsQueryTurn c reply next

  -- What a message may be answered, and what that leaves: a repeat as before, and nothing changes.
  abbrev pub IsTurn : Message → TurnReply → State → Type 0
  IsTurn m reply next =
      (IsRepeat s m reply × (next ≡ s)) ⊎ (IsNew s m × IsNewTurn m m.asked reply next)
