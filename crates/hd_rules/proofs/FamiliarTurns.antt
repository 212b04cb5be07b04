-- A legal journal of messages that name things of the catalogue replies such again.
use Rattle.std.proofs.Common.{◌≡◌, refl, sym, ◌∙◌, ap, subst, ℕ, ◌<◌, ◌⊎◌, inl, inr, Bool, true, false, ◌==◌}
use Rattle.std.proofs.Common.{cond, List, [], ◌∷◌, ◌++◌}
use Rattle.std.proofs.Common.{Option, Some, None, Result, Ok, Err}
use Rattle.hd_rules.specs.Words.{CopyState, Cell, CopyCell, HoldCell, Value, CopyHas, HoldHas, Change}
use Rattle.hd_rules.specs.Words.{Command, Cancel, Survivor, Refusal}
use Rattle.hd_rules.specs.Words.{TurnReply, Asked}
use Rattle.hd_rules.specs.declared.turns.Asked.TheVariants as ask
use Rattle.hd_rules.specs.declared.replies.TurnReply.TheVariants.{Done as Accepted, Refused, Cancelled, Item}
use Rattle.hd_rules.specs.Facts.{Facts, AreInRange}
use Rattle.hd_rules.specs.Desk.{Desk, put, after}
use Rattle.hd_rules.specs.Ask.{Done}
use Rattle.hd_rules.specs.Run.{IsAmong, outcome_of, changed_by, step, run_from}
use Rattle.hd_rules.specs.Turns.{Message, Kept, State, start, kept_of, keeping, next_survivor}
use Rattle.hd_rules.specs.Machine.{turn_of}
use Rattle.hd_rules.specs.Turns.{IsCommandTurn, IsCancelTurn, IsQueryTurn, IsNewTurn, IsTurn}
use Rattle.hd_rules.specs.Journal.{Turn, state_after, IsLegalFrom, IsLegal, WasTold, IsRunOfSurvivors}
use Rattle.hd_rules.specs.Known.{IsKnownCell, IsKnownAction, IsKnown, IsKnownState, IsKnownHeld, IsKnownValue}
use Rattle.hd_rules.specs.Known.{IsKnownDesk, IsKnownReply}
use Rattle.hd_rules.specs.Known.{IsKnownTurnReply, IsKnownJournal}
use Rattle.hd_rules.proofs.Tests.{some_is}
use Rattle.hd_rules.proofs.Puts.{copy_cases, hold_cases}
use Rattle.hd_rules.proofs.Splits.{among_either}
use Rattle.hd_rules.proofs.Machine.{machine_turns}
use Rattle.hd_rules.proofs.Journals.{turn_step, legal_is_run}
use Rattle.hd_rules.proofs.Familiar.{known_done}

pub put_known : (k : Facts) (d : Desk) (x : Cell) (v : Value) → IsKnownDesk k d → IsKnownValue k v
    → IsKnownDesk k (put d x v)
put_known k d (CopyCell c) (CopyHas s) known fine = record {
  copies = λ y in_y. copy_cases (IsKnownState k) c y s (d.copy y) (λ e. fine) (λ other. known.copies y in_y);
  holds = known.holds;
}
put_known k d (HoldCell t p) (HoldHas o) known fine = record {
  copies = known.copies;
  holds = λ u q in_u in_q. hold_cases (IsKnownHeld k) t u p q o (d.hold u q) (λ e f. fine)
      (λ other. known.holds u q in_u in_q);
}
put_known k d (CopyCell c) (HoldHas o) known fine = known
put_known k d (HoldCell t p) (CopyHas s) known fine = known

pub after_known : (k : Facts) (d : Desk) (cs : List Change) → IsKnownDesk k d
    → ((change : Change) → IsAmong change cs → IsKnownCell k change.cell × IsKnownValue k change.new)
    → IsKnownDesk k (after cs d)
after_known k d [] known fine = known
after_known k d (c ∷ cs) known fine =
    after_known k (put d c.cell c.new) cs (put_known k d c.cell c.new known (fine c (inl refl)).1)
    (λ change among. fine change (inr among))

pub step_known : (k : Facts) (d : Desk) (s : Survivor) → AreInRange k → IsKnownDesk k d
    → IsKnownAction k s.command.action → IsKnownDesk k (step k d s)
step_known k d s range known fine = by_outcome (outcome_of k d s) refl
  where
    by_outcome : (r : Result Done Refusal) → outcome_of k d s ≡ r → IsKnownDesk k (changed_by r d)
    by_outcome (Ok done) is = after_known k d done.changes known
        (known_done k d s.number s.command done range known fine is).changes
    by_outcome (Err r) is = known

pub run_known : (k : Facts) (d : Desk) (ss : List Survivor) → AreInRange k → IsKnownDesk k d
    → ((s : Survivor) → IsAmong s ss → IsKnownAction k s.command.action) → IsKnownDesk k (run_from k d ss)
run_known k d [] range known fine = known
run_known k d (s ∷ ss) range known fine =
    run_known k (step k d s) ss range (step_known k d s range known (fine s (inl refl)))
    (λ x among. fine x (inr among))

-- each message of the turns names things of the catalogue
abbrev AllAskKnown : Facts → List Turn → Type 0
AllAskKnown k turns = (turn : Turn) → IsAmong turn turns → IsKnown k turn.message.asked

pub survivor_known : (k : Facts) (turns : List Turn) (s : Survivor) (done : Done) → AllAskKnown k turns
    → WasTold turns s done.reply → IsKnownAction k s.command.action
survivor_known k turns s done all told = subst (IsKnown k) told.asked (all told.turn told.among)

pub desk_known : (k : Facts) (turns : List Turn) (s : State) → AreInRange k → IsKnownDesk k k.opening.desk
    → AllAskKnown k turns → IsRunOfSurvivors k turns s → IsKnownDesk k s.desk
desk_known k turns s range opened all is =
    subst (IsKnownDesk k) (sym is.desk) (run_known k k.opening.desk s.survivors range opened
    (λ x among. survivor_known k turns x (is.replies x among).0 all (is.replies x among).2))

-- what is kept was replied
abbrev KeptKnown : Facts → (ℕ → Option Kept) → Type 0
KeptKnown k kept = (t : ℕ) (was : Kept) → kept t ≡ Some was → IsKnownTurnReply k was.reply

keeping_known : (k : Facts) (m : Message) (reply : TurnReply) (s : State) → KeptKnown k s.kept
    → IsKnownTurnReply k reply → KeptKnown k (keeping m reply s).kept
keeping_known k m reply s known fine t was = by_test (t == m.terminal)
  where
    of_line : (line : Option (List ℕ)) → kept_of line m.asked reply ≡ Some was → IsKnownTurnReply k was.reply
    of_line None is = cc
    of_line (Some xs) is =
        subst (λ (x : Kept). IsKnownTurnReply k x.reply)
        (some_is (record { line = xs; asked = m.asked; reply = reply }) was is) fine

    by_test : (b : Bool) → cond b (kept_of m.line m.asked reply) (s.kept t) ≡ Some was
        → IsKnownTurnReply k was.reply
    by_test true is = of_line m.line is
    by_test false is = known t was is

-- a reply that is known, and leaves known ones
record Fine (k : Facts) (reply : TurnReply) (next : State) : Type 0 where
  pub reply_known : IsKnownTurnReply k reply
  pub kept_known : KeptKnown k next.kept

fine_as : (k : Facts) (m : Message) (reply : TurnReply) (s next : State) → KeptKnown k s.kept
    → IsKnownTurnReply k reply → next ≡ keeping m reply s → Fine k reply next
fine_as k m reply s next known fine is = record {
  reply_known = fine;
  kept_known = subst (λ (x : State). KeptKnown k x.kept) (sym is) (keeping_known k m reply s known fine);
}

command_fine : (k : Facts) (s : State) (m : Message) (command : Command) (reply : TurnReply) (next : State)
    → AreInRange k → IsKnownDesk k s.desk → KeptKnown k s.kept → IsKnownAction k command.action
    → IsCommandTurn k s m (next_survivor s m.terminal command) reply next → Fine k reply next
command_fine k s m command (Accepted n reply) next range desk kept known h =
    fine_as k m (Accepted n reply) _ next kept
    (subst (IsKnownReply k) (sym h.3)
    (known_done k s.desk (next_survivor s m.terminal command).number command h.0 range desk known h.1).reply)
    h.4
command_fine k s m command (Refused r) next range desk kept known h =
    fine_as k m (Refused r) s next kept tt h.1
command_fine k s m command (Cancelled n) next range desk kept known h = absurd h
command_fine k s m command (Item view) next range desk kept known h = absurd h

cancel_fine : (k : Facts) (s : State) (m : Message) (what : Cancel) (reply : TurnReply) (next : State)
    → KeptKnown k s.kept → IsCancelTurn k s m what reply next → Fine k reply next
cancel_fine k s m what (Refused r) next kept h = fine_as k m (Refused r) s next kept tt h.1
cancel_fine k s m what (Cancelled n) next kept h = fine_as k m (Cancelled n) _ next kept tt h.4
cancel_fine k s m what (Accepted n reply) next kept h = absurd h
cancel_fine k s m what (Item view) next kept h = absurd h

query_fine : (k : Facts) (s : State) (c : ℕ) (reply : TurnReply) (next : State) → IsKnownDesk k s.desk
    → KeptKnown k s.kept → c < k.copies → IsQueryTurn k s c reply next → Fine k reply next
query_fine k s c (Item view) next desk kept in_c h = record {
  reply_known = subst (λ (x : CopyState). IsKnownState k x) (sym (λ i. (h.0 i).state)) (desk.copies c in_c);
  kept_known = subst (λ (x : State). KeptKnown k x.kept) (sym h.1) kept;
}
query_fine k s c (Accepted n reply) next desk kept in_c h = absurd h
query_fine k s c (Refused r) next desk kept in_c h = absurd h
query_fine k s c (Cancelled n) next desk kept in_c h = absurd h

new_fine : (k : Facts) (s : State) (m : Message) (a : Asked) (reply : TurnReply) (next : State)
    → AreInRange k → IsKnownDesk k s.desk → KeptKnown k s.kept → IsKnown k a → IsNewTurn k s m a reply next
    → Fine k reply next
new_fine k s m (ask.Command command) reply next range desk kept known h =
    command_fine k s m command reply next range desk kept known h
new_fine k s m (ask.Cancel what) reply next range desk kept known h = cancel_fine k s m what reply next kept h
new_fine k s m (ask.Item c) reply next range desk kept known h = query_fine k s c reply next desk kept known h

turn_fine : (k : Facts) (s : State) (m : Message) (reply : TurnReply) (next : State) → AreInRange k
    → IsKnownDesk k s.desk → KeptKnown k s.kept → IsKnown k m.asked → IsTurn k s m reply next
    → Fine k reply next
turn_fine k s m reply next range desk kept known (inl h) = record {
  reply_known = subst (IsKnownTurnReply k) (sym h.0.again) (kept m.terminal h.0.kept h.0.is_kept);
  kept_known = subst (λ (x : State). KeptKnown k x.kept) (sym h.1) kept;
}
turn_fine k s m reply next range desk kept known (inr h) =
    new_fine k s m m.asked reply next range desk kept known h.1

pub ask_more : (k : Facts) (past : List Turn) (turn : Turn) → AllAskKnown k past → IsKnown k turn.message.asked
    → AllAskKnown k (past ++ turn ∷ [])
ask_more k past turn all known x among = cases (among_either x past (turn ∷ []) among)
  where
    cases : IsAmong x past ⊎ IsAmong x (turn ∷ []) → IsKnown k x.message.asked
    cases (inl left) = all x left
    cases (inr (inl e)) = subst (λ (y : Turn). IsKnown k y.message.asked) (sym e) known
    cases (inr (inr none)) = absurd none

replies_known : (k : Facts) (past turns : List Turn) (s : State) → AreInRange k → IsKnownDesk k k.opening.desk
    → IsRunOfSurvivors k past s → KeptKnown k s.kept → AllAskKnown k past → AllAskKnown k turns
    → IsLegalFrom k s turns → (turn : Turn) → IsAmong turn turns → IsKnownTurnReply k turn.reply
replies_known k past [] s range opened is kept before all legal turn among = absurd among
replies_known k past (x ∷ xs) s range opened is kept before all legal turn among =
    cases among (replies_known k (past ++ x ∷ []) xs next range opened
    (turn_step k past x s (turn_of k s x.message).reply next is legal.0
    (machine_turns k s x.message is.rising))
    fine.kept_known (ask_more k past x before (all x (inl refl))) (λ y h. all y (inr h)) legal.1 turn)
  where
    next : State
    next = (turn_of k s x.message).state

    fine : Fine k (turn_of k s x.message).reply next
    fine = turn_fine k s x.message (turn_of k s x.message).reply next range
        (desk_known k past s range opened before is) kept (all x (inl refl))
        (machine_turns k s x.message is.rising)

    cases : (turn ≡ x) ⊎ IsAmong turn xs → (IsAmong turn xs → IsKnownTurnReply k turn.reply)
        → IsKnownTurnReply k turn.reply
    cases (inl e) more =
        subst (IsKnownTurnReply k) (sym (ap (λ (y : Turn). y.reply) e ∙ legal.0)) fine.reply_known
    cases (inr h) more = more h

pub known_journal : (k : Facts) (turns : List Turn) → AreInRange k → IsKnownDesk k k.opening.desk
    → IsLegal k turns → ((turn : Turn) → IsAmong turn turns → IsKnown k turn.message.asked)
    → IsKnownJournal k turns
known_journal k turns range opened legal all = record {
  desk = desk_known k turns (state_after k turns) range opened all (legal_is_run k turns legal);
  replies = replies_known k [] turns (start k) range opened (legal_is_run k [] tt) (λ t was is. cc)
      (λ turn among. absurd among) all legal;
}
