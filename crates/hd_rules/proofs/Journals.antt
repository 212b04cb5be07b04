-- After a legal list of turns the desk is the run of the survivors, and all their replies stand.
use Rattle.std.proofs.Common.{arith, ◌≡◌, refl, sym, ◌∙◌, ap, subst, ℕ, ◌+◌, ◌≤◌, ◌⊎◌, inl, inr, List, []}
use Rattle.std.proofs.Common.{◌∷◌, ◌++◌, append_assoc, Result}
use Rattle.std.proofs.Common.{Ok}
use Rattle.std.proofs.lemmas.List.{append-nil}
use Rattle.hd_rules.specs.Words.{Command, Cancel, Survivor, Refusal, Reply, TurnReply, Asked}
use Rattle.hd_rules.specs.declared.turns.Asked.TheVariants as ask
use Rattle.hd_rules.specs.declared.replies.TurnReply.TheVariants.{Done as Accepted, Refused, Cancelled, Item}
use Rattle.hd_rules.specs.Facts.{Facts, first_number}
use Rattle.hd_rules.specs.Desk.{Desk, after}
use Rattle.hd_rules.specs.Ask.{Done}
use Rattle.hd_rules.specs.Run.{IsAmong, outcome_of, changed_by, step, run, Rising, next_number}
use Rattle.hd_rules.specs.Depends.{before, less, NoneDepends}
use Rattle.hd_rules.specs.Target.{Split, IsTarget}
use Rattle.hd_rules.specs.Turns.{Message, State, start, with_survivor, without, next_survivor, keeping}
use Rattle.hd_rules.specs.Machine.{turn_of}
use Rattle.hd_rules.specs.Turns.{IsCommandTurn, IsCancelTurn, IsQueryTurn, IsNewTurn, IsTurn}
use Rattle.hd_rules.specs.Journal.{Turn, state_from, state_after, IsLegalFrom, IsLegal, replied_from, WasTold}
use Rattle.hd_rules.specs.Journal.{RepliesStand}
use Rattle.hd_rules.specs.Journal.{IsRunOfSurvivors}
use Rattle.hd_rules.proofs.Splits.{among_left, among_right, among_either, before_split, less_split}
use Rattle.hd_rules.proofs.Splits.{rising_without}
use Rattle.hd_rules.proofs.Walk.{run_one_more}
use Rattle.hd_rules.proofs.Legal.{before_more, outcomes_stand}
use Rattle.hd_rules.proofs.Machine.{machine_turns}

-- one more number
pub rising_more : (n : ℕ) (ss : List Survivor) (s : Survivor) → Rising n ss → next_number n ss ≤ s.number
    → Rising n (ss ++ s ∷ [])
rising_more n [] s rising le = (le, tt)
rising_more n (x ∷ xs) s rising le = (rising.0, rising_more (x.number + 1) xs s rising.1 le)

pub next_more : (n : ℕ) (ss : List Survivor) (s : Survivor) → next_number n (ss ++ s ∷ []) ≡ s.number + 1
next_more n [] s = refl
next_more n (x ∷ xs) s = next_more (x.number + 1) xs s

pub next_up : (m n : ℕ) (ss : List Survivor) → m ≤ n → next_number m ss ≤ next_number n ss
next_up m n [] le = le
next_up m n (s ∷ ss) le = next_self (s.number + 1) ss
  where
    next_self : (i : ℕ) (xs : List Survivor) → next_number i xs ≤ next_number i xs
    next_self i xs = omega arith

next_without : (n : ℕ) (older : List Survivor) (c : Survivor) (newer : List Survivor)
    → Rising n (older ++ c ∷ newer) → next_number n (older ++ newer) ≤ next_number n (older ++ c ∷ newer)
next_without n [] c newer rising = let low : n ≤ c.number = rising.0 in
    next_up n (c.number + 1) newer (omega arith)
next_without n (s ∷ ss) c newer rising = next_without (s.number + 1) ss c newer rising.1

-- what was told before is told still
told_more : (turns more : List Turn) (s : Survivor) (reply : Reply) → WasTold turns s reply
    → WasTold (turns ++ more) s reply
told_more turns more s reply w = record {
  turn = w.turn;
  among = among_left w.turn turns more w.among;
  terminal = w.terminal;
  asked = w.asked;
  told = w.told;
}

stand_more : (k : Facts) (turns more : List Turn) (ss : List Survivor) → RepliesStand k turns ss
    → RepliesStand k (turns ++ more) ss
stand_more k turns more ss stand s among =
    let r : (done : Done) × (outcome_of k (run k (before s.number ss)) s ≡ Ok done)
    × WasTold turns s done.reply = stand s among in
    (r.0, r.1, told_more turns more s r.0.reply r.2)

-- a turn that leaves desk, survivors and last number as they are
stays : (k : Facts) (turns : List Turn) (turn : Turn) (s next : State) → IsRunOfSurvivors k turns s
    → next.desk ≡ s.desk → next.survivors ≡ s.survivors → next.last ≡ s.last
    → IsRunOfSurvivors k (turns ++ turn ∷ []) next
stays k turns turn s next is desk survivors last = record {
  desk = desk ∙ is.desk ∙ ap (run k) (sym survivors);
  rising = subst (Rising (first_number k)) (sym survivors) is.rising;
  last = (let at : next_number (first_number k) s.survivors ≤ s.last + 1 = is.last in
      let same : next_number (first_number k) next.survivors ≡ next_number (first_number k) s.survivors =
      ap (next_number (first_number k)) survivors in
      let also : next.last ≡ s.last = last in omega arith);
  replies = subst (RepliesStand k (turns ++ turn ∷ [])) (sym survivors)
      (stand_more k turns (turn ∷ []) s.survivors is.replies);
}

-- the survivor that a turn adds
abbrev added : State → Turn → Command → Survivor
added s turn command = next_survivor s turn.message.terminal command

rising_added : (k : Facts) (turns : List Turn) (turn : Turn) (s : State) (command : Command)
    → IsRunOfSurvivors k turns s → Rising (first_number k) (s.survivors ++ added s turn command ∷ [])
rising_added k turns turn s command is =
    rising_more (first_number k) s.survivors (added s turn command) is.rising is.last

add_stands : (k : Facts) (turns : List Turn) (turn : Turn) (s : State) (command : Command) (done : Done)
    → IsRunOfSurvivors k turns s → turn.message.asked ≡ ask.Command command
    → turn.reply ≡ Accepted (s.last + 1) done.reply → outcome_of k s.desk (added s turn command) ≡ Ok done
    → RepliesStand k (turns ++ turn ∷ []) (s.survivors ++ added s turn command ∷ [])
add_stands k turns turn s command done is asked told ok x among =
    cases (among_either x s.survivors (added s turn command ∷ []) among)
  where
    new : Survivor
    new = added s turn command

    rises : Rising (first_number k) (s.survivors ++ new ∷ [])
    rises = rising_added k turns turn s command is

    last_told : WasTold (turns ++ turn ∷ []) new done.reply
    last_told = record {
      turn = turn;
      among = among_right turn turns (turn ∷ []) (inl refl);
      terminal = refl;
      asked = asked;
      told = told;
    }

    last_done : outcome_of k (run k (before new.number (s.survivors ++ new ∷ []))) new ≡ Ok done
    last_done =
        ap (λ (xs : List Survivor). outcome_of k (run k xs) new)
        (before_split (first_number k) s.survivors new [] rises)
        ∙ ap (λ (d : Desk). outcome_of k d new) (sym is.desk) ∙ ok

    cases : IsAmong x s.survivors ⊎ IsAmong x (new ∷ [])
        → (d : Done) × (outcome_of k (run k (before x.number (s.survivors ++ new ∷ []))) x ≡ Ok d) × WasTold
        (turns ++ turn ∷ []) x d.reply
    cases (inl left) =
        let r : (d : Done) × (outcome_of k (run k (before x.number s.survivors)) x ≡ Ok d)
        × WasTold turns x d.reply =
        is.replies x left in (
          r.0,
          ap (λ (xs : List Survivor). outcome_of k (run k xs) x)
              (before_more (first_number k) s.survivors (new ∷ []) x rises left)
              ∙ r.1,
          told_more turns (turn ∷ []) x r.0.reply r.2,
        )
    cases (inr (inl e)) =
        subst (λ (y : Survivor). (d : Done)
        × (outcome_of k (run k (before y.number (s.survivors ++ new ∷ []))) y ≡ Ok d)
        × WasTold (turns ++ turn ∷ []) y d.reply) (sym e)
        (done, last_done, last_told)
    cases (inr (inr none)) = absurd none

accepts : (k : Facts) (turns : List Turn) (turn : Turn) (s : State) (command : Command) (done : Done)
    → IsRunOfSurvivors k turns s → turn.message.asked ≡ ask.Command command
    → turn.reply ≡ Accepted (s.last + 1) done.reply
    → outcome_of k s.desk (added s turn command) ≡ Ok done → IsRunOfSurvivors k (turns ++ turn ∷ [])
    (with_survivor s (added s turn command) (after done.changes s.desk))
accepts k turns turn s command done is asked told ok = record {
  desk =
      ap (λ (r : Result Done Refusal). changed_by r s.desk) (sym ok)
      ∙ ap (λ (d : Desk). step k d (added s turn command)) is.desk
      ∙ sym (run_one_more k s.survivors (added s turn command));
  rising = rising_added k turns turn s command is;
  last =
      (let at : next_number (first_number k) (s.survivors ++ added s turn command ∷ []) ≡ (s.last + 1) + 1 =
      next_more (first_number k) s.survivors (added s turn command) in omega arith);
  replies = add_stands k turns turn s command done is asked told ok;
}

-- the survivors of a cancellation
cancel_stands : (k : Facts) (turns : List Turn) (older : List Survivor) (c : Survivor) (newer : List Survivor)
    → Rising (first_number k) (older ++ c ∷ newer) → NoneDepends k (older ++ c ∷ newer) c
    → RepliesStand k turns (older ++ c ∷ newer) → RepliesStand k turns (older ++ newer)
cancel_stands k turns older c newer rising none stand s among =
    let r : (done : Done) × (outcome_of k (run k (before s.number (older ++ c ∷ newer))) s ≡ Ok done)
    × WasTold turns s done.reply =
    stand s (back (among_either s older newer among)) in
    (r.0, same ∙ r.1, r.2)
  where
    back : IsAmong s older ⊎ IsAmong s newer → IsAmong s (older ++ c ∷ newer)
    back (inl left) = among_left s older (c ∷ newer) left
    back (inr right) = among_right s older (c ∷ newer) (inr right)

    e : less c.number (older ++ c ∷ newer) ≡ older ++ newer
    e = less_split (first_number k) older c newer rising

    same : outcome_of k (run k (before s.number (older ++ newer))) s ≡ outcome_of k
        (run k (before s.number (older ++ c ∷ newer))) s
    same = subst (λ (xs : List Survivor). IsAmong s xs
        → outcome_of k (run k (before s.number xs)) s ≡ outcome_of k
        (run k (before s.number (older ++ c ∷ newer))) s) e
        (outcomes_stand k (older ++ c ∷ newer) c rising (among_right c older (c ∷ newer) (inl refl)) none s)
        among

-- what is left when a target on which none depends is taken out
pub record Left (k : Facts) (turns : List Turn) (n : ℕ) (at : Split) : Type 0 where
  pub rising : Rising (first_number k) (at.older ++ at.newer)
  pub last : next_number (first_number k) (at.older ++ at.newer) ≤ n + 1
  pub replies : RepliesStand k turns (at.older ++ at.newer)

pub left_by : (k : Facts) (turns : List Turn) (ss : List Survivor) (n : ℕ) (at : Split)
    → ss ≡ at.older ++ at.survivor ∷ at.newer → Rising (first_number k) ss
    → next_number (first_number k) ss ≤ n + 1 → RepliesStand k turns ss → NoneDepends k ss at.survivor
    → Left k turns n at
left_by k turns ss n at split rising last stand none =
    subst (λ (xs : List Survivor). Rising (first_number k) xs → next_number (first_number k) xs ≤ n + 1
    → RepliesStand k turns xs → NoneDepends k xs at.survivor
    → Left k turns n at) (sym split)
    (λ r l st no_one. record {
      rising = rising_without (first_number k) at.older at.survivor at.newer r;
      last = (let low : next_number (first_number k) (at.older ++ at.newer) ≤ next_number (first_number k)
          (at.older ++ at.survivor ∷ at.newer) =
          next_without (first_number k) at.older at.survivor at.newer r in
          let up : next_number (first_number k) (at.older ++ at.survivor ∷ at.newer) ≤ n + 1 = l in
          omega arith);
      replies = cancel_stands k turns at.older at.survivor at.newer r no_one st;
    }) rising last stand none

cancels : (k : Facts) (turns : List Turn) (turn : Turn) (s : State) (t : ℕ) (what : Cancel) (at : Split)
    → IsRunOfSurvivors k turns s → IsTarget t what s.survivors at → NoneDepends k s.survivors at.survivor
    → IsRunOfSurvivors k (turns ++ turn ∷ []) (without k s at)
cancels k turns turn s t what at is aimed none =
    let l : Left k turns s.last at =
    left_by k turns s.survivors s.last at aimed.split is.rising is.last is.replies none in
    record {
      desk = refl;
      rising = l.rising;
      last = l.last;
      replies = stand_more k turns (turn ∷ []) (at.older ++ at.newer) l.replies;
    }

-- a state in which something else is kept
kept_too : (k : Facts) (turns : List Turn) (m : Message) (reply : TurnReply) (s : State)
    → IsRunOfSurvivors k turns s → IsRunOfSurvivors k turns (keeping m reply s)
kept_too k turns m reply s is =
    record { desk = is.desk; rising = is.rising; last = is.last; replies = is.replies }

command_step : (k : Facts) (turns : List Turn) (turn : Turn) (s : State) (command : Command)
    (reply : TurnReply) (next : State) → IsRunOfSurvivors k turns s → turn.message.asked ≡ ask.Command command
    → turn.reply ≡ reply → IsCommandTurn k s turn.message (added s turn command) reply next
    → IsRunOfSurvivors k (turns ++ turn ∷ []) next
command_step k turns turn s command (Accepted n reply) next is asked told h =
    let as_told : turn.reply ≡ Accepted (s.last + 1) h.0.reply = told ∙ (λ i. Accepted (h.2 i) (h.3 i)) in
    subst (IsRunOfSurvivors k (turns ++ turn ∷ [])) (sym h.4)
    (kept_too k (turns ++ turn ∷ []) turn.message (Accepted n reply) _
    (accepts k turns turn s command h.0 is asked as_told h.1))
command_step k turns turn s command (Refused r) next is asked told h =
    subst (IsRunOfSurvivors k (turns ++ turn ∷ [])) (sym h.1)
    (stays k turns turn s (keeping turn.message (Refused r) s) is refl refl refl)
command_step k turns turn s command (Cancelled n) next is asked told h = absurd h
command_step k turns turn s command (Item view) next is asked told h = absurd h

cancel_step : (k : Facts) (turns : List Turn) (turn : Turn) (s : State) (what : Cancel) (reply : TurnReply)
    (next : State) → IsRunOfSurvivors k turns s → IsCancelTurn k s turn.message what reply next
    → IsRunOfSurvivors k (turns ++ turn ∷ []) next
cancel_step k turns turn s what (Refused r) next is h =
    subst (IsRunOfSurvivors k (turns ++ turn ∷ [])) (sym h.1)
    (stays k turns turn s (keeping turn.message (Refused r) s) is refl refl refl)
cancel_step k turns turn s what (Cancelled n) next is h =
    subst (IsRunOfSurvivors k (turns ++ turn ∷ [])) (sym h.4)
    (kept_too k (turns ++ turn ∷ []) turn.message (Cancelled n) (without k s h.0)
    (cancels k turns turn s turn.message.terminal what h.0 is h.1 h.2))
cancel_step k turns turn s what (Accepted n reply) next is h = absurd h
cancel_step k turns turn s what (Item view) next is h = absurd h

query_step : (k : Facts) (turns : List Turn) (turn : Turn) (s : State) (c : ℕ)
    (reply : TurnReply) (next : State) → IsRunOfSurvivors k turns s → IsQueryTurn k s c reply next
    → IsRunOfSurvivors k (turns ++ turn ∷ []) next
query_step k turns turn s c (Item view) next is h =
    subst (IsRunOfSurvivors k (turns ++ turn ∷ [])) (sym h.1) (stays k turns turn s s is refl refl refl)
query_step k turns turn s c (Accepted n reply) next is h = absurd h
query_step k turns turn s c (Refused r) next is h = absurd h
query_step k turns turn s c (Cancelled n) next is h = absurd h

new_step : (k : Facts) (turns : List Turn) (turn : Turn) (s : State) (a : Asked) (reply : TurnReply)
    (next : State) → IsRunOfSurvivors k turns s → turn.message.asked ≡ a → turn.reply ≡ reply
    → IsNewTurn k s turn.message a reply next → IsRunOfSurvivors k (turns ++ turn ∷ []) next
new_step k turns turn s (ask.Command command) reply next is asked told h =
    command_step k turns turn s command reply next is asked told h
new_step k turns turn s (ask.Cancel what) reply next is asked told h =
    cancel_step k turns turn s what reply next is h
new_step k turns turn s (ask.Item c) reply next is asked told h = query_step k turns turn s c reply next is h

pub turn_step : (k : Facts) (turns : List Turn) (turn : Turn) (s : State) (reply : TurnReply) (next : State)
    → IsRunOfSurvivors k turns s → turn.reply ≡ reply → IsTurn k s turn.message reply next
    → IsRunOfSurvivors k (turns ++ turn ∷ []) next
turn_step k turns turn s reply next is told (inl h) =
    subst (IsRunOfSurvivors k (turns ++ turn ∷ [])) (sym h.1) (stays k turns turn s s is refl refl refl)
turn_step k turns turn s reply next is told (inr h) =
    new_step k turns turn s turn.message.asked reply next is refl told h.1

goes_on : (k : Facts) (past turns : List Turn) (s : State) → IsRunOfSurvivors k past s → IsLegalFrom k s turns
    → IsRunOfSurvivors k (past ++ turns) (state_from k s turns)
goes_on k past [] s is legal = subst (λ (ts : List Turn). IsRunOfSurvivors k ts s) (sym (append-nil past)) is
goes_on k past (turn ∷ turns) s is legal =
    subst (λ (ts : List Turn). IsRunOfSurvivors k ts (state_from k (turn_of k s turn.message).state turns))
    (append_assoc past (turn ∷ []) turns)
    (goes_on k (past ++ turn ∷ []) turns (turn_of k s turn.message).state
    (turn_step k past turn s (turn_of k s turn.message).reply (turn_of k s turn.message).state is legal.0
    (machine_turns k s turn.message is.rising))
    legal.1)

pub legal_is_run : (k : Facts) (turns : List Turn) → IsLegal k turns
    → IsRunOfSurvivors k turns (state_after k turns)
legal_is_run k turns legal =
    goes_on k [] turns (start k)
    (record {
      desk = refl;
      rising = tt;
      last = (let le : first_number k ≤ k.opening.last + 1 = omega arith in le);
      replies = λ s among. absurd among;
    }) legal

-- lists of turns in two parts
pub legal_parts : (k : Facts) (s : State) (xs ys : List Turn) → IsLegalFrom k s (xs ++ ys)
    → IsLegalFrom k s xs × IsLegalFrom k (state_from k s xs) ys
legal_parts k s [] ys legal = (tt, legal)
legal_parts k s (x ∷ xs) ys legal =
    let rest : IsLegalFrom k (turn_of k s x.message).state xs
    × IsLegalFrom k (state_from k (turn_of k s x.message).state xs) ys =
    legal_parts k (turn_of k s x.message).state xs ys legal.1 in
    ((legal.0, rest.0), rest.1)

pub legal_joined : (k : Facts) (s : State) (xs ys : List Turn) → IsLegalFrom k s xs
    → IsLegalFrom k (state_from k s xs) ys → IsLegalFrom k s (xs ++ ys)
legal_joined k s [] ys first rest = rest
legal_joined k s (x ∷ xs) ys first rest =
    (first.0, legal_joined k (turn_of k s x.message).state xs ys first.1 rest)

pub state_joined : (k : Facts) (s : State) (xs ys : List Turn)
    → state_from k s (xs ++ ys) ≡ state_from k (state_from k s xs) ys
state_joined k s [] ys = refl
state_joined k s (x ∷ xs) ys = state_joined k (turn_of k s x.message).state xs ys

-- the machine's replies are legal, and the only ones
pub replied_legal : (k : Facts) (s : State) (turns : List Turn) → IsLegalFrom k s (replied_from k s turns)
replied_legal k s [] = tt
replied_legal k s (turn ∷ turns) = (refl, replied_legal k (turn_of k s turn.message).state turns)

pub replied_same : (k : Facts) (s : State) (turns : List Turn) → IsLegalFrom k s turns
    → replied_from k s turns ≡ turns
replied_same k s [] legal = refl
replied_same k s (turn ∷ turns) legal =
    let rest : replied_from k (turn_of k s turn.message).state turns ≡ turns =
    replied_same k (turn_of k s turn.message).state turns legal.1 in
    λ i. record { seat = turn.seat; message = turn.message; reply = (sym legal.0) i } ∷ rest i
