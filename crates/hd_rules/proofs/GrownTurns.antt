-- A journal goes on under a grown catalogue, with all its turns.
use Rattle.std.proofs.Common.{arith, ◌≡◌, refl, sym, ◌∙◌, ap, subst, ℕ, ◌<◌, ◌≤◌, ◌⊎◌, inl, inr}
use Rattle.std.proofs.Common.{Bool, ◌==◌, ◌&&◌, cond, if◌then◌else◌, Option, Some, None}
use Rattle.std.proofs.Common.{List, [], ◌∷◌, ◌++◌, Result, Ok, Err, ◌↔◌}
use Rattle.std.specs.Prelude.{not, is_some, nat_lt, filter}
use Rattle.hd_rules.specs.Words.{Hold, CopyState, Cell, CopyCell, HoldCell, Value, CopyHas, HoldHas, Change}
use Rattle.hd_rules.specs.Words.{Command, Cancel, Survivor, Refusal, TurnReply, Asked}
use Rattle.hd_rules.specs.declared.turns.Asked.TheVariants as ask
use Rattle.hd_rules.specs.declared.replies.TurnReply.TheVariants.{Item}
use Rattle.hd_rules.specs.Facts.{Facts, AreInRange}
use Rattle.hd_rules.specs.Desk.{Desk, put, after}
use Rattle.hd_rules.specs.Choose.{count_below}
use Rattle.hd_rules.specs.Ask.{Done}
use Rattle.hd_rules.specs.Step.{plan}
use Rattle.hd_rules.specs.Run.{IsAmong, outcome_of, changed_by, step, run_from, run, before, less}
use Rattle.hd_rules.specs.Target.{Split, IsTarget}
use Rattle.hd_rules.specs.Searches.{target, depends, first_dependent}
use Rattle.hd_rules.specs.Turns.{Message, State, Answered, start, next_survivor}
use Rattle.hd_rules.specs.Machine.{turn_of, with_kept, answered_command, answered_target, answered_cancel}
use Rattle.hd_rules.specs.Machine.{answered_new, answered_unless, reply_again}
use Rattle.hd_rules.specs.Journal.{Turn, state_from, state_after, IsLegalFrom, IsLegal, IsRunOfSurvivors}
use Rattle.hd_rules.specs.Record.{Record, IsRecord}
use Rattle.hd_rules.specs.Known.{IsKnownCell, IsKnownAction, IsKnown, IsKnownDesk}
use Rattle.hd_rules.specs.Growth.{IsGrownDesk, Grows, IsGrownState, AreOfCatalogue}
use Rattle.hd_rules.proofs.Puts.{copy_cases, hold_cases}
use Rattle.hd_rules.proofs.Filters.{in_filter}
use Rattle.hd_rules.proofs.Splits.{among_left, among_right, among_either}
use Rattle.hd_rules.proofs.Newest.{target_is}
use Rattle.hd_rules.proofs.Machine.{machine_turns}
use Rattle.hd_rules.proofs.Journals.{turn_step, legal_is_run}
use Rattle.hd_rules.proofs.Familiar.{known_done}
use Rattle.hd_rules.proofs.FamiliarTurns.{run_known, survivor_known, desk_known, step_known, ask_more}
use Rattle.hd_rules.proofs.Growing.{holds_same}
use Rattle.hd_rules.proofs.Grown.{Same, Related, plan_same}

-- a cell of the first catalogue gets the same value
module _ (k j : Facts) where
  pub put_grown : (d e : Desk) (x : Cell) (v : Value) → IsGrownDesk k j d e → IsKnownCell k x
      → IsGrownDesk k j (put d x v) (put e x v)
  put_grown d e (CopyCell c) (CopyHas s) grown in_c = record {
    copies = λ y in_y. ap (λ (w : CopyState). cond (c == y) s w) (grown.copies y in_y);
    holds = grown.holds;
    new_copies = λ y new. copy_cases (λ (w : CopyState). w ≡ j.opening.desk.copy y) c y s (e.copy y)
        (λ is. absurd (let never : ⊥ = omega arith in never)) (λ other. grown.new_copies y new);
    new_holds = grown.new_holds;
  }
  put_grown d e (HoldCell t p) (HoldHas o) grown known = record {
    copies = grown.copies;
    holds = λ u q in_u in_q.
        ap (λ (w : Option Hold). cond ((t == u) && (p == q)) o w) (grown.holds u q in_u in_q);
    new_copies = grown.new_copies;
    new_holds = λ u q new. hold_cases (λ (w : Option Hold). w ≡ j.opening.desk.hold u q) t u p q o (e.hold u q)
        (λ is also. absurd (never u q is also new)) (λ other. grown.new_holds u q new);
  }
    where
      never : (u q : ℕ) → t ≡ u → p ≡ q → (k.titles ≤ u) ⊎ (k.patrons ≤ q) → ⊥
      never u q is also (inl new) = let lt : t < k.titles = known.0 in omega arith
      never u q is also (inr new) = let lt : p < k.patrons = known.1 in omega arith
  put_grown d e (CopyCell c) (HoldHas o) grown known = grown
  put_grown d e (HoldCell t p) (CopyHas s) grown known = grown

  after_grown : (d e : Desk) (cs : List Change) → IsGrownDesk k j d e
      → ((change : Change) → IsAmong change cs → IsKnownCell k change.cell)
      → IsGrownDesk k j (after cs d) (after cs e)
  after_grown d e [] grown known = grown
  after_grown d e (c ∷ cs) grown known =
      after_grown (put d c.cell c.new) (put e c.cell c.new) cs
      (put_grown d e c.cell c.new grown (known c (inl refl))) (λ change among. known change (inr among))

-- commands that name things of the first catalogue
abbrev AllAct : Facts → List Survivor → Type 0
AllAct k ss = (s : Survivor) → IsAmong s ss → IsKnownAction k s.command.action

-- both catalogues, and what the first one's opening names
pub record Opened (k j : Facts) : Type 0 where
  pub grows : Grows k j
  pub range : AreInRange k
  pub known : IsKnownDesk k k.opening.desk

module _ (k j : Facts) (opened : Opened k j) where
  outcome_same : (d e : Desk) (s : Survivor) → IsKnownDesk k d → IsGrownDesk k j d e
      → IsKnownAction k s.command.action → outcome_of j e s ≡ outcome_of k d s
  outcome_same d e s desk grown known =
      (plan_same k j d e (record { grows = opened.grows; range = opened.range; desk = desk; grown = grown })
      s.number s.command known).ends

  changed_grown : (d e : Desk) (s : Survivor) (r : Result Done Refusal) → outcome_of k d s ≡ r
      → IsKnownDesk k d → IsGrownDesk k j d e → IsKnownAction k s.command.action
      → IsGrownDesk k j (changed_by r d) (changed_by r e)
  changed_grown d e s (Ok done) is desk grown known = after_grown k j d e done.changes grown
      (λ change among.
      ((known_done k d s.number s.command done opened.range desk known is).changes change among).0)
  changed_grown d e s (Err why) is desk grown known = grown

  pub step_grown : (d e : Desk) (s : Survivor) → IsKnownDesk k d → IsGrownDesk k j d e
      → IsKnownAction k s.command.action → IsGrownDesk k j (step k d s) (step j e s)
  step_grown d e s desk grown known =
      subst (λ (r : Result Done Refusal). IsGrownDesk k j (step k d s) (changed_by r e))
      (sym (outcome_same d e s desk grown known))
      (changed_grown d e s (outcome_of k d s) refl desk grown known)

  run_from_grown : (d e : Desk) (ss : List Survivor) → IsKnownDesk k d → IsGrownDesk k j d e → AllAct k ss
      → IsGrownDesk k j (run_from k d ss) (run_from j e ss)
  run_from_grown d e [] desk grown all = grown
  run_from_grown d e (s ∷ ss) desk grown all = run_from_grown (step k d s) (step j e s) ss
      (step_known k d s opened.range desk (all s (inl refl)))
      (step_grown d e s desk grown (all s (inl refl))) (λ x among. all x (inr among))

  pub run_grown : (ss : List Survivor) → AllAct k ss → IsGrownDesk k j (run k ss) (run j ss)
  run_grown ss all = run_from_grown k.opening.desk j.opening.desk ss opened.known opened.grows.opening all

  filter_acts : (test : Survivor → Bool) (ss : List Survivor) → AllAct k ss → AllAct k (filter test ss)
  filter_acts test ss all s among = all s (in_filter test s ss among).0

  before_acts : (n : ℕ) (ss : List Survivor) → AllAct k ss → AllAct k (before n ss)
  before_acts n ss all = filter_acts (λ (s : Survivor). nat_lt s.number n) ss all

  less_acts : (n : ℕ) (ss : List Survivor) → AllAct k ss → AllAct k (less n ss)
  less_acts n ss all = filter_acts (λ (s : Survivor). not (s.number == n)) ss all

  related : (ss : List Survivor) → AllAct k ss → Related k j (run k ss) (run j ss)
  related ss all = record {
    grows = opened.grows;
    range = opened.range;
    desk = run_known k k.opening.desk ss opened.range opened.known all;
    grown = run_grown ss all;
  }

  -- what a later command depends on
  depends_same : (ss : List Survivor) (c d : Survivor) → AllAct k ss → IsKnownAction k d.command.action
      → depends j ss c d ≡ depends k ss c d
  depends_same ss c d all known =
      let ones : List Survivor = before d.number ss in
      let act : AllAct k ones = before_acts d.number ss all in
      (plan_same k j (run k ones) (run j ones) (related ones act) d.number d.command known).otherwise
      (run k (less c.number ones)) (run j (less c.number ones))
      (run_grown (less c.number ones) (less_acts c.number ones act))

  first_dependent_same : (ss : List Survivor) (c : Survivor) (ds : List Survivor) → AllAct k ss → AllAct k ds
      → first_dependent j ss c ds ≡ first_dependent k ss c ds
  first_dependent_same ss c [] all later = refl
  first_dependent_same ss c (d ∷ ds) all later =
      let here : depends j ss c d ≡ depends k ss c d = depends_same ss c d all (later d (inl refl)) in
      let rest : first_dependent j ss c ds ≡ first_dependent k ss c ds =
      first_dependent_same ss c ds all (λ x among. later x (inr among)) in
      λ i. if here i then Some d.number else rest i

  -- the record of a survivor
  record_same : (ss : List Survivor) (s : Survivor) (r : Record) → AllAct k ss
      → IsKnownAction k s.command.action → IsRecord k ss s r → IsRecord j ss s r
  record_same ss s r all known is =
      let ones : List Survivor = before s.number ss in
      let act : AllAct k ones = before_acts s.number ss all in
      let same : Same k j (run k ones) (run j ones) (plan k s.number s.command) (plan j s.number s.command) =
      plan_same k j (run k ones) (run j ones) (related ones act) s.number s.command known in
      record {
        number = is.number;
        terminal = is.terminal;
        command = is.command;
        done = same.ends ∙ is.done;
        findings = is.findings ∙ sym same.found;
      }

-- the same state, at another desk
abbrev at_desk : Desk → State → State
at_desk e s = record { desk = e; survivors = s.survivors; last = s.last; kept = s.kept }

-- the same reply, and the same state but for what is new
pub record SameTurn (k j : Facts) (a b : Answered) : Type 0 where
  pub reply : b.reply ≡ a.reply
  pub state : IsGrownState k j a.state b.state

module _ (k j : Facts) (opened : Opened k j) (s : State) (e : Desk) (m : Message)
    (desk : IsKnownDesk k s.desk) (grown : IsGrownDesk k j s.desk e) (all : AllAct k s.survivors) where
  stays : IsGrownState k j s (at_desk e s)
  stays = record { desk = grown; survivors = refl; last = refl; kept = refl }

  command_same : (command : Command) (r : Result Done Refusal)
      → outcome_of k s.desk (next_survivor s m.terminal command) ≡ r → IsKnownAction k command.action
      → SameTurn k j (with_kept m (answered_command s (next_survivor s m.terminal command) r))
      (with_kept m (answered_command (at_desk e s) (next_survivor s m.terminal command) r))
  command_same command (Ok done) is known = record {
    reply = refl;
    state = record {
      desk = changed_grown k j opened s.desk e (next_survivor s m.terminal command) (Ok done) is desk grown known;
      survivors = refl;
      last = refl;
      kept = refl;
    };
  }
  command_same command (Err why) is known =
      record { reply = refl; state = record { desk = grown; survivors = refl; last = refl; kept = refl } }

  target_same : (what : Cancel) (at : Split) (o : Option ℕ) → IsTarget m.terminal what s.survivors at
      → SameTurn k j (with_kept m (answered_target k s at o)) (with_kept m (answered_target j (at_desk e s) at o))
  target_same what at (Some n) is =
      record { reply = refl; state = record { desk = grown; survivors = refl; last = refl; kept = refl } }
  target_same what at None is = record {
    reply = refl;
    state = record {
      desk = run_grown k j opened (at.older ++ at.newer) (λ x among. cases x (among_either x at.older at.newer among));
      survivors = refl;
      last = refl;
      kept = refl;
    };
  }
    where
      cases : (x : Survivor) → IsAmong x at.older ⊎ IsAmong x at.newer → IsKnownAction k x.command.action
      cases x (inl old) = all x (subst (IsAmong x) (sym is.split)
          (among_left x at.older (at.survivor ∷ at.newer) old))
      cases x (inr new) = all x (subst (IsAmong x) (sym is.split)
          (among_right x at.older (at.survivor ∷ at.newer) (inr new)))

  cancel_same : (what : Cancel) (o : Option Split) → target m.terminal what s.survivors ≡ o
      → SameTurn k j (with_kept m (answered_cancel k s o)) (with_kept m (answered_cancel j (at_desk e s) o))
  cancel_same what None is =
      record { reply = refl; state = record { desk = grown; survivors = refl; last = refl; kept = refl } }
  cancel_same what (Some at) is =
      let its : IsTarget m.terminal what s.survivors at = (target_is m.terminal what s.survivors at).0 is in
      let found : first_dependent j s.survivors at.survivor at.newer
      ≡ first_dependent k s.survivors at.survivor at.newer =
      first_dependent_same k j opened s.survivors at.survivor at.newer all
      (λ x among. all x (subst (IsAmong x) (sym its.split)
      (among_right x at.older (at.survivor ∷ at.newer) (inr among)))) in
      subst (λ (o : Option ℕ). SameTurn k j (with_kept m (answered_cancel k s (Some at)))
      (with_kept m (answered_target j (at_desk e s) at o))) (sym found)
      (target_same what at (first_dependent k s.survivors at.survivor at.newer) its)

  new_same : (a : Asked) → IsKnown k a
      → SameTurn k j (answered_new k s m a) (answered_new j (at_desk e s) m a)
  new_same (ask.Command command) known =
      subst (λ (r : Result Done Refusal).
      SameTurn k j (answered_new k s m (ask.Command command))
      (with_kept m (answered_command (at_desk e s) (next_survivor s m.terminal command) r)))
      (sym (outcome_same k j opened s.desk e (next_survivor s m.terminal command) desk grown known))
      (command_same command (outcome_of k s.desk (next_survivor s m.terminal command)) refl known)
  new_same (ask.Cancel what) known = cancel_same what (target m.terminal what s.survivors) refl
  new_same (ask.Item c) known = record {
    reply = λ i. Item (record {
      state = grown.copies c known i;
      holds = (ap (λ (t : ℕ). count_below (λ p. is_some (e.hold t p)) j.patrons) (opened.grows.longer.title_of c known)
          ∙ holds_same k j opened.grows opened.range s.desk e grown (k.title_of c)
          (opened.range.title_of c known)) i;
    });
    state = stays;
  }

  turn_same : IsKnown k m.asked → SameTurn k j (turn_of k s m) (turn_of j (at_desk e s) m)
  turn_same known = by_kept (reply_again s m)
    where
      by_kept : (o : Option TurnReply)
          → SameTurn k j (answered_unless k s m o) (answered_unless j (at_desk e s) m o)
      by_kept (Some reply) = record { reply = refl; state = stays }
      by_kept None = new_same m.asked known

-- a turn of a grown state
turn_grown : (k j : Facts) (s u : State) (m : Message) → Opened k j → IsKnownDesk k s.desk
    → AllAct k s.survivors → IsGrownState k j s u → IsKnown k m.asked
    → SameTurn k j (turn_of k s m) (turn_of j u m)
turn_grown k j s u m opened desk all is known =
    let whole : at_desk u.desk s ≡ u =
    λ i. record { desk = u.desk; survivors = sym is.survivors i; last = sym is.last i; kept = sym is.kept i } in
    subst (λ (v : State). SameTurn k j (turn_of k s m) (turn_of j v m)) whole
    (turn_same k j opened s u.desk m desk is.desk all known)

-- a journal that has come so far
pub record SoFar (k j : Facts) (past : List Turn) (s u : State) : Type 0 where
  pub opened : Opened k j
  pub ask : (turn : Turn) → IsAmong turn past → IsKnown k turn.message.asked
  pub is : IsRunOfSurvivors k past s
  pub grown : IsGrownState k j s u

module _ (k j : Facts) where
  acts : (past : List Turn) (s u : State) → SoFar k j past s u → AllAct k s.survivors
  acts past s u far x among =
      survivor_known k past x (far.is.replies x among).0 far.ask (far.is.replies x among).2

  pub next_same : (past : List Turn) (s u : State) (m : Message) → SoFar k j past s u → IsKnown k m.asked
      → SameTurn k j (turn_of k s m) (turn_of j u m)
  next_same past s u m far known = turn_grown k j s u m far.opened
      (desk_known k past s far.opened.range far.opened.known far.ask far.is) (acts past s u far) far.grown known

  pub one_further : (past : List Turn) (s u : State) (turn : Turn) → SoFar k j past s u
      → IsKnown k turn.message.asked → turn.reply ≡ (turn_of k s turn.message).reply
      → SoFar k j (past ++ turn ∷ []) (turn_of k s turn.message).state (turn_of j u turn.message).state
  one_further past s u turn far known legal = record {
    opened = far.opened;
    ask = ask_more k past turn far.ask known;
    is = turn_step k past turn s (turn_of k s turn.message).reply (turn_of k s turn.message).state far.is legal
        (machine_turns k s turn.message far.is.rising);
    grown = (next_same past s u turn.message far known).state;
  }

  legal_on : (past turns : List Turn) (s u : State) → SoFar k j past s u
      → ((turn : Turn) → IsAmong turn turns → IsKnown k turn.message.asked) → IsLegalFrom k s turns
      → IsLegalFrom j u turns × IsGrownState k j (state_from k s turns) (state_from j u turns)
  legal_on past [] s u far ask legal = (tt, far.grown)
  legal_on past (x ∷ xs) s u far ask legal =
      let same : SameTurn k j (turn_of k s x.message) (turn_of j u x.message) =
      next_same past s u x.message far (ask x (inl refl)) in
      let rest : IsLegalFrom j (turn_of j u x.message).state xs
      × IsGrownState k j (state_from k (turn_of k s x.message).state xs)
      (state_from j (turn_of j u x.message).state xs) =
      legal_on (past ++ x ∷ []) xs (turn_of k s x.message).state (turn_of j u x.message).state
      (one_further past s u x far (ask x (inl refl)) legal.0) (λ y among. ask y (inr among)) legal.1 in
      ((legal.0 ∙ sym same.reply, rest.0), rest.1)

  legal_back : (past turns : List Turn) (s u : State) → SoFar k j past s u
      → ((turn : Turn) → IsAmong turn turns → IsKnown k turn.message.asked) → IsLegalFrom j u turns
      → IsLegalFrom k s turns
  legal_back past [] s u far ask legal = tt
  legal_back past (x ∷ xs) s u far ask legal =
      let same : SameTurn k j (turn_of k s x.message) (turn_of j u x.message) =
      next_same past s u x.message far (ask x (inl refl)) in
      let here : x.reply ≡ (turn_of k s x.message).reply = legal.0 ∙ same.reply in (
        here,
        legal_back (past ++ x ∷ []) xs (turn_of k s x.message).state (turn_of j u x.message).state
            (one_further past s u x far (ask x (inl refl)) here) (λ y among. ask y (inr among)) legal.1,
      )

  pub at_start : Grows k j → (turns : List Turn) → AreOfCatalogue k turns → SoFar k j [] (start k) (start j)
  at_start grows turns of = record {
    opened = record { grows = grows; range = of.range; known = of.opening };
    ask = λ turn among. absurd among;
    is = legal_is_run k [] tt;
    grown = record { desk = grows.opening; survivors = refl; last = grows.longer.last; kept = refl };
  }

pub legal_grown : (k j : Facts) (turns : List Turn) → Grows k j → AreOfCatalogue k turns
    → IsLegal k turns ↔ IsLegal j turns
legal_grown k j turns grows of = (
  λ legal. (legal_on k j [] turns (start k) (start j) (at_start k j grows turns of) of.ask legal).0,
  λ legal. legal_back k j [] turns (start k) (start j) (at_start k j grows turns of) of.ask legal,
)

pub state_grown : (k j : Facts) (turns : List Turn) → Grows k j → AreOfCatalogue k turns → IsLegal k turns
    → IsGrownState k j (state_after k turns) (state_after j turns)
state_grown k j turns grows of legal =
    (legal_on k j [] turns (start k) (start j) (at_start k j grows turns of) of.ask legal).1

pub records_grown : (k j : Facts) (turns : List Turn) → Grows k j → AreOfCatalogue k turns → IsLegal k turns
    → (s : Survivor) (r : Record) → IsAmong s (state_after k turns).survivors
    → IsRecord k (state_after k turns).survivors s r → IsRecord j (state_after j turns).survivors s r
records_grown k j turns grows of legal s r among is =
    let run_is : IsRunOfSurvivors k turns (state_after k turns) = legal_is_run k turns legal in
    let all : AllAct k (state_after k turns).survivors =
    λ x in_x. survivor_known k turns x (run_is.replies x in_x).0 of.ask (run_is.replies x in_x).2 in
    subst (λ (ss : List Survivor). IsRecord j ss s r) (sym (state_grown k j turns grows of legal).survivors)
    (record_same k j (record { grows = grows; range = of.range; known = of.opening })
    (state_after k turns).survivors s r all (all s among) is)
