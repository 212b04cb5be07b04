-- The headline, over every legal list of turns.
use Rattle.std.proofs.Common.{◌≡◌, refl, sym, ◌∙◌, ap, subst, ℕ, ◌+◌, Bool, true, cond, List, [], ◌∷◌, ◌++◌}
use Rattle.std.proofs.Common.{Option, Some, None, Result, Ok}
use Rattle.std.proofs.Common.{Err}
use Rattle.std.proofs.lemmas.List.{append-nil}
use Rattle.hd_rules.specs.Words.{Command, Cancel, Refusal, Reply, TurnReply, Asked}
use Rattle.hd_rules.specs.declared.turns.Asked.TheVariants as ask
use Rattle.hd_rules.specs.declared.replies.TurnReply.TheVariants.{Done as Accepted, Cancelled}
use Rattle.hd_rules.specs.Facts.{Facts, first_number}
use Rattle.hd_rules.specs.Desk.{after}
use Rattle.hd_rules.specs.Ask.{Done}
use Rattle.hd_rules.specs.Run.{outcome_of, run, Rising}
use Rattle.hd_rules.specs.Depends.{less, NoneDepends, IsLeastDependent}
use Rattle.hd_rules.specs.Searches.{first_dependent}
use Rattle.hd_rules.specs.Target.{Split, is_of_kind, is_target, IsTarget}
use Rattle.hd_rules.specs.Searches.{target}
use Rattle.hd_rules.specs.Turns.{Message, State, Answered, start, kept_of, with_survivor, without}
use Rattle.hd_rules.specs.Turns.{next_survivor}
use Rattle.hd_rules.specs.Machine.{kept_reply, reply_again}
use Rattle.hd_rules.specs.Machine.{answered_command, answered_target, answered_cancel, with_kept}
use Rattle.hd_rules.specs.Machine.{answered_new, answered_unless}
use Rattle.hd_rules.specs.Turns.{keeping}
use Rattle.hd_rules.specs.Machine.{turn_of}
use Rattle.hd_rules.specs.Turns.{IsRepeat}
use Rattle.hd_rules.specs.Journal.{Turn, state_from, state_after, IsLegalFrom, IsLegal, RepliesStand}
use Rattle.hd_rules.specs.Journal.{IsRunOfSurvivors}
use Rattle.hd_rules.specs.Headline.{AllQueries, IsCancelledAtOnce, LeavesTheDesk, IsRunWithout}
use Rattle.hd_rules.specs.Headline.{IsCancellation, IsDecided, IsRepeated}
use Rattle.hd_rules.specs.Headline.{Headline, IsAimless, IsNothingToCancel}
use Rattle.hd_rules.proofs.Tests.{number_self, both_true}
use Rattle.hd_rules.proofs.Splits.{less_split}
use Rattle.hd_rules.proofs.Newest.{found_at, no_target_is}
use Rattle.hd_rules.proofs.Machine.{turn_of_new, turn_of_repeat, cancel_at, decided_none, decided_least}
use Rattle.hd_rules.proofs.Journals.{legal_is_run, legal_parts, state_joined, Left, left_by}

-- a query leaves the state, whatever it is answered
query_leaves : (k : Facts) (s : State) (m : Message) (c : ℕ) → m.asked ≡ ask.Item c
    → (turn_of k s m).state ≡ s
query_leaves k s m c asked = cases (reply_again s m)
  where
    cases : (o : Option TurnReply) → (answered_unless k s m o).state ≡ s
    cases (Some reply) = refl
    cases None = ap (λ (a : Asked). (answered_new k s m a).state) asked

queries_leave : (k : Facts) (s : State) (queries : List Turn) → AllQueries queries
    → state_from k s queries ≡ s
queries_leave k s [] all = refl
queries_leave k s (q ∷ qs) all =
    ap (λ (x : State). state_from k x qs) (query_leaves k s q.message all.0.0 all.0.1)
    ∙ queries_leave k s qs all.1

-- an accepted command
pub record WasAccepted (k : Facts) (s : State) (m : Message) (command : Command) (n : ℕ) : Type 0 where
  pub done : Done
  pub outcome : outcome_of k s.desk (next_survivor s m.terminal command) ≡ Ok done
  pub number : n ≡ s.last + 1

accepted_is : (m n : ℕ) (a b : Reply) → Accepted m a ≡ Accepted n b → m ≡ n
accepted_is m n a b e = cc

was_accepted : (k : Facts) (s : State) (m : Message) (command : Command) (n : ℕ) (reply : Reply)
    → (answered_new k s m (ask.Command command)).reply ≡ Accepted n reply → WasAccepted k s m command n
was_accepted k s m command n reply is =
    cases (outcome_of k s.desk (next_survivor s m.terminal command)) refl is
  where
    cases : (r : Result Done Refusal) → outcome_of k s.desk (next_survivor s m.terminal command) ≡ r
        → (answered_command s (next_survivor s m.terminal command) r).reply ≡ Accepted n reply
        → WasAccepted k s m command n
    cases (Ok done) so told =
        record { done = done; outcome = so; number = sym (accepted_is (s.last + 1) n done.reply reply told) }
    cases (Err r) so told = cc

-- a cancellation is no repeat of a command
no_repeat : (line : Option (List ℕ)) (asked : Asked) (reply : TurnReply) (command : Command)
    (what : Cancel) (other : Option (List ℕ)) → asked ≡ ask.Command command
    → kept_reply (kept_of line asked reply) (ask.Cancel what) other ≡ None
no_repeat None asked reply command what other is = refl
no_repeat (Some xs) asked reply command what None is = refl
no_repeat (Some xs) asked reply command what (Some ys) is =
    ap (λ (a : Asked). kept_reply (Some (record { line = xs; asked = a; reply = reply })) (ask.Cancel what)
    (Some ys)) is

-- after the command, and before anything else changes, its cancellation takes it back
at_once : (k : Facts) (s : State) (m : Message) (command : Command) (done : Done) (told : TurnReply)
    (c : Message) (what : Cancel) → m.asked ≡ ask.Command command → c.asked ≡ ask.Cancel what
    → c.terminal ≡ m.terminal → is_of_kind what command.action ≡ true → turn_of k
    (keeping m told (with_survivor s (next_survivor s m.terminal command) (after done.changes s.desk))) c
    ≡ with_kept c (record {
      reply = Cancelled (s.last + 1);
      state =
          without k (keeping m told
          (with_survivor s (next_survivor s m.terminal command) (after done.changes s.desk))) (record {
            older = s.survivors;
            survivor = next_survivor s m.terminal command;
            newer = [];
          });
    })
at_once k s m command done told c what is_command is_cancel terminal aimed =
    ap (answered_unless k next c) never ∙ ap (answered_new k next c) is_cancel
    ∙ ap (λ (o : Option Split). with_kept c (answered_cancel k next o)) found
  where
    next : State
    next = keeping m told (with_survivor s (next_survivor s m.terminal command) (after done.changes s.desk))

    never : reply_again next c ≡ None
    never =
        ap (λ (a : Asked). kept_reply (next.kept c.terminal) a c.line) is_cancel
        ∙ ap (λ (t : ℕ). kept_reply (next.kept t) (ask.Cancel what) c.line) terminal
        ∙ ap (λ (b : Bool). kept_reply (cond b (kept_of m.line m.asked told) (s.kept m.terminal))
        (ask.Cancel what) c.line)
        (number_self m.terminal)
        ∙ no_repeat m.line m.asked told command what c.line is_command

    fits : is_target c.terminal what (next_survivor s m.terminal command) ≡ true
    fits = ap (λ (t : ℕ). is_target t what (next_survivor s m.terminal command)) terminal
        ∙ both_true _ _ (number_self m.terminal) aimed

    found : target c.terminal what next.survivors
        ≡ Some (record { older = s.survivors; survivor = next_survivor s m.terminal command; newer = [] })
    found = found_at c.terminal what s.survivors (next_survivor s m.terminal command) [] fits tt

leaves : (k : Facts) (turns : List Turn) (submitted : Turn) (queries : List Turn) (cancelled : Turn) (n : ℕ)
    → IsCancelledAtOnce k turns submitted queries cancelled n
    → LeavesTheDesk k turns submitted queries cancelled n
leaves k turns submitted queries cancelled n h = record {
  answer = last_legal.0 ∙ ap (λ (a : Answered). a.reply) answered ∙ ap Cancelled (sym accepted.number);
  desk = ap (λ (x : State). x.desk) whole ∙ ap (run k) (append-nil s.survivors)
      ∙ sym (legal_is_run k turns parts.0).desk;
  survivors = ap (λ (x : State). x.survivors) whole ∙ append-nil s.survivors;
}
  where
    s : State
    s = state_after k turns

    parts : IsLegal k turns × IsLegalFrom k s (submitted ∷ (queries ++ cancelled ∷ []))
    parts = legal_parts k (start k) turns (submitted ∷ (queries ++ cancelled ∷ [])) h.legal

    is_new : turn_of k s submitted.message ≡ answered_new k s submitted.message (ask.Command h.command)
    is_new = turn_of_new k s submitted.message h.is_new ∙ ap (answered_new k s submitted.message) h.is_command

    accepted : WasAccepted k s submitted.message h.command n
    accepted = was_accepted k s submitted.message h.command n h.reply
        (ap (λ (a : Answered). a.reply) (sym is_new) ∙ sym parts.1.0 ∙ h.accepted)

    told : TurnReply
    told = Accepted (s.last + 1) accepted.done.reply

    next : State
    next = keeping submitted.message told
        (with_survivor s (next_survivor s submitted.message.terminal h.command)
        (after accepted.done.changes s.desk))

    first : (turn_of k s submitted.message).state ≡ next
    first = ap (λ (a : Answered). a.state) (is_new
        ∙ ap (λ (r : Result Done Refusal).
        with_kept submitted.message
        (answered_command s (next_survivor s submitted.message.terminal h.command) r)) accepted.outcome)

    later : state_from k (turn_of k s submitted.message).state queries ≡ next
    later = ap (λ (x : State). state_from k x queries) first ∙ queries_leave k next queries h.only_queries

    last_legal : (cancelled.reply ≡ (turn_of k next cancelled.message).reply) × Unit {0}
    last_legal = subst (λ (x : State). IsLegalFrom k x (cancelled ∷ [])) later
        (legal_parts k (turn_of k s submitted.message).state queries (cancelled ∷ []) parts.1.1).1

    end : Answered
    end = with_kept cancelled.message (record {
      reply = Cancelled (s.last + 1);
      state = without k next (record {
        older = s.survivors;
        survivor = next_survivor s submitted.message.terminal h.command;
        newer = [];
      });
    })

    answered : turn_of k next cancelled.message ≡ end
    answered =
        at_once k s submitted.message h.command accepted.done told cancelled.message h.what h.is_command
        h.is_cancel h.same_terminal h.aimed

    whole : state_after k (turns ++ submitted ∷ (queries ++ cancelled ∷ [])) ≡ end.state
    whole =
        state_joined k (start k) turns (submitted ∷ (queries ++ cancelled ∷ []))
        ∙ state_joined k (turn_of k s submitted.message).state queries (cancelled ∷ [])
        ∙ ap (λ (x : State). (turn_of k x cancelled.message).state) later
        ∙ ap (λ (a : Answered). a.state) answered

run_without : (k : Facts) (turns : List Turn) (s : State) (at : Split) (next : State)
    → IsRunOfSurvivors k turns s → s.survivors ≡ at.older ++ at.survivor ∷ at.newer
    → NoneDepends k s.survivors at.survivor → next.desk ≡ run k (at.older ++ at.newer)
    → next.survivors ≡ at.older ++ at.newer → next.last ≡ s.last
    → IsRunWithout k turns s at.survivor.number next
run_without k turns s at next is split none desk survivors last = record {
  desk = desk ∙ ap (run k) (sym those);
  survivors = survivors ∙ sym those;
  last = last;
  replies = subst (RepliesStand k turns) (sym those) left.replies;
}
  where
    those : less at.survivor.number s.survivors ≡ at.older ++ at.newer
    those = ap (less at.survivor.number) split
        ∙ less_split (first_number k) at.older at.survivor at.newer
        (subst (Rising (first_number k)) split is.rising)

    left : Left k turns s.last at
    left = left_by k turns s.survivors s.last at split is.rising is.last is.replies none

decided_as : (k : Facts) (turns : List Turn) (s : State) (m : Message) (what : Cancel) (at : Split)
    → IsRunOfSurvivors k turns s → IsTarget m.terminal what s.survivors at
    → (o : Option ℕ) → first_dependent k s.survivors at.survivor at.newer ≡ o
    → IsDecided k turns s at (with_kept m (answered_target k s at o))
decided_as k turns s m what at is aimed None none =
    let no_one : NoneDepends k s.survivors at.survivor =
    decided_none k m.terminal what s.survivors at is.rising aimed none in
    record {
      accepted = ((λ told. no_one), (λ clear. refl));
      run_without = λ clear. run_without k turns s at
          (with_kept m (answered_target k s at None)).state is aimed.split clear refl refl refl;
      refused = λ some. absurd (some no_one);
    }
decided_as k turns s m what at is aimed (Some n) some =
    let least : IsLeastDependent k s.survivors at.survivor n =
    decided_least k m.terminal what s.survivors at is.rising aimed n some in
    let never : NoneDepends k s.survivors at.survivor
    → ⊥ = λ clear. clear least.dependent least.survives least.later least.depends in
    record {
      accepted = ((λ told. absurd (let no_ : ⊥ = cc in no_)), (λ clear. absurd (never clear)));
      run_without = λ clear. absurd (never clear);
      refused = λ not_clear. (n, refl, least, record { desk = refl; survivors = refl; last = refl });
    }

decided : (k : Facts) (turns : List Turn) (s : State) (m : Message) (at : Split) → IsRunOfSurvivors k turns s
    → IsCancellation s m at → IsDecided k turns s at (turn_of k s m)
decided k turns s m at is h =
    let as_new : turn_of k s m ≡ with_kept m
    (answered_target k s at (first_dependent k s.survivors at.survivor at.newer)) =
    turn_of_new k s m h.is_new ∙ ap (answered_new k s m) h.is_cancel ∙ cancel_at k s m h.what at h.target in
    subst (IsDecided k turns s at) (sym as_new)
    (decided_as k turns s m h.what at is h.target (first_dependent k s.survivors at.survivor at.newer) refl)

aimless_as : (k : Facts) (s : State) (m : Message) → IsAimless s m → IsNothingToCancel s (turn_of k s m)
aimless_as k s m h =
    let as_new : turn_of k s m ≡ with_kept m (answered_cancel k s None) =
    turn_of_new k s m h.is_new ∙ ap (answered_new k s m) h.is_cancel
    ∙ ap (λ (o : Option Split). with_kept m (answered_cancel k s o))
    ((no_target_is m.terminal h.what s.survivors).1 h.none) in
    subst (IsNothingToCancel s) (sym as_new)
    (record { answer = refl; nothing = record { desk = refl; survivors = refl; last = refl } })

repeated_as : (k : Facts) (s : State) (m : Message) (reply : TurnReply) → IsRepeat s m reply
    → IsRepeated s reply (turn_of k s m)
repeated_as k s m reply h =
    subst (IsRepeated s reply) (sym (turn_of_repeat k s m reply h)) (record { answer = refl; state = refl })

pub headline : (k : Facts) (turns : List Turn) → IsLegal k turns → Headline k turns
headline k turns legal = record {
  at_once = λ submitted queries cancelled n h. leaves k turns submitted queries cancelled n h;
  cancellation = λ m at h. decided k turns (state_after k turns) m at (legal_is_run k turns legal) h;
  aimless = λ m h. aimless_as k (state_after k turns) m h;
  repeat = λ m reply h. repeated_as k (state_after k turns) m reply h;
}
