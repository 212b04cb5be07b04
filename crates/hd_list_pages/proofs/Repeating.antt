-- What is kept of a terminal is of its last turn that is no query.
use Rattle.std.proofs.Common.{arith, ◌≡◌, refl, sym, ◌∙◌, ap, subst, ℕ, zero, suc, ◌+◌, ◌==◌, Bool, true}
use Rattle.std.proofs.Common.{false}
use Rattle.std.proofs.Common.{cond, ◌&&◌, List, [], ◌∷◌, ◌++◌, length, slice_get, Option, Some, None, Result}
use Rattle.std.proofs.Common.{Ok, Err}
use Rattle.std.specs.Prelude.{is_some, nat_lt}
use Rattle.std.proofs.lemmas.Bool.{eqb-true}
use Rattle.hd_rules.specs.declared.commands.Survivor.{Survivor}
use Rattle.hd_rules.specs.declared.replies.Refusal.{Refusal}
use Rattle.hd_rules.specs.declared.replies.TurnReply.{TurnReply}
use Rattle.hd_rules.specs.declared.turns.Asked.{Asked}
use Rattle.hd_rules.specs.declared.turns.Asked.TheVariants as ask
use Rattle.hd_rules.specs.Facts.{Facts}
use Rattle.hd_rules.specs.Ask.{Done}
use Rattle.hd_rules.specs.Same.{same_asked, same_line}
use Rattle.hd_rules.specs.Laws.{TestsAreExact}
use Rattle.hd_rules.specs.Run.{outcome_of}
use Rattle.hd_rules.specs.Target.{Split}
use Rattle.hd_rules.specs.Searches.{target, first_dependent}
use Rattle.hd_rules.specs.Turns.{Message, Kept, State, Answered, kept_of, next_survivor, start}
use Rattle.hd_rules.specs.Machine.{kept_reply, reply_again, answered_command, answered_target}
use Rattle.hd_rules.specs.Machine.{answered_cancel}
use Rattle.hd_rules.specs.Machine.{answered_new, answered_unless, turn_of}
use Rattle.hd_rules.specs.Messages.{is_query}
use Rattle.hd_rules.specs.Journal.{Turn, IsLegal, IsLegalFrom, state_from, state_after}
use Rattle.hd_journal.specs.Books.{turn_numbered}
use Rattle.hd_list_pages.specs.Laws.{RepeatsAreAnsweredAgain}
use Rattle.hd_list_pages.specs.Tallies.{Counted, carry_same, counted, counted_with, last_with, repeats}

-- what is kept of a turn
abbrev kept_turn : Option Turn → Option Kept
kept_turn None = None
kept_turn (Some turn) = kept_of turn.message.line turn.message.asked turn.reply

-- of each terminal it is of its last turn
abbrev AreKept : State → (ℕ → Option Turn) → Type 0
AreKept s last = (t : ℕ) → s.kept t ≡ kept_turn (last t)

and_left : (a b : Bool) → (a && b) ≡ true → a ≡ true
and_left true b is = refl
and_left false b is = cc

and_right : (a b : Bool) → (a && b) ≡ true → b ≡ true
and_right true b is = is
and_right false b is = cc

and_false : (a : Bool) → (a && false) ≡ false
and_false true = refl
and_false false = refl

-- a message that is answered anew leaves what is kept of other terminals
command_same : (s : State) (new : Survivor) (o : Result Done Refusal) (t : ℕ)
    → (answered_command s new o).state.kept t ≡ s.kept t
command_same s new (Ok done) t = refl
command_same s new (Err r) t = refl

target_same : (k : Facts) (s : State) (at : Split) (o : Option ℕ) (t : ℕ)
    → (answered_target k s at o).state.kept t ≡ s.kept t
target_same k s at (Some n) t = refl
target_same k s at None t = refl

cancel_same : (k : Facts) (s : State) (o : Option Split) (t : ℕ)
    → (answered_cancel k s o).state.kept t ≡ s.kept t
cancel_same k s None t = refl
cancel_same k s (Some at) t =
    target_same k s at (first_dependent k s.survivors at.survivor at.newer) t

-- what is kept then
abbrev kept_then : Bool → Message → Option Kept → TurnReply → ℕ → Option Kept
kept_then query m before reply t =
    cond query before (cond (t == m.terminal) (kept_of m.line m.asked reply) before)

new_kept : (k : Facts) (s : State) (m : Message) (asked : Asked) (t : ℕ)
    → (answered_new k s m asked).state.kept t
    ≡ kept_then (is_query asked) m (s.kept t) (answered_new k s m asked).reply t
new_kept k s m (ask.Command command) t =
    let new : Survivor = next_survivor s m.terminal command in
    let a : Answered = answered_command s new (outcome_of k s.desk new) in
    ap (λ (o : Option Kept). cond (t == m.terminal) (kept_of m.line m.asked a.reply) o)
    (command_same s new (outcome_of k s.desk new) t)
new_kept k s m (ask.Cancel what) t =
    let a : Answered = answered_cancel k s (target m.terminal what s.survivors) in
    ap (λ (o : Option Kept). cond (t == m.terminal) (kept_of m.line m.asked a.reply) o)
    (cancel_same k s (target m.terminal what s.survivors) t)
new_kept k s m (ask.Item c) t = refl

-- what is kept of a message that is answered again is what would be kept of it
module _ (exact : TestsAreExact) where
  again : (o : Option Kept) (m : Message) (line : Option (List ℕ)) (told r : TurnReply)
      → kept_reply o m.asked line ≡ Some r → told ≡ r → o ≡ kept_of line m.asked told
  again None m line told r is same = cc
  again (Some kept) m None told r is same = cc
  again (Some kept) m (Some line) told r is same =
      by_test (same_asked kept.asked m.asked && same_line kept.line line) refl is
    where
      by_test : (b : Bool) → (same_asked kept.asked m.asked && same_line kept.line line) ≡ b
          → cond b (Some kept.reply) None ≡ Some r → Some kept ≡ kept_of (Some line) m.asked told
      by_test true both some =
          let asks : kept.asked ≡ m.asked = (exact.asked kept.asked m.asked).0 (and_left _ _ both) in
          let lines : kept.line ≡ line = (exact.lines kept.line line).0 (and_right _ _ both) in
          let replies : kept.reply ≡ told = some_reply kept.reply r some ∙ sym same in
          (λ j. Some (record { line = lines j; asked = asks j; reply = replies j }))
        where
          some_reply : (x y : TurnReply) → (let o : Option TurnReply = Some x in o ≡ Some y) → x ≡ y
          some_reply x y is = cc
      by_test false both some = cc

  -- one turn more
  step : (k : Facts) (s : State) (last : ℕ → Option Turn) (turn : Turn) → AreKept s last
      → turn.reply ≡ (turn_of k s turn.message).reply
      → AreKept (turn_of k s turn.message).state (last_with last turn)
  step k s last turn are legal t = by_reply (reply_again s turn.message) refl legal
    where
      m : Message
      m = turn.message

      joined : (query own : Bool) → (t == m.terminal) ≡ own → (reply : TurnReply) → reply ≡ turn.reply
          → kept_then query m (s.kept t) reply t
          ≡ kept_turn (cond query last (λ u. cond (u == m.terminal) (Some turn) (last u)) t)
      joined true own is reply same = are t
      joined false true is reply same =
          ap (λ (b : Bool). cond b (kept_of m.line m.asked reply) (s.kept t)) is
          ∙ ap (kept_of m.line m.asked) same
          ∙ ap (λ (b : Bool). kept_turn (cond b (Some turn) (last t))) (sym is)
      joined false false is reply same =
          ap (λ (b : Bool). cond b (kept_of m.line m.asked reply) (s.kept t)) is
          ∙ are t
          ∙ ap (λ (b : Bool). kept_turn (cond b (Some turn) (last t))) (sym is)

      as_before : (r : TurnReply) → reply_again s m ≡ Some r → turn.reply ≡ r → (query own : Bool)
          → (t == m.terminal) ≡ own → s.kept t ≡ kept_then query m (s.kept t) turn.reply t
      as_before r is told true own same = refl
      as_before r is told false true same =
          ap s.kept (eqb-true t m.terminal same) ∙ again (s.kept m.terminal) m m.line turn.reply r is told
          ∙ ap (λ (b : Bool). cond b (kept_of m.line m.asked turn.reply) (s.kept t)) (sym same)
      as_before r is told false false same =
          ap (λ (b : Bool). cond b (kept_of m.line m.asked turn.reply) (s.kept t)) (sym same)

      by_reply : (o : Option TurnReply) → reply_again s m ≡ o
          → turn.reply ≡ (answered_unless k s m o).reply
          → (answered_unless k s m o).state.kept t ≡ kept_turn (last_with last turn t)
      by_reply (Some r) is told =
          as_before r is told (is_query m.asked) (t == m.terminal) refl
          ∙ joined (is_query m.asked) (t == m.terminal) refl turn.reply refl
      by_reply None is told =
          new_kept k s m m.asked t
          ∙ joined (is_query m.asked) (t == m.terminal) refl (answered_new k s m m.asked).reply (sym told)

  -- all turns of a part of the journal, behind the first so many
  part : (k : Facts) (begun : ℕ) (whole later turns : List Turn) (n : ℕ) (s : State) → IsLegalFrom k s turns
      → ((i : ℕ) → slice_get whole (n + i) ≡ slice_get (turns ++ later) i)
      → AreKept s (counted begun whole n).last
      → AreKept (state_from k s turns) (counted begun whole (n + length turns)).last
  part k begun whole later [] n s legal same are =
      subst (λ (m : ℕ). AreKept s (counted begun whole m).last) (let more : n ≡ n + 0 = omega arith in more)
      are
  part k begun whole later (turn ∷ turns) n s legal same are =
      let here : turn_numbered whole (suc n) ≡ Some turn =
      ap (slice_get whole) (let first : n ≡ n + 0 = omega arith in first) ∙ same 0 in
      let next : last_with (counted begun whole n).last turn ≡ (counted begun whole (suc n)).last =
      ap (λ (o : Option Turn). (counted_with (nat_lt begun (suc n)) (counted begun whole n) o).last)
      (sym here) in
      let then : AreKept (turn_of k s turn.message).state (counted begun whole (suc n)).last =
      subst (AreKept (turn_of k s turn.message).state) next
      (step k s (counted begun whole n).last turn are legal.0) in
      let all = part k begun whole later turns (suc n) (turn_of k s turn.message).state legal.1
      (λ i. ap (slice_get whole) (let more : suc n + i ≡ n + suc i = omega arith in more) ∙ same (suc i))
      then in
      subst (λ (m : ℕ). AreKept (state_from k s (turn ∷ turns)) (counted begun whole m).last)
      (let more : suc n + length turns ≡ n + suc (length turns) = omega arith in more) all

  -- a message is counted as a repeat where what is kept answers it
  counted_again : (o : Option Turn) (m : Message)
      → repeats o m ≡ is_some (kept_reply (kept_turn o) m.asked m.line)
  counted_again None m = refl
  counted_again (Some turn) m = by_lines turn.message.line m.line
    where
      by_test : (b : Bool) → b ≡ is_some (cond b (Some turn.reply) None)
      by_test true = refl
      by_test false = refl

      by_lines : (one other : Option (List ℕ))
          → (same_asked turn.message.asked m.asked && carry_same one other)
          ≡ is_some (kept_reply (kept_of one turn.message.asked turn.reply) m.asked other)
      by_lines None other = and_false (same_asked turn.message.asked m.asked)
      by_lines (Some one) None = and_false (same_asked turn.message.asked m.asked)
      by_lines (Some one) (Some other) =
          by_test (same_asked turn.message.asked m.asked && same_line one other)

  pub answered_again : RepeatsAreAnsweredAgain
  answered_again k begun turns later m legal =
      let last : ℕ → Option Turn = (counted begun (turns ++ later) (length turns)).last in
      let are : AreKept (state_after k turns) last =
      subst (λ (n : ℕ). AreKept (state_after k turns) (counted begun (turns ++ later) n).last)
      (let all : 0 + length turns ≡ length turns = omega arith in all)
      (part k begun (turns ++ later) later turns 0 (start k) legal
      (λ i. ap (slice_get (turns ++ later)) (let same : 0 + i ≡ i = omega arith in same)) (λ t. refl)) in
      counted_again (last m.terminal) m
      ∙ ap (λ (o : Option Kept). is_some (kept_reply o m.asked m.line)) (sym (are m.terminal))
