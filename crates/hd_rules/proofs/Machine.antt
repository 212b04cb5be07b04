-- The machine of turns as a function and as a relation.
use Rattle.std.proofs.Common.{arith, ◌≡◌, refl, sym, ◌∙◌, ap, subst, ℕ, ◌<◌, inl, inr, Bool, true, false}
use Rattle.std.proofs.Common.{cond, ◌&&◌, ◌↔◌, List, ◌∷◌, ◌++◌}
use Rattle.std.proofs.Common.{Option, Some, None, Result, Ok, Err}
use Rattle.hd_rules.specs.Words.{Command, Cancel, Survivor, Refusal, TurnReply, Asked}
use Rattle.hd_rules.specs.declared.turns.Asked.TheVariants as ask
use Rattle.hd_rules.specs.declared.replies.Refusal.TheVariants as refusal
use Rattle.hd_rules.specs.declared.replies.TurnReply.TheVariants.{Done as Accepted, Refused, Cancelled, Item}
use Rattle.hd_rules.specs.Facts.{Facts, first_number}
use Rattle.hd_rules.specs.Desk.{after}
use Rattle.hd_rules.specs.Ask.{Done}
use Rattle.hd_rules.specs.Same.{same_asked, same_line}
use Rattle.hd_rules.specs.Run.{outcome_of, Rising}
use Rattle.hd_rules.specs.Depends.{NoneDepends, IsLeastDependent}
use Rattle.hd_rules.specs.Searches.{first_dependent}
use Rattle.hd_rules.specs.Target.{Split, IsTarget}
use Rattle.hd_rules.specs.Searches.{target}
use Rattle.hd_rules.specs.Turns.{Message, Kept, State, Answered, with_survivor, without, next_survivor}
use Rattle.hd_rules.specs.Machine.{kept_reply, reply_again}
use Rattle.hd_rules.specs.Machine.{answered_command, answered_target, answered_cancel, with_kept}
use Rattle.hd_rules.specs.Machine.{answered_new, answered_unless}
use Rattle.hd_rules.specs.Turns.{keeping}
use Rattle.hd_rules.specs.Machine.{turn_of}
use Rattle.hd_rules.specs.Turns.{IsRepeat}
use Rattle.hd_rules.specs.Turns.{IsCommandTurn, IsRefusedCancel, IsCancelTurn, IsQueryTurn, IsNewTurn, IsTurn}
use Rattle.hd_rules.proofs.Tests.{and_left, and_right, some_is}
use Rattle.hd_rules.proofs.Same.{asked_self, line_self}
use Rattle.hd_rules.proofs.Alike.{asked_is, line_is}
use Rattle.hd_rules.proofs.Walk.{none_depends, least_depends, finds_none}
use Rattle.hd_rules.proofs.Newest.{target_is, no_target_is}

-- what is kept, and repeated
record RepeatOf (o : Option Kept) (asked : Asked) (line : Option (List ℕ)) (reply : TurnReply) : Type 0 where
  pub kept : Kept
  pub is_kept : o ≡ Some kept
  pub as_asked : kept.asked ≡ asked
  pub as_line : line ≡ Some kept.line
  pub again : reply ≡ kept.reply

repeat_of : (o : Option Kept) (asked : Asked) (line : Option (List ℕ)) (reply : TurnReply)
    → kept_reply o asked line ≡ Some reply → RepeatOf o asked line reply
repeat_of None asked line reply is = cc
repeat_of (Some kept) asked None reply is = cc
repeat_of (Some kept) asked (Some line) reply is =
    by_test (same_asked kept.asked asked && same_line kept.line line) refl is
  where
    by_test : (b : Bool) → (same_asked kept.asked asked && same_line kept.line line) ≡ b
        → cond b (Some kept.reply) None ≡ Some reply → RepeatOf (Some kept) asked (Some line) reply
    by_test true same is = record {
      kept = kept;
      is_kept = refl;
      as_asked = asked_is kept.asked asked (and_left _ _ same);
      as_line = ap (λ (xs : List ℕ). Some xs) (sym (line_is kept.line line (and_right _ _ same)));
      again = sym (some_is kept.reply reply is);
    }
    by_test false same is = cc

pub repeated_is : (s : State) (m : Message) (reply : TurnReply) → reply_again s m ≡ Some reply
    → IsRepeat s m reply
repeated_is s m reply is =
    let r : RepeatOf (s.kept m.terminal) m.asked m.line reply =
    repeat_of (s.kept m.terminal) m.asked m.line reply is in
    record { kept = r.kept; is_kept = r.is_kept; asked = r.as_asked; line = r.as_line; again = r.again }

of_kept : (kept : Kept) → kept_reply (Some kept) kept.asked (Some kept.line) ≡ Some kept.reply
of_kept kept = rw (asked_self kept.asked, line_self kept.line) refl

pub is_repeated : (s : State) (m : Message) (reply : TurnReply) → IsRepeat s m reply
    → reply_again s m ≡ Some reply
is_repeated s m reply h =
    ap (λ (o : Option Kept). kept_reply o m.asked m.line) h.is_kept
    ∙ ap (λ (line : Option (List ℕ)). kept_reply (Some h.kept) m.asked line) h.line
    ∙ ap (λ (a : Asked). kept_reply (Some h.kept) a (Some h.kept.line)) (sym h.asked)
    ∙ of_kept h.kept
    ∙ ap (λ (r : TurnReply). Some r) (sym h.again)

pub not_repeated : (s : State) (m : Message) → ((old : TurnReply) → IsRepeat s m old → ⊥)
    → reply_again s m ≡ None
not_repeated s m none = cases (reply_again s m) refl
  where
    cases : (o : Option TurnReply) → reply_again s m ≡ o → o ≡ None
    cases None is = refl
    cases (Some reply) is = absurd (none reply (repeated_is s m reply is))

pub turn_of_new : (k : Facts) (s : State) (m : Message) → ((old : TurnReply) → IsRepeat s m old → ⊥)
    → turn_of k s m ≡ answered_new k s m m.asked
turn_of_new k s m none = ap (answered_unless k s m) (not_repeated s m none)

pub turn_of_repeat : (k : Facts) (s : State) (m : Message) (reply : TurnReply) → IsRepeat s m reply
    → turn_of k s m ≡ record { reply = reply; state = s }
turn_of_repeat k s m reply h = ap (answered_unless k s m) (is_repeated s m reply h)

-- of two least numbers one is the other
same_least : (k : Facts) (ss : List Survivor) (c : Survivor) (m n : ℕ) → IsLeastDependent k ss c m
    → IsLeastDependent k ss c n → m ≡ n
same_least k ss c m n a b =
    let below_a : a.dependent.number < n → ⊥ = λ lt. b.least a.dependent a.survives a.later lt a.depends in
    let below_b : b.dependent.number < m → ⊥ = λ lt. a.least b.dependent b.survives b.later lt b.depends in
    let at_a : m ≡ a.dependent.number = a.named in
    let at_b : n ≡ b.dependent.number = b.named in
    omega arith

-- the search at a target, by what is known of the dependents
at_split : (P : List Survivor → Type 0) (t : ℕ) (what : Cancel) (ss : List Survivor) (at : Split)
    → IsTarget t what ss at → P (at.older ++ at.survivor ∷ at.newer) → P ss
at_split P t what ss at is h = subst P (sym is.split) h

pub decided_none : (k : Facts) (t : ℕ) (what : Cancel) (ss : List Survivor) (at : Split)
    → Rising (first_number k) ss → IsTarget t what ss at → first_dependent k ss at.survivor at.newer ≡ None
    → NoneDepends k ss at.survivor
decided_none k t what ss at rising is =
    at_split (λ xs. Rising (first_number k) xs → first_dependent k xs at.survivor at.newer ≡ None
    → NoneDepends k xs at.survivor) t what ss at is
    (none_depends k (first_number k) at.older at.survivor at.newer) rising

pub decided_least : (k : Facts) (t : ℕ) (what : Cancel) (ss : List Survivor) (at : Split)
    → Rising (first_number k) ss → IsTarget t what ss at → (n : ℕ)
    → first_dependent k ss at.survivor at.newer ≡ Some n → IsLeastDependent k ss at.survivor n
decided_least k t what ss at rising is =
    at_split (λ xs. Rising (first_number k) xs → (n : ℕ) → first_dependent k xs at.survivor at.newer ≡ Some n
    → IsLeastDependent k xs at.survivor n) t what ss at is
    (least_depends k (first_number k) at.older at.survivor at.newer) rising

pub found_none : (k : Facts) (t : ℕ) (what : Cancel) (ss : List Survivor) (at : Split)
    → Rising (first_number k) ss → IsTarget t what ss at → NoneDepends k ss at.survivor
    → first_dependent k ss at.survivor at.newer ≡ None
found_none k t what ss at rising is =
    at_split (λ xs. Rising (first_number k) xs → NoneDepends k xs at.survivor
    → first_dependent k xs at.survivor at.newer ≡ None) t what ss at is
    (finds_none k (first_number k) at.older at.survivor at.newer) rising

found_least : (k : Facts) (t : ℕ) (what : Cancel) (ss : List Survivor) (at : Split)
    → Rising (first_number k) ss → IsTarget t what ss at → (n : ℕ) → IsLeastDependent k ss at.survivor n
    → first_dependent k ss at.survivor at.newer ≡ Some n
found_least k t what ss at rising is n least = cases (first_dependent k ss at.survivor at.newer) refl
  where
    cases : (o : Option ℕ) → first_dependent k ss at.survivor at.newer ≡ o → o ≡ Some n
    cases None none = absurd
        (decided_none k t what ss at rising is none least.dependent least.survives least.later least.depends)
    cases (Some m) some = ap (λ (x : ℕ). Some x)
        (same_least k ss at.survivor m n (decided_least k t what ss at rising is m some) least)

pub cancel_at : (k : Facts) (s : State) (m : Message) (what : Cancel) (at : Split)
    → IsTarget m.terminal what s.survivors at → answered_new k s m (ask.Cancel what) ≡ with_kept m
    (answered_target k s at (first_dependent k s.survivors at.survivor at.newer))
cancel_at k s m what at is =
    ap (λ (o : Option Split). with_kept m (answered_cancel k s o))
    ((target_is m.terminal what s.survivors at).1 is)

-- the relation holds of the function's answer alone
command_is : (k : Facts) (s : State) (m : Message) (command : Command) (reply : TurnReply) (next : State)
    → IsCommandTurn k s m (next_survivor s m.terminal command) reply next
    → record { reply = reply; state = next } ≡ answered_new k s m (ask.Command command)
command_is k s m command (Accepted n reply) next h =
    let new : Survivor = next_survivor s m.terminal command in
    let told : Accepted n reply ≡ Accepted new.number h.0.reply = λ i. Accepted (h.2 i) (h.3 i) in
    (λ i. record { reply = Accepted n reply; state = h.4 i })
    ∙ ap (λ (r : TurnReply).
    record { reply = r; state = keeping m r (with_survivor s new (after h.0.changes s.desk)) }) told
    ∙ ap (λ (r : Result Done Refusal). with_kept m (answered_command s new r)) (sym h.1)
command_is k s m command (Refused r) next h =
    (λ i. record { reply = Refused r; state = h.1 i })
    ∙ ap (λ (x : Result Done Refusal). with_kept m
    (answered_command s (next_survivor s m.terminal command) x)) (sym h.0)
command_is k s m command (Cancelled n) next h = absurd h
command_is k s m command (Item view) next h = absurd h

refused_is : (k : Facts) (s : State) (m : Message) (what : Cancel) (r : Refusal)
    → Rising (first_number k) s.survivors → IsRefusedCancel k s m what r
    → record { reply = Refused r; state = keeping m (Refused r) s } ≡ answered_new k s m (ask.Cancel what)
refused_is k s m what refusal.NothingToCancel rising h =
    sym (ap (λ (o : Option Split). with_kept m (answered_cancel k s o))
    ((no_target_is m.terminal what s.survivors).1 h))
refused_is k s m what (refusal.Depends n) rising h =
    sym (cancel_at k s m what h.0 h.1
    ∙ ap (λ (o : Option ℕ). with_kept m (answered_target k s h.0 o))
    (found_least k m.terminal what s.survivors h.0 rising h.1 n h.2))
refused_is k s m what _ rising h = absurd h

cancel_is : (k : Facts) (s : State) (m : Message) (what : Cancel) (reply : TurnReply) (next : State)
    → Rising (first_number k) s.survivors → IsCancelTurn k s m what reply next
    → record { reply = reply; state = next } ≡ answered_new k s m (ask.Cancel what)
cancel_is k s m what (Refused r) next rising h =
    (λ i. record { reply = Refused r; state = h.1 i }) ∙ refused_is k s m what r rising h.0
cancel_is k s m what (Cancelled n) next rising h =
    (λ i. record { reply = Cancelled n; state = h.4 i })
    ∙ ap (λ (x : ℕ). record { reply = Cancelled x; state = keeping m (Cancelled x) (without k s h.0) }) h.3
    ∙ sym (cancel_at k s m what h.0 h.1
    ∙ ap (λ (o : Option ℕ). with_kept m (answered_target k s h.0 o))
    (found_none k m.terminal what s.survivors h.0 rising h.1 h.2))
cancel_is k s m what (Accepted n reply) next rising h = absurd h
cancel_is k s m what (Item view) next rising h = absurd h

query_is : (k : Facts) (s : State) (m : Message) (c : ℕ) (reply : TurnReply) (next : State)
    → IsQueryTurn k s c reply next → record { reply = reply; state = next } ≡ answered_new k s m (ask.Item c)
query_is k s m c (Item view) next h = λ i. record { reply = Item (h.0 i); state = h.1 i }
query_is k s m c (Accepted n reply) next h = absurd h
query_is k s m c (Refused r) next h = absurd h
query_is k s m c (Cancelled n) next h = absurd h

new_is : (k : Facts) (s : State) (m : Message) (a : Asked) (reply : TurnReply) (next : State)
    → Rising (first_number k) s.survivors → IsNewTurn k s m a reply next
    → record { reply = reply; state = next } ≡ answered_new k s m a
new_is k s m (ask.Command command) reply next rising h = command_is k s m command reply next h
new_is k s m (ask.Cancel what) reply next rising h = cancel_is k s m what reply next rising h
new_is k s m (ask.Item c) reply next rising h = query_is k s m c reply next h

turn_is : (k : Facts) (s : State) (m : Message) (reply : TurnReply) (next : State)
    → Rising (first_number k) s.survivors → IsTurn k s m reply next
    → record { reply = reply; state = next } ≡ turn_of k s m
turn_is k s m reply next rising (inl h) = (λ i. record { reply = reply; state = h.1 i })
    ∙ sym (turn_of_repeat k s m reply h.0)
turn_is k s m reply next rising (inr h) = new_is k s m m.asked reply next rising h.1
    ∙ sym (turn_of_new k s m h.0)

-- and it holds of that
command_turn : (k : Facts) (s : State) (m : Message) (new : Survivor) (r : Result Done Refusal)
    → outcome_of k s.desk new ≡ r → IsCommandTurn k s m new (with_kept m (answered_command s new r)).reply
    (with_kept m (answered_command s new r)).state
command_turn k s m new (Ok done) is = (done, is, refl, refl, refl)
command_turn k s m new (Err r) is = (is, refl)

target_turn : (k : Facts) (s : State) (m : Message) (what : Cancel) (at : Split)
    → Rising (first_number k) s.survivors → IsTarget m.terminal what s.survivors at → (o : Option ℕ)
    → first_dependent k s.survivors at.survivor at.newer ≡ o → IsCancelTurn k s m what
    (with_kept m (answered_target k s at o)).reply (with_kept m (answered_target k s at o)).state
target_turn k s m what at rising is None none =
    (at, is, decided_none k m.terminal what s.survivors at rising is none, refl, refl)
target_turn k s m what at rising is (Some n) some =
    ((at, is, decided_least k m.terminal what s.survivors at rising is n some), refl)

cancel_turn : (k : Facts) (s : State) (m : Message) (what : Cancel) → Rising (first_number k) s.survivors
    → (o : Option Split) → target m.terminal what s.survivors ≡ o → IsCancelTurn k s m what
    (with_kept m (answered_cancel k s o)).reply (with_kept m (answered_cancel k s o)).state
cancel_turn k s m what rising None is = ((no_target_is m.terminal what s.survivors).0 is, refl)
cancel_turn k s m what rising (Some at) is =
    target_turn k s m what at rising ((target_is m.terminal what s.survivors at).0 is)
    (first_dependent k s.survivors at.survivor at.newer)
    refl

new_turn : (k : Facts) (s : State) (m : Message) (a : Asked) → Rising (first_number k) s.survivors
    → IsNewTurn k s m a (answered_new k s m a).reply (answered_new k s m a).state
new_turn k s m (ask.Command command) rising =
    command_turn k s m (next_survivor s m.terminal command)
    (outcome_of k s.desk (next_survivor s m.terminal command)) refl
new_turn k s m (ask.Cancel what) rising =
    cancel_turn k s m what rising (target m.terminal what s.survivors) refl
new_turn k s m (ask.Item c) rising = (refl, refl)

pub machine_turns : (k : Facts) (s : State) (m : Message) → Rising (first_number k) s.survivors
    → IsTurn k s m (turn_of k s m).reply (turn_of k s m).state
machine_turns k s m rising = cases (reply_again s m) refl
  where
    cases : (o : Option TurnReply) → reply_again s m ≡ o
        → IsTurn k s m (answered_unless k s m o).reply (answered_unless k s m o).state
    cases (Some reply) is = inl (repeated_is s m reply is, refl)
    cases None is =
        inr (
          (λ old again.
              (let e : None ≡ Some old = sym is ∙ is_repeated s m old again in (let no_ : ⊥ = cc in no_))),
          new_turn k s m m.asked rising,
        )

pub turns_are_the_machines : (k : Facts) (s : State) (m : Message) (reply : TurnReply) (next : State)
    → Rising (first_number k) s.survivors
    → IsTurn k s m reply next ↔ (turn_of k s m ≡ record { reply = reply; state = next })
turns_are_the_machines k s m reply next rising = (
  (λ h. sym (turn_is k s m reply next rising h)),
  (λ is. subst (λ (a : Answered). IsTurn k s m a.reply a.state) is (machine_turns k s m rising)),
)
