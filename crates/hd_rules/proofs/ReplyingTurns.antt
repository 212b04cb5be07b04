-- Each message of a legal journal gets a reply of its kind.
use Rattle.std.proofs.Common.{◌≡◌, sym, subst, ℕ, ◌⊎◌, inl, inr, Bool, true, false, ◌==◌, cond, List, [], ◌∷◌}
use Rattle.std.proofs.Common.{◌++◌, Option, Some}
use Rattle.std.proofs.Common.{None}
use Rattle.hd_rules.specs.Words.{Command, Cancel, Asked, TurnReply}
use Rattle.hd_rules.specs.declared.turns.Asked.TheVariants as ask
use Rattle.hd_rules.specs.declared.replies.TurnReply.TheVariants.{Done as Accepted, Refused, Cancelled, Item}
use Rattle.hd_rules.specs.Facts.{Facts}
use Rattle.hd_rules.specs.Run.{IsAmong}
use Rattle.hd_rules.specs.Turns.{Message, Kept, State, start, kept_of, keeping, next_survivor}
use Rattle.hd_rules.specs.Machine.{turn_of}
use Rattle.hd_rules.specs.Turns.{IsCommandTurn, IsCancelTurn, IsQueryTurn, IsNewTurn, IsTurn}
use Rattle.hd_rules.specs.Journal.{Turn, IsLegalFrom, IsLegal, IsRunOfSurvivors}
use Rattle.hd_rules.specs.Replies.{TellsOf, IsReplyTo}
use Rattle.hd_rules.proofs.Tests.{some_is}
use Rattle.hd_rules.proofs.Machine.{machine_turns}
use Rattle.hd_rules.proofs.Journals.{turn_step, legal_is_run}
use Rattle.hd_rules.proofs.Telling.{done_tells}

-- what is kept is a reply to its message
abbrev KeptReplies : (ℕ → Option Kept) → Type 0
KeptReplies kept = (t : ℕ) (was : Kept) → kept t ≡ Some was → IsReplyTo was.asked was.reply

keeping_replies : (m : Message) (reply : TurnReply) (s : State) → KeptReplies s.kept → IsReplyTo m.asked reply
    → KeptReplies (keeping m reply s).kept
keeping_replies m reply s kept fine t was = by_test (t == m.terminal)
  where
    of_line : (line : Option (List ℕ)) → kept_of line m.asked reply ≡ Some was → IsReplyTo was.asked was.reply
    of_line None is = cc
    of_line (Some xs) is =
        subst (λ (x : Kept). IsReplyTo x.asked x.reply)
        (some_is (record { line = xs; asked = m.asked; reply = reply }) was is) fine

    by_test : (b : Bool) → cond b (kept_of m.line m.asked reply) (s.kept t) ≡ Some was
        → IsReplyTo was.asked was.reply
    by_test true is = of_line m.line is
    by_test false is = kept t was is

-- a reply to the message, and what it leaves kept
record Replies (asked : Asked) (reply : TurnReply) (next : State) : Type 0 where
  pub fits : IsReplyTo asked reply
  pub kept : KeptReplies next.kept

replies_as : (m : Message) (reply : TurnReply) (s next : State) → KeptReplies s.kept → IsReplyTo m.asked reply
    → next ≡ keeping m reply s → Replies m.asked reply next
replies_as m reply s next kept fine is = record {
  fits = fine;
  kept = subst (λ (x : State). KeptReplies x.kept) (sym is) (keeping_replies m reply s kept fine);
}

command_replies : (k : Facts) (s : State) (m : Message) (command : Command) (reply : TurnReply) (next : State)
    → m.asked ≡ ask.Command command → KeptReplies s.kept
    → IsCommandTurn k s m (next_survivor s m.terminal command) reply next → Replies m.asked reply next
command_replies k s m command (Accepted n reply) next asks kept h =
    replies_as m (Accepted n reply) _ next kept
    (subst (λ (a : Asked). IsReplyTo a (Accepted n reply)) (sym asks)
    (subst (TellsOf command.action) (sym h.3)
    (done_tells k s.desk (next_survivor s m.terminal command).number command.day command.action h.0 h.1))) h.4
command_replies k s m command (Refused r) next asks kept h =
    replies_as m (Refused r) s next kept (subst (λ (a : Asked). IsReplyTo a (Refused r)) (sym asks) tt) h.1
command_replies k s m command (Cancelled n) next asks kept h = absurd h
command_replies k s m command (Item view) next asks kept h = absurd h

cancel_replies : (k : Facts) (s : State) (m : Message) (what : Cancel) (reply : TurnReply) (next : State)
    → m.asked ≡ ask.Cancel what → KeptReplies s.kept → IsCancelTurn k s m what reply next
    → Replies m.asked reply next
cancel_replies k s m what (Refused r) next asks kept h =
    replies_as m (Refused r) s next kept (subst (λ (a : Asked). IsReplyTo a (Refused r)) (sym asks) tt) h.1
cancel_replies k s m what (Cancelled n) next asks kept h =
    replies_as m (Cancelled n) _ next kept
    (subst (λ (a : Asked). IsReplyTo a (Cancelled n)) (sym asks) tt) h.4
cancel_replies k s m what (Accepted n reply) next asks kept h = absurd h
cancel_replies k s m what (Item view) next asks kept h = absurd h

query_replies : (k : Facts) (s : State) (m : Message) (c : ℕ) (reply : TurnReply) (next : State)
    → m.asked ≡ ask.Item c → KeptReplies s.kept → IsQueryTurn k s c reply next → Replies m.asked reply next
query_replies k s m c (Item view) next asks kept h = record {
  fits = subst (λ (a : Asked). IsReplyTo a (Item view)) (sym asks) tt;
  kept = subst (λ (x : State). KeptReplies x.kept) (sym h.1) kept;
}
query_replies k s m c (Accepted n reply) next asks kept h = absurd h
query_replies k s m c (Refused r) next asks kept h = absurd h
query_replies k s m c (Cancelled n) next asks kept h = absurd h

new_replies : (k : Facts) (s : State) (m : Message) (a : Asked) (reply : TurnReply) (next : State)
    → m.asked ≡ a → KeptReplies s.kept → IsNewTurn k s m a reply next → Replies m.asked reply next
new_replies k s m (ask.Command command) reply next asks kept h =
    command_replies k s m command reply next asks kept h
new_replies k s m (ask.Cancel what) reply next asks kept h = cancel_replies k s m what reply next asks kept h
new_replies k s m (ask.Item c) reply next asks kept h = query_replies k s m c reply next asks kept h

turn_replies : (k : Facts) (s : State) (m : Message) (reply : TurnReply) (next : State) → KeptReplies s.kept
    → IsTurn k s m reply next → Replies m.asked reply next
turn_replies k s m reply next kept (inl h) = record {
  fits = subst (IsReplyTo m.asked) (sym h.0.again)
      (subst (λ (a : Asked). IsReplyTo a h.0.kept.reply) h.0.asked (kept m.terminal h.0.kept h.0.is_kept));
  kept = subst (λ (x : State). KeptReplies x.kept) (sym h.1) kept;
}
turn_replies k s m reply next kept (inr h) = new_replies k s m m.asked reply next (λ i. m.asked) kept h.1

replied : (k : Facts) (past turns : List Turn) (s : State) → IsRunOfSurvivors k past s → KeptReplies s.kept
    → IsLegalFrom k s turns → (turn : Turn) → IsAmong turn turns → IsReplyTo turn.message.asked turn.reply
replied k past [] s is kept legal turn among = absurd among
replied k past (x ∷ xs) s is kept legal turn among =
    cases among (replied k (past ++ x ∷ []) xs (turn_of k s x.message).state
    (turn_step k past x s (turn_of k s x.message).reply (turn_of k s x.message).state is legal.0
    (machine_turns k s x.message is.rising))
    now.kept legal.1 turn)
  where
    now : Replies x.message.asked (turn_of k s x.message).reply (turn_of k s x.message).state
    now = turn_replies k s x.message (turn_of k s x.message).reply (turn_of k s x.message).state kept
        (machine_turns k s x.message is.rising)

    cases : (turn ≡ x) ⊎ IsAmong turn xs → (IsAmong turn xs → IsReplyTo turn.message.asked turn.reply)
        → IsReplyTo turn.message.asked turn.reply
    cases (inl e) more =
        subst (λ (y : Turn). IsReplyTo y.message.asked y.reply) (sym e)
        (subst (IsReplyTo x.message.asked) (sym legal.0) now.fits)
    cases (inr h) more = more h

-- each turn's reply is one to its message
pub each_replies : (k : Facts) (turns : List Turn) → IsLegal k turns → (turn : Turn) → IsAmong turn turns
    → IsReplyTo turn.message.asked turn.reply
each_replies k turns legal turn among =
    replied k [] turns (start k) (legal_is_run k [] tt) (λ t was is. cc) legal turn among
