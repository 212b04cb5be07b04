-- A journal goes on by one turn.
use Rattle.std.proofs.Common.{arith, ◌≡◌, refl, sym, ◌∙◌, ap, subst, ℕ, ◌+◌, ◌≤◌, inl, inr}
use Rattle.std.proofs.Common.{List, [], ◌∷◌, ◌++◌, length, length-append, Option, Some, None}
use Rattle.std.proofs.Common.{false, ◌&&◌, is_none, not}
use Rattle.std.proofs.Math.Bool.{and-false, and-true}
use Rattle.hd_rules.specs.declared.turns.Asked.{Asked}
use Rattle.hd_rules.specs.declared.turns.Asked.TheVariants as ask
use Rattle.hd_rules.specs.declared.replies.TurnReply.{TurnReply}
use Rattle.hd_rules.specs.Facts.{Facts, AreInRange}
use Rattle.hd_rules.specs.Known.{IsKnown}
use Rattle.hd_rules.specs.Turns.{Message, Kept, State, Answered}
use Rattle.hd_rules.specs.Machine.{kept_reply, reply_again, answered_unless, with_kept, turn_of}
use Rattle.hd_rules.specs.Journal.{Turn, state_after}
use Rattle.hd_catalogue.specs.Contents.{Contents, facts_of}
use Rattle.hd_desk.specs.Desks.{Opens}
use Rattle.hd_meter.specs.Meter.{Counts}
use Rattle.hd_journal.specs.declared.turn.Turn.{Turn as OneTurn}
use Rattle.hd_rules.specs.Messages.{asking, is_query}
use Rattle.hd_journal.specs.Changing.{is_changing}
use Rattle.hd_journal.specs.Laws.{JournalLaws}
use Rattle.hd_journal.specs.SurvivorRun.{SurvivorRun, IsCarriedOut, state_at, state_alone}
use Rattle.hd_journal.specs.TurnLog.{TurnLog, after_turn, kept_in, kept_by}
use Rattle.hd_journal.specs.Working.{IsWork, OnlyRise}
use Rattle.hd_journal.specs.Books.{Book, AddsTurn, IsLegalBook, MakesNoTurn, AskKnown, IsKept, state}

-- the answer to a repeat
pub repeat_answer : (r : SurvivorRun) (kept : ℕ → Option Kept) (m : Message) (reply : TurnReply)
    → Some reply ≡ kept_reply (kept m.terminal) m.asked m.line
    → turn_of (facts_of r.contents) (state_at r kept) m ≡ record { reply = reply; state = state_at r kept }
repeat_answer r kept m reply is = ap (answered_unless (facts_of r.contents) (state_at r kept) m) (sym is)

abbrev turn_with : ℕ → ℕ → Asked → Option (List ℕ) → TurnReply → Turn
turn_with seat terminal asked line reply =
    record { seat = seat; message = asking terminal asked line; reply = reply }

-- the answer to another message
new_answer : (r next : SurvivorRun) (kept : ℕ → Option Kept) (seat terminal : ℕ) (asked : Asked)
    (line : Option (List ℕ)) (reply : TurnReply)
    → None ≡ kept_reply (kept terminal) asked line
    → IsCarriedOut r terminal asked reply next
    → turn_of (facts_of r.contents) (state_at r kept) (asking terminal asked line)
    ≡ record {
      reply = reply;
      state = state_at next
          (after_turn (turn_with seat terminal asked line reply) kept);
    }
new_answer r next kept seat terminal (ask.Command command) line reply new is =
    let m : Message = asking terminal (ask.Command command) line in
    ap (answered_unless (facts_of r.contents) (state_at r kept) m) (sym new) ∙ ap (with_kept m) (is kept)
new_answer r next kept seat terminal (ask.Cancel what) line reply new is =
    let m : Message = asking terminal (ask.Cancel what) line in
    ap (answered_unless (facts_of r.contents) (state_at r kept) m) (sym new) ∙ ap (with_kept m) (is kept)
new_answer r next kept seat terminal (ask.Item copy) line reply new is =
    ap (answered_unless (facts_of r.contents) (state_at r kept) (asking terminal (ask.Item copy) line))
    (sym new)
    ∙ (λ j. record { reply = sym is.0 j; state = state_at (sym is.1 j) kept })

pub carried_answer : (r next : SurvivorRun) (kept : ℕ → Option Kept) (turn : Turn)
    → None ≡ kept_reply (kept turn.message.terminal) turn.message.asked turn.message.line
    → IsCarriedOut r turn.message.terminal turn.message.asked turn.reply next
    → turn_of (facts_of r.contents) (state_at r kept) turn.message
    ≡ record { reply = turn.reply; state = state_at next (after_turn turn kept) }
carried_answer r next kept turn new is =
    new_answer r next kept turn.seat turn.message.terminal turn.message.asked turn.message.line turn.reply
    new is

-- a repeat raises nothing
still_work : (k : Facts) (s : State) (terminal : ℕ) (asked : Asked) (reply : TurnReply) (work : Counts)
    → IsWork k s terminal asked (Some reply) work work
still_work k s terminal (ask.Command command) reply work = refl
still_work k s terminal (ask.Cancel what) reply work = refl
still_work k s terminal (ask.Item copy) reply work = refl

pub repeat_work : (r : SurvivorRun) (kept : ℕ → Option Kept) (m : Message) (reply : TurnReply) (work : Counts)
    → Some reply ≡ kept_reply (kept m.terminal) m.asked m.line
    → IsWork (facts_of r.contents) (state_at r kept) m.terminal m.asked
    (reply_again (state_at r kept) m) work work
repeat_work r kept m reply work is =
    subst (λ (again : Option TurnReply). IsWork (facts_of r.contents)
    (state_at r kept) m.terminal m.asked again work work) is
    (still_work (facts_of r.contents) (state_at r kept) m.terminal m.asked reply work)

-- what is kept has no part in the work of another message
work_beside : (r : SurvivorRun) (kept : ℕ → Option Kept) (terminal : ℕ) (asked : Asked) (old new : Counts)
    → IsWork (facts_of r.contents) (state_alone r) terminal asked None old new
    → IsWork (facts_of r.contents) (state_at r kept) terminal asked None old new
work_beside r kept terminal (ask.Command command) old new is = is
work_beside r kept terminal (ask.Cancel what) old new is = is
work_beside r kept terminal (ask.Item copy) old new is = is

pub carried_work : (r : SurvivorRun) (kept : ℕ → Option Kept) (m : Message) (old new : Counts)
    → None ≡ kept_reply (kept m.terminal) m.asked m.line
    → IsWork (facts_of r.contents) (state_alone r) m.terminal m.asked None old new
    → IsWork (facts_of r.contents) (state_at r kept) m.terminal m.asked
    (reply_again (state_at r kept) m) old new
carried_work r kept m old new none is =
    subst (λ (again : Option TurnReply). IsWork (facts_of r.contents)
    (state_at r kept) m.terminal m.asked again old new) none
    (work_beside r kept m.terminal m.asked old new is)

-- what the machine answers next, by the state that it has come to
pub record Goes (turns more : List Turn) (r next : SurvivorRun) (kept later : ℕ → Option Kept)
    (turn : Turn) : Type 0 where
  pub was : IsKept turns r kept
  pub contents : next.contents ≡ r.contents
  pub items : more ≡ turns ++ turn ∷ []
  pub last : next.last ≤ r.last + 1
  pub known : IsKnown (facts_of r.contents) turn.message.asked
  pub answer : turn_of (facts_of r.contents) (state_at r kept) turn.message
      ≡ record { reply = turn.reply; state = state_at next later }

pub answered_so : (turns items : List Turn) (r next : SurvivorRun) (kept later : ℕ → Option Kept)
    (turn : Turn)
    → Goes turns items r next kept later turn
    → turn_of (facts_of r.contents) (state_after (facts_of r.contents) turns) turn.message
    ≡ record { reply = turn.reply; state = state_at next later }
answered_so turns items r next kept later turn h =
    ap (λ (s : State). turn_of (facts_of r.contents) s turn.message) h.was.state ∙ h.answer

pub state_goes : JournalLaws → (turns items : List Turn) (r next : SurvivorRun) (kept later : ℕ → Option Kept)
    (turn : Turn)
    → Goes turns items r next kept later turn
    → state_after (facts_of r.contents) (turns ++ turn ∷ []) ≡ state_at next later
state_goes laws turns items r next kept later turn h =
    (laws.legal.goes_on (facts_of r.contents) turns turn).1
    ∙ ap (λ (a : Answered). a.state) (answered_so turns items r next kept later turn h)

-- one message more
known_more : (k : Facts) (turns : List Turn) (turn : Turn) → AskKnown k turns → IsKnown k turn.message.asked
    → AskKnown k (turns ++ turn ∷ [])
known_more k [] turn all known one (inl same) =
    subst (λ (x : Turn). IsKnown k x.message.asked) (sym same) known
known_more k [] turn all known one (inr none) = absurd none
known_more k (first ∷ turns) turn all known one (inl same) = all one (inl same)
known_more k (first ∷ turns) turn all known one (inr later) =
    known_more k turns turn (λ x among. all x (inr among)) known one later

kept_after : JournalLaws → (turns items : List Turn) (r next : SurvivorRun) (kept later : ℕ → Option Kept)
    (turn : Turn)
    → Goes turns items r next kept later turn
    → IsKept (turns ++ turn ∷ [])
    (record { contents = r.contents; survivors = next.survivors; last = next.last }) later
kept_after laws turns items r next kept later turn h =
    let k : Facts = facts_of r.contents in
    let goes : turn_of k (state_after k turns) turn.message
    ≡ record { reply = turn.reply; state = state_at next later } =
    answered_so turns items r next kept later turn h in
    let low : r.last ≤ k.opening.last + length turns = h.was.last in
    let up : next.last ≤ r.last + 1 = h.last in
    record {
      range = h.was.range;
      opens = h.was.opens;
      known = known_more k turns turn h.was.known h.known;
      legal = (laws.legal.goes_on k turns turn).0.1 (h.was.legal, ap (λ (a : Answered). a.reply) (sym goes));
      state = state_goes laws turns items r next kept later turn h
          ∙ (λ j. state_at (record { contents = h.contents j; survivors = next.survivors; last = next.last })
          later);
      last = omega (arith, length-append turns (turn ∷ []));
    }

pub kept_on : JournalLaws → (turns items : List Turn) (r next : SurvivorRun) (kept later : ℕ → Option Kept)
    (turn : Turn)
    → Goes turns items r next kept later turn → IsKept items next later
kept_on laws turns items r next kept later turn h =
    let there : Contents → SurvivorRun =
    λ x. record { contents = x; survivors = next.survivors; last = next.last } in
    subst (λ (xs : List Turn). IsKept xs next later) (sym h.items)
    (subst (λ (x : Contents). IsKept (turns ++ turn ∷ []) (there x) later) (sym h.contents)
    (kept_after laws turns items r next kept later turn h))

-- a journal without turns
pub kept_at_start : (contents : Contents) (r : SurvivorRun) (turns : List Turn) (places : List (Option ℕ))
    → AreInRange (facts_of contents) → Opens (facts_of contents)
    → r ≡ record { contents = contents; survivors = []; last = (facts_of contents).opening.last }
    → turns ≡ [] → places ≡ [] → IsKept turns r (kept_in turns places)
kept_at_start contents r turns places range opens is none nowhere =
    let opening : SurvivorRun =
    record { contents = contents; survivors = []; last = (facts_of contents).opening.last } in
    let start_kept : IsKept [] opening (kept_in [] []) = record {
      range = range;
      opens = opens;
      known = λ turn among. absurd among;
      legal = tt;
      state = λ j. state_at opening (λ t. None);
      last = omega arith;
    } in
    subst (λ (x : SurvivorRun). IsKept turns x (kept_in turns places)) (sym is)
    (subst (λ (xs : List Turn). IsKept xs opening (kept_in xs places)) (sym none)
    (subst (λ (ps : List (Option ℕ)). IsKept [] opening (kept_in [] ps)) (sym nowhere) start_kept))

-- what the laws say of what is kept
pub legal_book : JournalLaws → (turns : List Turn) (r : SurvivorRun) (kept : ℕ → Option Kept)
    → IsKept turns r kept
    → IsLegalBook r.contents turns
legal_book laws turns r kept is = record {
  legal = is.legal;
  run = laws.journals.run (facts_of r.contents) turns is.legal;
  headline = laws.headline (facts_of r.contents) turns is.legal;
  replies = laws.journals.replies (facts_of r.contents) turns is.legal;
  known = laws.journals.known (facts_of r.contents) turns is.range is.opens.known is.legal is.known;
}

-- the same of a journal that is equal to its parts
pub legal_there : JournalLaws
    → (turns : List Turn) (r : SurvivorRun) (kept : ℕ → Option Kept) (work : Counts) (book : Book)
    → IsKept turns r kept → record { contents = r.contents; turns = turns; work = work } ≡ book
    → IsLegalBook book.contents book.turns
legal_there laws turns r kept work book is same =
    subst (λ (x : Book). IsLegalBook x.contents x.turns) same (legal_book laws turns r kept is)

-- the same at a list and what is kept that are equal to these
pub kept_there : (turns more : List Turn) (r : SurvivorRun) (kept later : ℕ → Option Kept)
    → IsKept turns r kept → more ≡ turns → later ≡ kept → IsKept more r later
kept_there turns more r kept later is same still =
    subst (λ (xs : List Turn). IsKept xs r later) (sym same)
    (subst (λ (x : ℕ → Option Kept). IsKept turns r x) (sym still) is)

-- a journal of these parts
abbrev pub book_at : SurvivorRun → List Turn → Counts → Book
book_at r turns work = record { contents = r.contents; turns = turns; work = work }

-- nothing was done
pub still_book : (book : Book) → MakesNoTurn book book
still_book book = record { contents = refl; turns = refl; work = ([], refl) }

-- no turn was made
pub no_turn : (was ready : TurnLog) (r next : SurvivorRun) (old new : Counts) (book : Book)
    → book_at r was.turns old ≡ book → ready.turns ≡ was.turns → next ≡ r → OnlyRise old new
    → MakesNoTurn book (book_at next ready.turns new)
no_turn was ready r next old new book same still stays rise =
    subst (λ (x : Book). MakesNoTurn x (book_at next ready.turns new)) same
    (record { contents = ap (λ (x : SurvivorRun). x.contents) stays; turns = still; work = rise })

-- One turn of the code: room was made, which changes nothing; the machine answers so; the turn was added; its
-- work is counted.
pub record Makes (was ready now : TurnLog) (r next : SurvivorRun) (turn : Turn)
    (old new : Counts) : Type 0 where
  pub kept : IsKept was.turns r (kept_by was)
  pub ready_turns : ready.turns ≡ was.turns
  pub ready_kept : kept_by ready ≡ kept_by was
  pub turns : now.turns ≡ ready.turns ++ turn ∷ []
  pub contents : next.contents ≡ r.contents
  pub last : next.last ≤ r.last + 1
  pub known : IsKnown (facts_of r.contents) turn.message.asked
  pub answer : turn_of (facts_of r.contents) (state_at r (kept_by ready)) turn.message
      ≡ record { reply = turn.reply; state = state_at next (kept_by now) }
  pub work : IsWork (facts_of r.contents)
      (state_at r (kept_by ready)) turn.message.terminal turn.message.asked
      (reply_again (state_at r (kept_by ready)) turn.message) old new

goes_on : (was ready now : TurnLog) (r next : SurvivorRun) (turn : Turn) (old new : Counts)
    → Makes was ready now r next turn old new
    → Goes ready.turns now.turns r next (kept_by ready) (kept_by now) turn
goes_on was ready now r next turn old new h = record {
  was = kept_there was.turns ready.turns r (kept_by was) (kept_by ready) h.kept h.ready_turns h.ready_kept;
  contents = h.contents;
  items = h.turns;
  last = h.last;
  known = h.known;
  answer = h.answer;
}

pub makes_kept : JournalLaws → (was ready now : TurnLog) (r next : SurvivorRun) (turn : Turn)
    (old new : Counts)
    → Makes was ready now r next turn old new
    → IsKept now.turns next (kept_by now)
makes_kept laws was ready now r next turn old new h =
    kept_on laws ready.turns now.turns r next (kept_by ready) (kept_by now) turn
    (goes_on was ready now r next turn old new h)

adds_here : JournalLaws → (was ready now : TurnLog) (r next : SurvivorRun) (turn : Turn) (old new : Counts)
    → Makes was ready now r next turn old new
    → AddsTurn (book_at r ready.turns old) (book_at next now.turns new) turn.seat turn.message
    (record { at = length now.turns; reply = turn.reply })
adds_here laws was ready now r next turn old new h =
    let k : Facts = facts_of r.contents in
    let on : Goes ready.turns now.turns r next (kept_by ready) (kept_by now) turn =
    goes_on was ready now r next turn old new h in
    let goes : turn_of k (state_after k ready.turns) turn.message
    ≡ record { reply = turn.reply; state = state_at next (kept_by now) } =
    answered_so ready.turns now.turns r next (kept_by ready) (kept_by now) turn on in
    let told : turn.reply ≡ (turn_of k (state_after k ready.turns) turn.message).reply =
    ap (λ (a : Answered). a.reply) (sym goes) in
    record {
      contents = h.contents;
      turns = h.turns ∙ (λ j. ready.turns ++ record {
        seat = turn.seat;
        message = turn.message;
        reply = told j;
      } ∷ []);
      state = (λ j. state_after (facts_of (h.contents j)) (h.turns j))
          ∙ state_goes laws ready.turns now.turns r next (kept_by ready) (kept_by now) turn on
          ∙ ap (λ (a : Answered). a.state) (sym goes);
      reply = told;
      number = refl;
      work = subst (λ (s : State). IsWork k s turn.message.terminal turn.message.asked
          (reply_again s turn.message) old new)
          (sym on.was.state) h.work;
    }

-- the turn was added to the journal, and this is told of it
pub makes_turn : JournalLaws → (was ready now : TurnLog) (r next : SurvivorRun) (turn : Turn)
    (old new : Counts)
    (book : Book) (made : OneTurn)
    → Makes was ready now r next turn old new
    → book_at r was.turns old ≡ book
    → made ≡ record { at = length now.turns; reply = turn.reply }
    → AddsTurn book (book_at next now.turns new) turn.seat turn.message made
makes_turn laws was ready now r next turn old new book made h same is =
    let there : book_at r ready.turns old ≡ book = (λ j. book_at r (h.ready_turns j) old) ∙ same in
    subst (λ (x : Book). AddsTurn x (book_at next now.turns new) turn.seat turn.message made) there
    (subst (λ (x : OneTurn). AddsTurn (book_at r ready.turns old)
    (book_at next now.turns new) turn.seat turn.message x) (sym is)
    (adds_here laws was ready now r next turn old new h))

-- whether the message changes something, by what is kept of its terminal's last
changing_by : (was ready : TurnLog) (r : SurvivorRun) (work : Counts) (book : Book) (message : Message)
    → IsKept was.turns r (kept_by was) → kept_by ready ≡ kept_by was → book_at r was.turns work ≡ book
    → is_changing (state book) message
    ≡ (not (is_query message.asked) && is_none
    (kept_reply (kept_by ready message.terminal) message.asked message.line))
changing_by was ready r work book message kept still same =
    ap (λ (x : Book). is_changing (state x) message) (sym same)
    ∙ ap (λ (s : State). is_changing s message) (kept.state ∙ ap (state_at r) (sym still))

-- a repeat changes nothing
pub repeat_same : (was ready : TurnLog) (r : SurvivorRun) (work : Counts) (book : Book) (message : Message)
    (reply : TurnReply)
    → IsKept was.turns r (kept_by was) → kept_by ready ≡ kept_by was → book_at r was.turns work ≡ book
    → Some reply ≡ kept_reply (kept_by ready message.terminal) message.asked message.line
    → false ≡ is_changing (state book) message
repeat_same was ready r work book message reply kept still same is =
    sym (changing_by was ready r work book message kept still same
    ∙ ap (λ (o : Option TurnReply). not (is_query message.asked) && is_none o) (sym is)
    ∙ and-false (not (is_query message.asked)))

-- what is no repeat changes something where it is no query
pub anew_changes : (was ready : TurnLog) (r : SurvivorRun) (work : Counts) (book : Book) (message : Message)
    → IsKept was.turns r (kept_by was) → kept_by ready ≡ kept_by was → book_at r was.turns work ≡ book
    → (let none : Option TurnReply = None in none ≡ kept_reply (kept_by ready message.terminal) message.asked
    message.line)
    → not (is_query message.asked) ≡ is_changing (state book) message
anew_changes was ready r work book message kept still same is =
    sym (changing_by was ready r work book message kept still same
    ∙ ap (λ (o : Option TurnReply). not (is_query message.asked) && is_none o) (sym is)
    ∙ and-true (not (is_query message.asked)))
