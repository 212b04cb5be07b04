use Rattle.std.proofs.Common.{arith, not, ◌∙◌, ap, sym, subst, refl, [], ◌∷◌, ◌++◌, length}
use Rattle.hd_rules.specs.Known.{IsKnown}
use Rattle.hd_rules.specs.Journal.{Turn}
use Rattle.hd_rules.specs.Messages.{turn_with_reply}
use Rattle.hd_journal.specs.Books.{Book, IsLegalBook, facts}
use Rattle.hd_journal.specs.SurvivorRun.{SurvivorRun, state_at}
use Rattle.hd_journal.specs.TurnLog.{after_turn, kept_by}
use Rattle.hd_journal.proofs.Keeping.{Makes, legal_book, kept_there, makes_kept, makes_turn, no_turn}
use Rattle.hd_journal.proofs.Keeping.{anew_changes, carried_answer, carried_work, repeat_answer, repeat_same}
use Rattle.hd_journal.proofs.Keeping.{repeat_work}
use Rattle.hd_journal.proofs.Raising.{rise_none}
use Rattle.hd_journal.proofs.journal.Journal.take_new.Given.{Over}
use Rattle.hd_journal.proofs.journal.Journal.take_new.Goals.{After-add_repeat, After-add}
use Rattle.hd_journal.proofs.journal.Journal.take_new.Goals as goal
use Rattle.hd_lemmas.proofs.Results.{on_err}

pub returns-in_err-ready-clause-legal : goal.returns-in_err-ready-clause-legal
returns-in_err-ready-clause-legal g c =
    legal_book c.journal_laws.ensures _ _ _
    (kept_there _ _ _ _ _ c.self.invariant c.ready.ensures.turns c.ready.ensures.kept)

pub returns-in_err-ready-clause-err : goal.returns-in_err-ready-clause-err
returns-in_err-ready-clause-err g c =
    on_err _ _ (no_turn c.self.inside.log c.ready.new.self c.self.inside.run c.self.inside.run
    c.self.inside.meter
    c.self.inside.meter c.args.self.now c.self.view_is c.ready.ensures.turns refl (rise_none _ _ refl))

pub returns-in_err-reply-clause-legal : goal.returns-in_err-reply-clause-legal
returns-in_err-reply-clause-legal g c =
    subst (λ (x : SurvivorRun). IsLegalBook x.contents c.ready.new.self.turns)
    (sym c.in_err-reply.ensures.err)
    (legal_book c.journal_laws.ensures _ _ _
    (kept_there _ _ _ _ _ c.self.invariant c.ready.ensures.turns c.ready.ensures.kept))

pub returns-in_err-reply-clause-err : goal.returns-in_err-reply-clause-err
returns-in_err-reply-clause-err g c =
    on_err _ _ (no_turn c.self.inside.log c.ready.new.self c.self.inside.run c.answer.new.self
    c.self.inside.meter
    c.answer.new.meter c.args.self.now c.self.view_is c.ready.ensures.turns c.in_err-reply.ensures.err
    c.in_err-reply.ensures.rise)

-- a repeat
again : (g : Over) (c : After-add_repeat g)
    → Makes c.self.inside.log c.ready.new.self c.add_repeat.new.self c.self.inside.run c.self.inside.run
    (turn_with_reply c.args.ask c.in-Some.reply) c.self.inside.meter c.self.inside.meter
again g c =
    let r = c.self.inside.run in
    let message = c.args.ask.message in
    let is = sym c.in-Some.is ∙ c.kept_reply-repeated.ensures in
    record {
      kept = c.self.invariant;
      ready_turns = c.ready.ensures.turns;
      ready_kept = c.ready.ensures.kept;
      turns = c.add_repeat.ensures.turns
          ∙ ap (λ (x : Turn). c.ready.new.self.turns ++ x ∷ []) c.with_reply-again.ensures;
      contents = refl;
      last = omega arith;
      known = subst (λ (x : Book). IsKnown (facts x) message.asked) (sym c.self.view_is) c.requires.1;
      answer = repeat_answer r (kept_by c.ready.new.self) message c.in-Some.reply is
          ∙ (λ j. record { reply = c.in-Some.reply; state = state_at r (sym c.add_repeat.ensures.kept j) });
      work = repeat_work r (kept_by c.ready.new.self) message c.in-Some.reply c.self.inside.meter is;
    }

-- what is none
anew : (g : Over) (c : After-add g)
    → Makes c.self.inside.log c.ready.new.self c.add.new.self c.self.inside.run c.answer.new.self
    (turn_with_reply c.args.ask c.in_ok-reply.reply) c.self.inside.meter c.answer.new.meter
anew g c =
    let r = c.self.inside.run in
    let next = c.answer.new.self in
    let kept = kept_by c.ready.new.self in
    let turn : Turn = turn_with_reply c.args.ask c.in_ok-reply.reply in
    let none = sym c.in_default.is ∙ c.kept_reply-repeated.ensures in
    let keeps = c.add.ensures.kept ∙ ap (λ (x : Turn). after_turn x kept) c.with_reply-turn.ensures in
    record {
      kept = c.self.invariant;
      ready_turns = c.ready.ensures.turns;
      ready_kept = c.ready.ensures.kept;
      turns = c.add.ensures.turns ∙ ap (λ (x : Turn). c.ready.new.self.turns ++ x ∷ [])
          c.with_reply-turn.ensures;
      contents = c.in_ok-reply.ensures.contents;
      last = c.in_ok-reply.ensures.last;
      known = subst (λ (x : Book). IsKnown (facts x) turn.message.asked) (sym c.self.view_is) c.requires.1;
      answer = carried_answer r next kept turn none c.in_ok-reply.ensures.answered
          ∙ (λ j. record { reply = turn.reply; state = state_at next (sym keeps j) });
      work = carried_work r kept turn.message c.self.inside.meter c.answer.new.meter none
          c.in_ok-reply.ensures.work;
    }

pub invariant_of-self-in-Some : goal.invariant_of-self-in-Some
invariant_of-self-in-Some g c =
    makes_kept c.journal_laws.ensures _ _ _ _ _ _ _ _
    (again g (goal.at.invariant_of-self-in-Some g c).After-add_repeat)

pub returns-in-Some-clause-turn : goal.returns-in-Some-clause-turn
returns-in-Some-clause-turn g c =
    let adds = again g (goal.at.returns-in-Some-clause-turn g c).After-add_repeat in
    makes_turn c.journal_laws.ensures _ _ _ _ _ _ _ _ _ _ adds c.self.view_is
    (c.add_repeat.ensures.made
    ∙ ap (λ (x : Turn). record { at = length c.add_repeat.new.self.turns; reply = x.reply })
    c.with_reply-again.ensures)

pub returns-in-Some-clause-legal : goal.returns-in-Some-clause-legal
returns-in-Some-clause-legal g c =
    legal_book c.journal_laws.ensures _ _ _
    (makes_kept c.journal_laws.ensures _ _ _ _ _ _ _ _
    (again g (goal.at.returns-in-Some-clause-legal g c).After-add_repeat))

pub invariant_of-self-2 : goal.invariant_of-self-2
invariant_of-self-2 g c =
    makes_kept c.journal_laws.ensures _ _ _ _ _ _ _ _
    (anew g (goal.at.invariant_of-self-2 g c).After-add)

pub returns-clause-turn : goal.returns-clause-turn
returns-clause-turn g c =
    let adds = anew g (goal.at.returns-clause-turn g c).After-add in
    makes_turn c.journal_laws.ensures _ _ _ _ _ _ _ _ _ _ adds c.self.view_is
    (c.add.ensures.made
    ∙ ap (λ (x : Turn). record { at = length c.add.new.self.turns; reply = x.reply })
    c.with_reply-turn.ensures)

pub returns-clause-legal : goal.returns-clause-legal
returns-clause-legal g c =
    legal_book c.journal_laws.ensures _ _ _
    (makes_kept c.journal_laws.ensures _ _ _ _ _ _ _ _ (anew g (goal.at.returns-clause-legal g c).After-add))

-- a repeat changes nothing
pub returns-in-Some-clause-changing : goal.returns-in-Some-clause-changing
returns-in-Some-clause-changing g c =
    repeat_same c.self.inside.log c.ready.new.self c.self.inside.run c.self.inside.meter c.args.self.now
    c.args.ask.message
    c.in-Some.reply c.self.invariant c.ready.ensures.kept c.self.view_is
    (sym c.in-Some.is ∙ c.kept_reply-repeated.ensures)

pub returns-clause-changing : goal.returns-clause-changing
returns-clause-changing g c =
    ap not c.is_query-is_changing.ensures
    ∙ anew_changes c.self.inside.log c.ready.new.self c.self.inside.run c.self.inside.meter c.args.self.now
    c.args.ask.message
    c.self.invariant c.ready.ensures.kept c.self.view_is (sym c.in_default.is ∙ c.kept_reply-repeated.ensures)
