use Rattle.std.proofs.Common.{◌≡◌, ◌∙◌, ◌∷◌, ◌++◌, [], List, ℕ, ap, arith, refl, replicate, rules, subst, sym}
use Rattle.hd_exchange.specs.Extensions.{extensions_lent}
use Rattle.hd_session.specs.Scripts.{AreKnownTo}
use Rattle.hd_session.specs.Sessions.{Hearing, new_session}
use Rattle.hd_replay.specs.Replays.{AreOfOffice}
use Rattle.hd_replay.proofs.Opening.{empty_more, new_known, new_more, new_of_office}
use Rattle.hd_replay.proofs.sessions.Sessions.new.Goals as goal

pub loop-init : goal.loop-init
loop-init g c = record {
  sessions = search rules;
  outs = search rules;
  new = search rules;
  empty =
      λ i. rw c.new-outs.ensures.items refl;
}

pub loop-preserved : goal.loop-preserved
loop-preserved g c = record {
  sessions = search rules;
  outs = search rules;
  new = c.in_ok-put_new.ensures.session
      ∙ (ap (λ (l : List Hearing). l ++ new_session (extensions_lent c.args.extensions) ∷ [])
      c.loop.invariant.new
      ∙ new_more (extensions_lent c.args.extensions) c.loop.counter);
  empty = rw c.in_ok-put_new.ensures.out (empty_more _ c.loop.invariant.empty);
}

pub invariant_of-result : goal.invariant_of-result
invariant_of-result g c =
    let end = c.loop.auto.counter-end in
    let past = c.loop-test.false in
    let all : c.loop.counter ≡ 64 = omega (arith, end, past) in
    let items = c.loop.invariant.new
    ∙ ap (λ (n : ℕ). replicate n (new_session (extensions_lent c.args.extensions))) all in (
      c.loop.invariant.sessions ∙ all,
      c.loop.invariant.outs ∙ all,
      c.loop.invariant.empty,
      subst (AreKnownTo c.args.journal.contents) (sym items)
          (new_known c.args.journal.contents (extensions_lent c.args.extensions) 64),
      subst AreOfOffice (sym items) (new_of_office (extensions_lent c.args.extensions) 64),
    )

pub returns-clause-new : goal.returns-clause-new
returns-clause-new g c =
    let end = c.loop.auto.counter-end in
    let past = c.loop-test.false in
    let all : c.loop.counter ≡ 64 = omega (arith, end, past) in
    let items = c.loop.invariant.new
    ∙ ap (λ (n : ℕ). replicate n (new_session (extensions_lent c.args.extensions))) all in
    rw (items, c.requires.new) refl
