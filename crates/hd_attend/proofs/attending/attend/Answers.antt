use Rattle.std.proofs.Common.{◌∙◌, ◌++◌, refl, sym, subst, [], rules}
use Rattle.hd_exchange.specs.Works.{Works}
use Rattle.hd_date.specs.Stamps.{Stamp}
use Rattle.hd_attend.proofs.Attended.{attends_more, attends_none, attends_passed, goes_on}
use Rattle.hd_attend.proofs.Working.{keeps_behind, works_more, works_none}
use Rattle.hd_attend.specs.declared.fault.AttendFault.TheVariants.{Read}
use Rattle.hd_attend.proofs.attending.attend.Goals as goal

pub loop-init : goal.loop-init
loop-init g c = record {
  attends = ([], rw (← c.new-announced.ensures.office) (works_none _ _), attends_none _ _ _ _ _ _ _ _);
  same_reference = refl;
}

pub loop-preserved : goal.loop-preserved
loop-preserved g c =
    let before = c.loop.invariant.attends in
    let next = c.in_ok-answer_piece.ensures.attends in
    let below = keeps_behind _ _ _ _ next.1.same in
    record {
      attends = (
        before.0 ++ next.0,
        works_more _ _ _ _ _ _ before.1 next.1.turns next.1.shown below.1 next.1.holds,
        attends_more _ _ _ _ _ _ _ _ _ _ _ _ _ _ before.2 _ _ _ _ _ _ Read c.in_ok-count.ensures.read.0
            (λ now is. subst (λ (s : Stamp). g.S.Surroundings.tells c.args.surroundings.now s)
            (sym is) c.now-now.ensures)
            (goes_on _ _ _ _ _ _ _ _ _ _ (rw before.1.same at next.2)),
      );
      same_reference = below.0 ∙ c.loop.invariant.same_reference;
    }

pub returns-in_err-answer_piece-clause-attends : goal.returns-in_err-answer_piece-clause-attends
returns-in_err-answer_piece-clause-attends g c =
    let before = c.loop.invariant.attends in
    let next = c.in_err-answer_piece.ensures.attends in
    let below = keeps_behind _ _ _ _ next.1.same in
    let works : Works g.O.Office c.args.office.now c.answer_piece.new.office.office.now (before.0 ++ next.0) =
    works_more _ _ _ _ _ _ before.1 next.1.turns next.1.shown below.1 next.1.holds in (
      before.0 ++ next.0,
      first_of (search (rules, works), search rules),
      attends_passed _ _ _ _ _ _ _ _ _ _ _ c.in_err-answer_piece.field-0.0
          c.from_residual-in_err-answer_piece.ensures.0
          c.from_residual-in_err-answer_piece.ensures.1
          (attends_more _ _ _ _ _ _ _ _ _ _ _ _ _ _ before.2 _ _ _ _ _ _ c.in_err-answer_piece.field-0.0
          c.in_ok-count.ensures.read.0
          (λ now is. subst (λ (s : Stamp). g.S.Surroundings.tells c.args.surroundings.now s)
          (sym is) c.now-now.ensures)
          (rw before.1.same at next.2)),
    )
