use Rattle.std.proofs.Common.{refl, sym, ◌∙◌}
use Rattle.std.proofs.lemmas.Result.{on_ok_weaker, IfErr-weaker}
use Rattle.hd_journal_file.proofs.Results.{passes}
use Rattle.hd_journal_file.proofs.Retaken.{refuses_came, takes_row}
use Rattle.hd_journal_file.proofs.restoring.take_turn.Goals as goal

pub returns-in_err-own-clause-why : goal.returns-in_err-own-clause-why
returns-in_err-own-clause-why g c =
    passes c.from_residual.result c.in_err-own.field-0.0 _ c.from_residual.ensures.1
    (c.in_err-own.ensures.why c.args.format)

pub returns-then-not-new-clause-why : goal.returns-then-not-new-clause-why
returns-then-not-new-clause-why g c = (
  refl,
  (
    record { seat = _; message = _; is = c.in_ok-own.ensures.row },
    sym c.in-Ok.ensures.changing ∙ c.if-not-new.true,
  ),
)

pub returns-clause-took : goal.returns-clause-took
returns-clause-took g c =
    on_ok_weaker c.compare.result
    (takes_row c.in-Ok.ensures.turn c.in_ok-own.ensures.row
    (sym c.in-Ok.ensures.changing ∙ c.if-not-new.false)) c.compare.ensures.same

pub returns-clause-why : goal.returns-clause-why
returns-clause-why g c =
    IfErr-weaker c.compare.result _ _
    (refuses_came (record { seat = _; message = _; is = c.in_ok-own.ensures.row }) c.in-Ok.ensures.turn.reply)
    c.compare.ensures.why
