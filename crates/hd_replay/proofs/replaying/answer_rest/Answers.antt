use Rattle.std.proofs.Common.{◌≡◌, ◌∙◌, [], arith, eqb-true, length, sym}
use Rattle.std.proofs.lemmas.Bool.{eqb-false}
use Rattle.std.proofs.KnownBytes.{Appends-nil}
use Rattle.hd_replay.specs.declared.fault.ReplayFault.TheVariants.{Memory}
use Rattle.hd_replay.proofs.Lining.{no_rest_left, rest_ended, some_bytes}
use Rattle.hd_replay.proofs.Replayed.{none_replayed, part_of_none, passed_on}
use Rattle.hd_replay.proofs.replaying.answer_rest.Goals as goal

pub returns-then-is_empty-clause-replayed : goal.returns-then-is_empty-clause-replayed
returns-then-is_empty-clause-replayed g c =
    let none = eqb-true _ _ (sym c.is_empty.ensures ∙ c.if-is_empty.true) in (
      [],
      rw (no_rest_left c.args.input.now.items (sym c.args.input.now.ok.0 ∙ none)) (none_replayed _),
      Appends-nil _,
    )

pub returns-in_err-push-clause-replayed : goal.returns-in_err-push-clause-replayed
returns-in_err-push-clause-replayed g c = (
  [],
  passed_on _ Memory _ _ _ _ c.from_residual.ensures.0 c.from_residual.ensures.1 (part_of_none _ _),
  Appends-nil _,
)

pub returns-clause-replayed : goal.returns-clause-replayed
returns-clause-replayed g c =
    let told = c.answer_whole.ensures.replayed in
    let some = some_bytes c.args.input.now.len
    (eqb-false _ _ (sym c.is_empty.ensures ∙ c.if-is_empty.false)) in
    let long : c.args.input.now.len ≡ length c.args.input.now.items = c.args.input.now.ok.0 in (
      told.2,
      rw (rest_ended c.args.input.now.items told.0 told.1 c.requires.rest (omega (arith, some, long))
          (rw c.in_ok-push.ensures.items at told.3)) told.4,
      told.5,
    )
