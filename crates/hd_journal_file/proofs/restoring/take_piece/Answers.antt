use Rattle.std.proofs.Common.{◌≤◌, arith, length, map, refl}
use Rattle.std.proofs.lemmas.List.{length-map, take_all}
use Rattle.hd_turn_store.specs.Rows.{read_cells}
use Rattle.hd_journal_file.proofs.Results.{passes}
use Rattle.hd_journal_file.proofs.Retaken.{one_longer, refuses_next, takes_next, takes_none}
use Rattle.hd_journal_file.proofs.restoring.take_piece.Goals as goal

pub loop-values-init : goal.loop-values-init
loop-values-init g c = record { number = omega arith; count = refl; rows = takes_none }

pub loop-values-preserved : goal.loop-values-preserved
loop-values-preserved g c = record {
  number = omega (arith, c.loop-values.invariant.number);
  count = omega (arith, c.loop-values.invariant.count, one_longer c.in_ok-take_turn.ensures.took);
  rows = takes_next c.deref-values-items.result.now c.loop-values.values-index c.values-item.result _
      c.loop-values-test.true c.values-item.is c.in-Ok-of.ensures.turn
      c.a_turn_more_is_kept_where_it_changes.ensures c.loop-values.invariant.rows
      c.in_ok-take_turn.ensures.took;
}

pub returns-clause-rows : goal.returns-clause-rows
returns-clause-rows g c clean head rows holds =
    let items = c.deref-values-items.result.now in
    let all : length (map read_cells items) ≤ c.loop-values.values-index =
    omega (arith, length-map items read_cells) in
    rw (← c.in-Ok.ensures.ok clean head rows holds, ← c.deref-values-items.ensures.value) (
      omega (arith, c.loop-values.invariant.number, length-map items read_cells),
      rw (take_all c.loop-values.values-index (map read_cells items) all) at c.loop-values.invariant.rows,
    )

pub returns-in_err-take_turn-clause-why : goal.returns-in_err-take_turn-clause-why
returns-in_err-take_turn-clause-why g c clean =
    passes c.from_residual.result c.in_err-take_turn.field-0.0 _ c.from_residual.ensures.1 (λ head rows holds.
    rw (← c.in-Ok.ensures.ok clean head rows holds, ← c.deref-values-items.ensures.value)
    (refuses_next c.deref-values-items.result.now c.loop-values.values-index c.values-item.result _
    c.loop-values-test.true c.values-item.is c.in-Ok-of.ensures.turn c.args.after c.in-Some.next
    c.in_err-take_turn.field-0.0 (omega (arith, c.loop-values.invariant.number)) c.loop-values.invariant.rows
    c.in_err-take_turn.ensures.why))
