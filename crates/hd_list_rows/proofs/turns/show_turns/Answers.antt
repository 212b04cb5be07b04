use Rattle.std.proofs.Common.{arith, rules, ◌≡◌, ◌∙◌, sym, ap, ◌+◌, ◌-◌, ◌≤◌, ◌∷◌, [], ◌++◌, Some, None}
use Rattle.std.proofs.Common.{drop, take}
use Rattle.hd_journal.specs.Shown.{turn_shown}
use Rattle.hd_list_rows.specs.declared.row.Row.{Row}
use Rattle.hd_list_rows.specs.PageValue.{PageValue}
use Rattle.hd_list_rows.specs.Pages.{most_turns}
use Rattle.hd_list_rows.specs.Rows.{turn_rows}
use Rattle.hd_list_rows.proofs.Turning.{one_turn, page_before, page_to_end}
use Rattle.hd_list_rows.proofs.turns.show_turns.Goals as goal

pub loop-place-preserved : goal.loop-place-preserved
loop-place-preserved g c =
    let turns = c.args.journal.now.turns in
    let shown = take (c.loop-place.place - c.args.after) (drop c.args.after (turn_rows 1 turns)) in
    let rows = ap (λ (r : Row). shown ++ r ∷ []) c.turn_row.ensures
    ∙ sym (one_turn turns c.args.after c.loop-place.place (turn_shown c.in-Some.turn) c.loop-place.invariant.1
    c.in-Some.ensures) in (
      c.put.ensures
          ∙ ap (λ (p : PageValue). record p { rows = p.rows ++ c.turn_row.result ∷ [] })
          c.loop-place.invariant.0
          ∙ (λ j. record { rows = rows j; next = None }),
      omega (arith, c.loop-place.invariant.1),
    )

pub returns-then-end-front : goal.returns-then-end-front
returns-then-end-front g c =
    let end = c.last_shown-end.result in
    let far : end ≡ c.args.after + most_turns c.args.limit =
    c.last_shown-end.ensures.far c.if-end-front.true in
    let high : c.loop-place.place ≤ end = c.loop-place.auto.place-end (omega (arith, far)) in
    page_before c.args.journal.now.turns c.args.after (most_turns c.args.limit) c.loop-place.place end
    c.go_on.new.self
    (c.go_on.ensures
    ∙ ap (λ (p : PageValue). record { rows = p.rows; next = Some end }) c.loop-place.invariant.0)
    (omega (arith, high, c.loop-place-test.false)) far
    (omega (arith, c.if-end-front.true, c.front-front.ensures.count))

pub returns-else-end-front : goal.returns-else-end-front
returns-else-end-front g c =
    page_to_end c.args.journal.now.turns c.args.after (most_turns c.args.limit) c.loop-place.place
    c.loop-place.page c.loop-place.invariant.0
    (omega (arith, c.if-end-front.false, c.loop-place-test.false, c.front-front.ensures.count))
    (omega (arith, c.last_shown-end.ensures.all c.if-end-front.false, c.front-front.ensures.count))
