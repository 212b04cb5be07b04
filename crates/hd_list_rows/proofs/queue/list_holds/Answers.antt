use Rattle.std.proofs.Common.{arith, rules, ◌≡◌, ◌∙◌, sym, ap, ◌<◌, List, ◌∷◌, length}
use Rattle.hd_rules.specs.declared.holds.Hold.{Hold}
use Rattle.hd_desk.specs.Desks.{desk_of, facts}
use Rattle.hd_list_rows.specs.declared.row.Row.{Row}
use Rattle.hd_list_rows.specs.Making.{with_rest}
use Rattle.hd_list_rows.specs.PageValue.{PageValue}
use Rattle.hd_list_rows.specs.Rows.{hold_row, queue_rows}
use Rattle.hd_list_rows.proofs.Making.{passed_over, put_behind}
use Rattle.hd_list_rows.proofs.queue.list_holds.Goals as goal

pub loop-hold-preserved : goal.loop-hold-preserved
loop-hold-preserved g c =
    let k = facts c.args.desk.now in
    let d = desk_of c.args.desk.now in
    let rows : List Row = queue_rows k d c.args.title c.next.new.self in
    let step : c.loop-hold.hold-iterator ≡ c.in-Some.hold.now ∷ c.next.new.self = search rules in
    let below : length c.loop-hold.page.rows < 512 = search rules in
    ap (λ (p : PageValue). with_rest p c.loop-hold.others rows) c.put.ensures
    ∙ put_behind c.loop-hold.page c.loop-hold.others c.hold_row.result rows
    (λ some. let never : ⊥ = omega (arith, some, c.if-others-gt0.false) in never) below
    ∙ ap (λ (r : Row). with_rest c.loop-hold.page c.loop-hold.others (r ∷ rows)) c.hold_row.ensures
    ∙ ap (λ (hs : List Hold). with_rest c.loop-hold.page c.loop-hold.others (queue_rows k d c.args.title hs))
    (sym step)
    ∙ c.loop-hold.invariant

pub loop-hold-preserved-then-others-gt0 : goal.loop-hold-preserved-then-others-gt0
loop-hold-preserved-then-others-gt0 g c =
    let k = facts c.args.desk.now in
    let d = desk_of c.args.desk.now in
    let rows : List Row = queue_rows k d c.args.title c.next.new.self in
    let step : c.loop-hold.hold-iterator ≡ c.in-Some.hold.now ∷ c.next.new.self = search rules in
    passed_over c.loop-hold.page c.loop-hold.others (hold_row k d c.args.title c.in-Some.hold.now) rows
    c.if-others-gt0.true
    ∙ ap (λ (hs : List Hold). with_rest c.loop-hold.page c.loop-hold.others (queue_rows k d c.args.title hs))
    (sym step)
    ∙ c.loop-hold.invariant
