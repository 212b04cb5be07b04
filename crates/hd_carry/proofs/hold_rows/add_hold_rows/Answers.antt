use Rattle.std.proofs.Common.{◌≡◌, ◌+◌, ◌∙◌, ◌++◌, List, ap, append_assoc, arith, suc}
use Rattle.std.specs.List.{filter_map}
use Rattle.hd_rules.specs.declared.holds.Hold.{Hold}
use Rattle.hd_rules.specs.declared.rows.OpeningRow.{OpeningRow}
use Rattle.hd_desk.specs.Asking.{queues_of}
use Rattle.hd_carry.specs.CarriedRows.{hold_row, hold_rows}
use Rattle.hd_carry.specs.Numbers.{renumbering}
use Rattle.hd_carry.proofs.hold_rows.add_hold_rows.Goals as goal

pub loop-number-preserved : goal.loop-number-preserved
loop-number-preserved g c =
    let r = renumbering c.args.numbers.now in
    let queues = queues_of c.args.desk.now in
    let number = c.loop-number.number in
    let before = c.args.rows.now.items ++ hold_rows r queues number in
    let next : suc number ≡ number + 1 = omega arith in
    let holds : c.holds.result ≡ queues number = c.holds.ensures ∙ c.queue.ensures.value
    ∙ ap queues c.title_at-title.ensures in
    c.in_ok-add_queue_rows.ensures
    ∙ ap (λ (rows : List OpeningRow). rows ++ filter_map (hold_row r c.title_at-title.result) c.holds.result)
    c.loop-number.invariant
    ∙ ap (λ t. before ++ filter_map (hold_row r t) c.holds.result) c.title_at-title.ensures
    ∙ ap (λ (hs : List Hold). before ++ filter_map (hold_row r number) hs) holds
    ∙ append_assoc c.args.rows.now.items (hold_rows r queues number)
    (filter_map (hold_row r number) (queues number))
    ∙ ap (λ n. c.args.rows.now.items ++ hold_rows r queues n) next
