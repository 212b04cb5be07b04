use Rattle.std.proofs.Common.{◌≡◌, ◌+◌, ◌∙◌, ◌++◌, List, ap, append_assoc, arith, suc}
use Rattle.std.specs.List.{flat_map}
use Rattle.hd_rules.specs.declared.holds.Hold.{Hold}
use Rattle.hd_desk.specs.Asking.{queues_of}
use Rattle.hd_carry.specs.declared.obstacle.Obstacle.{Obstacle}
use Rattle.hd_carry.specs.Numbers.{renumbering}
use Rattle.hd_carry.specs.Obstacles.{hold_obstacles, titles_obstacles}
use Rattle.hd_carry.proofs.obstacles.add_at_titles.Goals as goal

pub loop-number-preserved : goal.loop-number-preserved
loop-number-preserved g c =
    let r = renumbering c.args.numbers.now in
    let queues = queues_of c.args.desk.now in
    let number = c.loop-number.number in
    let before = c.args.obstacles.now.items ++ titles_obstacles r queues number in
    let next : suc number ≡ number + 1 = omega arith in
    let holds : c.holds.result ≡ queues number = c.holds.ensures ∙ c.queue.ensures.value
    ∙ ap queues c.title_at-title.ensures in
    c.in_ok-add_at_queue.ensures
    ∙ ap (λ (found : List Obstacle). found ++ flat_map (hold_obstacles r c.title_at-title.result)
    c.holds.result) c.loop-number.invariant
    ∙ ap (λ t. before ++ flat_map (hold_obstacles r t) c.holds.result) c.title_at-title.ensures
    ∙ ap (λ (hs : List Hold). before ++ flat_map (hold_obstacles r number) hs) holds
    ∙ append_assoc c.args.obstacles.now.items (titles_obstacles r queues number)
    (flat_map (hold_obstacles r number) (queues number))
    ∙ ap (λ n. c.args.obstacles.now.items ++ titles_obstacles r queues n) next
