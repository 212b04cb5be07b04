use Rattle.std.proofs.Common.{◌≡◌}
use Rattle.hd_periods.specs.Steps.{join_steps}
use Rattle.hd_periods.proofs.Stops.{during}
use Rattle.hd_periods.proofs.Joining.{lines_or_all}
use Rattle.hd_periods.proofs.laws.a_stop_leaves_the_lines_or_all.Goals as goal

pub returns-clause-stop : goal.returns-clause-stop
returns-clause-stop c bytes start left number count h =
    let has =
    lines_or_all bytes start number left
    (during bytes count (join_steps number) start (λ folder. folder ≡ start) left h) in
    (has.others, has.lines)
