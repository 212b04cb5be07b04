use Rattle.std.proofs.Common.{◌≡◌, ◌++◌, take, map}
use Rattle.std.specs.List.{flat_map}
use Rattle.hd_http.specs.Metrics.{number_text}
use Rattle.hd_http.specs.Metered.{gauge_of}
use Rattle.hd_http.proofs.metrics.write_gauges.Given as goal

-- those so far are written
abbrev pub invariant-loop-gauge : goal.invariant-loop-gauge
invariant-loop-gauge l =
    l.out.items ≡ l.initial.out.items ++ flat_map number_text (map gauge_of (take l.gauge-index l.gauges))
