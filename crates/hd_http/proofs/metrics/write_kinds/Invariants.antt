use Rattle.std.proofs.Common.{◌≡◌, ◌++◌, take, map}
use Rattle.std.specs.List.{flat_map}
use Rattle.hd_http.specs.Metrics.{kind_text}
use Rattle.hd_http.specs.Metered.{kind_of}
use Rattle.hd_http.proofs.metrics.write_kinds.Given as goal

-- those so far are written
abbrev pub invariant-loop-kind : goal.invariant-loop-kind
invariant-loop-kind l =
    l.out.items ≡ l.initial.out.items ++ flat_map kind_text (map kind_of (take l.kind-index l.kinds))
