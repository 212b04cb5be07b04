-- Gauges and kinds of turns, from Rust's values.
use Rattle.std.specs.Prelude.{ℕ, List, Option}
use Rattle.hd_http.specs.declared.metrics.Gauge.{Gauge}
use Rattle.hd_http.specs.declared.metrics.Kind.{Kind}
use Rattle.hd_http.specs.declared.state.Tally.{Tally}

abbrev pub gauge_of : Gauge → List ℕ × List ℕ × Option ℕ
gauge_of g = (g.name.now, g.help.now, g.value)

abbrev pub kind_of : Kind → List ℕ × Tally
kind_of k = (k.name.now, k.tally)
