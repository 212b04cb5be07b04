use Rattle.std.proofs.Common.{◌≡◌, ◌+◌, ◌-◌, ◌++◌, ◌≤◌, ℕ, List, Option, arith, length, length-append}
use Rattle.std.specs.Io.KnownBytes.{Consumes}
use Rattle.std.proofs.KnownBytes.{Consumes-trans}
use Rattle.hd_door.specs.Lingering.{IsDroppedCount}
use Rattle.hd_door.proofs.lingering.linger.Goals as goal

-- so many bytes were taken
abbrev Taken : Option (List ℕ) → Option (List ℕ) → ℕ → Type 0
Taken first after count = (bytes : List ℕ) × Consumes first after bytes × (length bytes ≡ count)

-- those of one more read are behind those before
one_more : (first before after : Option (List ℕ)) (had most count : ℕ)
    → Taken first before had → IsDroppedCount most before after count → Taken first after (had + count)
one_more first before after had most count (bytes, taken, counted) more = (
  bytes ++ more.bytes,
  Consumes-trans first before after bytes more.bytes taken more.taken,
  omega (arith, length-append bytes more.bytes, more.counted),
)

pub loop-dropped-preserved : goal.loop-dropped-preserved
loop-dropped-preserved g c =
    let dropped = c.in-Some.ensures.some in
    let within : c.in-Some.count ≤ 1048576 - c.loop-dropped.dropped = dropped.within in record {
      taken = one_more _ _ _ _ _ _ c.loop-dropped.invariant.taken dropped;
      most = omega arith;
    }
