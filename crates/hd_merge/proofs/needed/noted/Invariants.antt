use Rattle.std.proofs.Common.{◌≡◌, ℕ, ◌<◌, length, take}
use Rattle.hd_catalogue.specs.Contents.{facts_of}
use Rattle.hd_carry.specs.WriteOffs.{is_noted}
use Rattle.hd_merge.specs.Kinds.{count_of}
use Rattle.hd_merge.specs.Needed.{is_needed}
use Rattle.hd_merge.proofs.needed.noted.Given as goal

-- so far it is noted what the obstacles that were looked at need
abbrev pub invariant-loop-obstacle : goal.invariant-loop-obstacle
invariant-loop-obstacle g l = record {
  count : length l.notes.items ≡ count_of (facts_of l.old) l.kind;
  each : (n : ℕ) → n < length l.notes.items
      → is_noted l.notes.items n ≡ is_needed (facts_of l.old) l.kind (take l.obstacle-index l.obstacles) n;
}
