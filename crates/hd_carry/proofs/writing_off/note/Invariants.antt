use Rattle.std.proofs.Common.{◌≡◌, ℕ, ◌<◌, ◌||◌, length, take}
use Rattle.hd_carry.specs.WriteOffs.{is_listed, is_noted}
use Rattle.hd_carry.proofs.writing_off.note.Given as goal

abbrev pub invariant-loop-copy : goal.invariant-loop-copy
invariant-loop-copy l = record {
  count : length l.notes ≡ length l.fn.notes;
  each : (c : ℕ) → c < length l.fn.notes
      → is_noted l.notes c ≡ (is_noted l.fn.notes c || is_listed (take l.copy-index l.listed) c);
}
