use Rattle.std.proofs.Common.{◌≡◌, ◌<◌, ◌%◌, ℕ, true}
use Rattle.hd_chunks.specs.Marks.{may_have}
use Rattle.hd_chunks.proofs.marks.Marks.note_all.Given as goal

-- what was noted is, and what others have of the marks so far
abbrev pub invariant-loop-mark : goal.invariant-loop-mark
invariant-loop-mark l =
    ((other : ℕ) → may_have l.fn.self other ≡ true → may_have l.self-inside.noted other ≡ true)
    × ((other : ℕ) → other % 64 < l.mark → may_have l.others-inside.noted other ≡ true
    → may_have l.self-inside.noted other ≡ true)
