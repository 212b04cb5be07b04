-- Marks of items, by which chunks are passed over.
use Rattle.std.specs.Prelude.{◌≡◌, ◌%◌, ℕ, Bool, true, false, All, List, get_or}
use Rattle.hd_chunks.specs.declared.marks.TheConstants.{MARKS}

-- whether a mark was noted: of marks that are as far apart as there are marks, whether one was
abbrev pub may_have : List Bool → ℕ → Bool
may_have marks mark = get_or marks (mark % MARKS) false

-- the mark of each item was noted
abbrev pub AreNoted : {X : Type 0} → (X → ℕ) → List Bool → List X → Type 0
AreNoted mark marks items = All (λ x. may_have marks (mark x) ≡ true) items
