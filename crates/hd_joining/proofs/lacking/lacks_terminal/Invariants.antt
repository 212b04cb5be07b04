use Rattle.std.proofs.Common.{◌≡◌, ℕ, ◌<◌, Some}
use Rattle.hd_catalogue.specs.Names.{name_at}
use Rattle.hd_joining.proofs.lacking.lacks_terminal.Given as goal

-- none of the terminals so far has the name
abbrev pub invariant-loop-number : goal.invariant-loop-number
invariant-loop-number g l = (n : ℕ) → n < l.number → ¬ (name_at l.old.terminals n ≡ Some l.name)
