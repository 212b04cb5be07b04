use Rattle.std.proofs.Common.{◌≡◌, ℕ, ◌<◌, Some}
use Rattle.hd_catalogue.specs.Names.{number_of}
use Rattle.hd_turn_row.proofs.terminals.terminal_named.Given as goal

-- no terminal before this one has the name
abbrev pub invariant-loop-number : goal.invariant-loop-number
invariant-loop-number g l = (n : ℕ) → n < l.number → number_of l.catalogue.terminals l.name ≡ Some n → ⊥
