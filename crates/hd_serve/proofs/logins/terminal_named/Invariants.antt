use Rattle.std.proofs.Common.{◌≡◌, ◌<◌, ◌-◌, ℕ, Some}
use Rattle.hd_catalogue.specs.Contents.{facts_of, terminal_name}
use Rattle.hd_serve.proofs.logins.terminal_named.Given as goal

abbrev pub invariant-loop-terminal : goal.invariant-loop-terminal
invariant-loop-terminal l = (t : ℕ) → t < l.number → ¬ (terminal_name l.catalogue t ≡ Some l.name)

abbrev pub decreases-loop-terminal : goal.decreases-loop-terminal
decreases-loop-terminal l = (facts_of l.catalogue).terminals - l.number
