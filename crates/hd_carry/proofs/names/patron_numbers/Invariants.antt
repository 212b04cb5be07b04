use Rattle.std.proofs.Common.{ℕ, ◌<◌}
use Rattle.hd_carry.specs.ByNames.{by_names}
use Rattle.hd_carry.specs.Numbers.{IsFoundAgain, IsTable}
use Rattle.hd_carry.proofs.names.patron_numbers.Given as goal

abbrev pub invariant-loop-number : goal.invariant-loop-number
invariant-loop-number g l = record {
  table : IsTable (by_names l.old l.new).patron l.number l.numbers.items;
  found : (n : ℕ) → n < l.number → IsFoundAgain l.old.patrons n;
}
