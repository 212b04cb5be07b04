use Rattle.std.proofs.Common.{◌≡◌, ℕ, ◌<◌, length}
use Rattle.hd_rules.specs.declared.copies.CopyState.TheVariants.{Shelf}
use Rattle.hd_catalogue.specs.Contents.{facts_of}
use Rattle.hd_copies.specs.Standing.{state_in}
use Rattle.hd_copies.proofs.copies.at_home.Given as goal

abbrev pub invariant-loop-number : goal.invariant-loop-number
invariant-loop-number g l = record {
  copies : length l.states.items ≡ l.number;
  home : (c : ℕ) → c < l.number → state_in l.states.items c ≡ Shelf ((facts_of l.catalogue).home c);
}
