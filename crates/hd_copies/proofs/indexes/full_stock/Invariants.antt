use Rattle.std.proofs.Common.{◌≡◌, ℕ, ◌<◌, ◌==◌, ◌&&◌, length}
use Rattle.hd_rules.specs.Choose.{count_below}
use Rattle.hd_catalogue.specs.Contents.{facts_of}
use Rattle.hd_open_shelf.specs.Counts.{HasEntry, of_home, of_title}
use Rattle.hd_copies.proofs.indexes.full_stock.Given as goal

abbrev pub invariant-loop-number : goal.invariant-loop-number
invariant-loop-number g l = record {
  titles : length l.stock.titles ≡ (facts_of l.catalogue).titles;
  title : (t : ℕ) → of_title l.stock t ≡ count_below (λ n. (facts_of l.catalogue).title_of n == t) l.number;
  home : (t b : ℕ) → of_home l.stock t b ≡ count_below
      (λ n. ((facts_of l.catalogue).title_of n == t) && ((facts_of l.catalogue).home n == b)) l.number;
  entry : (c : ℕ) → c < l.number
      → HasEntry l.stock ((facts_of l.catalogue).title_of c) ((facts_of l.catalogue).home c);
}
