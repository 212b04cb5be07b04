use Rattle.std.proofs.Common.{ℕ, ◌≡◌, refl, List, ◌∷◌, ◌++◌, Option, Some, None}
use Rattle.std.specs.Prelude.{MatchOption}
use Rattle.hd_rules.specs.Words.{Survivor}
use Rattle.hd_rules.specs.Facts.{Facts, first_number}
use Rattle.hd_rules.specs.Run.{Rising}
use Rattle.hd_rules.specs.Depends.{NoneDepends, IsLeastDependent}
use Rattle.hd_rules.specs.Searches.{first_dependent}
use Rattle.hd_rules.proofs.Walk.{none_depends, least_depends, walk_is}
use Rattle.hd_rules.proofs.Dependence.{depends_is}
use Rattle.hd_rules.proofs.laws.the_first_dependent_is_the_least.Goals as goal

by_result : (k : Facts) (older : List Survivor) (c : Survivor) (newer : List Survivor)
    → Rising (first_number k) (older ++ c ∷ newer) → (o : Option ℕ)
    → first_dependent k (older ++ c ∷ newer) c newer ≡ o
    → MatchOption o (NoneDepends k (older ++ c ∷ newer) c) (IsLeastDependent k (older ++ c ∷ newer) c)
by_result k older c newer rising None is = none_depends k (first_number k) older c newer rising is
by_result k older c newer rising (Some m) is = least_depends k (first_number k) older c newer rising m is

pub returns : goal.returns
returns c = record {
  least = λ k older x newer rising. by_result k older x newer rising
      (first_dependent k (older ++ x ∷ newer) x newer) refl;
  walk = λ k older x newer rising. walk_is k (first_number k) older x newer rising;
  decided = depends_is;
}
