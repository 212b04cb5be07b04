use Rattle.std.proofs.Common.{◌∙◌, List, ℕ, Bor, map, subst, sym}
use Rattle.std.specs.List.{AllByRecursion}
use Rattle.hd_index.specs.Union.{IsNotBelow}
use Rattle.hd_index.proofs.Ahead.{least_low, none_low}
use Rattle.hd_index.proofs.union.lower_bound.Goals as goal

pub returns-in-Some : goal.returns-in-Some
returns-in-Some c =
    let lists : List (List ℕ) = map (λ (list : Bor (List ℕ)). list.now) c.args.lists.now in
    subst (λ (n : ℕ). AllByRecursion (IsNotBelow n) lists) (sym c.from.ensures)
    (least_low c.in-Some.first lists (sym c.least_first.ensures ∙ c.in-Some.is))

pub returns-in-None : goal.returns-in-None
returns-in-None c =
    let lists : List (List ℕ) = map (λ (list : Bor (List ℕ)). list.now) c.args.lists.now in
    none_low 18446744073709551615 lists (sym c.least_first.ensures ∙ c.in-None.is)
