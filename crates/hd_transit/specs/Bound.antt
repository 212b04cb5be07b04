-- The copies on their way to a branch.
use Rattle.std.specs.Prelude.{ℕ, ◌-◌, Bool, false, ◌==◌, Option, None, Some, List}
use Rattle.std.specs.List.{filter, range_with_len}
use Rattle.std.specs.Ordering.{nat_cmp}
use Rattle.std.specs.FinMap as map
use Rattle.hd_rules.specs.declared.copies.Transit.{Transit}

-- on the way to this branch
abbrev pub is_bound_for : ℕ → Option Transit → Bool
is_bound_for to None = false
is_bound_for to (Some transit) = transit.to == to

-- those of the copies from the first on, below a number, that are bound for the branch
abbrev pub bound_from : map.FinMap nat_cmp Transit → ℕ → ℕ → ℕ → List ℕ
bound_from transits copies to first =
    filter (λ copy. is_bound_for to (map.get transits copy)) (range_with_len first (copies - first))
