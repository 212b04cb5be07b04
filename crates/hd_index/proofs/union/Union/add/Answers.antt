use Rattle.std.proofs.Common.{◌<◌, ◌≤◌, List, ℕ, Bor, ap, arith, length, take}
use Rattle.std.proofs.lemmas.List.{length-map, length-take-le}
use Rattle.hd_index.proofs.Ahead.{one_more}
use Rattle.hd_index.proofs.union.Union.add.Goals as goal

pub invariant_of-self : goal.invariant_of-self
invariant_of-self c =
    let now : Bor (List ℕ) → List ℕ = λ list. list.now in
    let count : ℕ = c.self.inside.count in
    let lists : List (Bor (List ℕ)) = c.self.inside.lists in
    let within : count ≤ length lists = omega (arith, c.self.invariant.few, c.self.told) in
    let few : count < 12 =
    omega (
      arith,
      c.requires.few,
      ap (λ (xs : List (List ℕ)). length xs) c.self.view_is,
      length-map (take count lists) now,
      length-take-le count lists within,
    ) in
    one_more now count c.self.inside.others c.args.list lists c.self.invariant few
    (omega (arith, few, c.self.told)) c.requires.rising
