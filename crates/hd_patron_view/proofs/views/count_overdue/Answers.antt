use Rattle.std.proofs.Common.{arith, rules, ◌≡◌, ◌∙◌, ap, ℕ, ◌+◌, ◌<◌, true, false, is_some, List, ◌∷◌}
use Rattle.std.proofs.Common.{length}
use Rattle.std.proofs.Common.{filter_map}
use Rattle.std.proofs.lemmas.List.Elements.{All-rest}
use Rattle.hd_desk.specs.Desks.{desk_of, facts}
use Rattle.hd_patron_view.specs.Held.{overdue_copy}
use Rattle.hd_patron_view.proofs.Viewing.{counted_none, counted_one}
use Rattle.hd_patron_view.proofs.views.count_overdue.Goals as goal

pub loop-copy-preserved-then-is_some : goal.loop-copy-preserved-then-is_some
loop-copy-preserved-then-is_some g c =
    let step : c.loop-copy.copy-iterator ≡ c.in-Some.copy ∷ c.next.new.self = search rules in
    let longer : length c.loop-copy.copy-iterator ≡ length c.next.new.self + 1 =
    ap (λ (cs : List ℕ). length cs) step
    ∙ (let one : length (c.in-Some.copy ∷ c.next.new.self) ≡ length c.next.new.self + 1 = omega arith in
    one) in
    let found : is_some (overdue_copy (desk_of c.args.desk.now) c.args.day c.in-Some.copy)
    ≡ true = search rules in
    let more : length (filter_map (overdue_copy (desk_of c.args.desk.now) c.args.day)
    c.loop-copy.copy-iterator)
    ≡ length (filter_map (overdue_copy (desk_of c.args.desk.now) c.args.day) c.next.new.self) + 1 =
    ap (λ (cs : List ℕ). length (filter_map (overdue_copy (desk_of c.args.desk.now) c.args.day) cs)) step
    ∙ counted_one
    (overdue_copy (desk_of c.args.desk.now) c.args.day) c.in-Some.copy c.next.new.self found in (
      omega (arith, c.loop-copy.invariant.0),
      All-rest (λ (copy : ℕ). copy < (facts c.args.desk.now).copies) c.in-Some.copy c.next.new.self
          c.loop-copy.copy-iterator step c.loop-copy.invariant.1,
      omega (arith, c.loop-copy.invariant.2),
    )

pub loop-copy-preserved : goal.loop-copy-preserved
loop-copy-preserved g c =
    let step : c.loop-copy.copy-iterator ≡ c.in-Some.copy ∷ c.next.new.self = search rules in
    let longer : length c.loop-copy.copy-iterator ≡ length c.next.new.self + 1 =
    ap (λ (cs : List ℕ). length cs) step
    ∙ (let one : length (c.in-Some.copy ∷ c.next.new.self) ≡ length c.next.new.self + 1 = omega arith in
    one) in
    let found : is_some (overdue_copy (desk_of c.args.desk.now) c.args.day c.in-Some.copy)
    ≡ false = search rules in
    let more : length (filter_map (overdue_copy (desk_of c.args.desk.now) c.args.day)
    c.loop-copy.copy-iterator)
    ≡ length (filter_map (overdue_copy (desk_of c.args.desk.now) c.args.day) c.next.new.self) =
    ap (λ (cs : List ℕ). length (filter_map (overdue_copy (desk_of c.args.desk.now) c.args.day) cs)) step
    ∙ counted_none
    (overdue_copy (desk_of c.args.desk.now) c.args.day) c.in-Some.copy c.next.new.self found in (
      omega (arith, c.loop-copy.invariant.0),
      All-rest (λ (copy : ℕ). copy < (facts c.args.desk.now).copies) c.in-Some.copy c.next.new.self
          c.loop-copy.copy-iterator step c.loop-copy.invariant.1,
      omega (arith, c.loop-copy.invariant.2),
    )
