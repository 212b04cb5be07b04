use Rattle.std.proofs.Common.{rules, ◌≡◌, ◌∙◌, sym, ap, ℕ, ◌<◌, List, [], ◌∷◌, filter_map}
use Rattle.std.proofs.lemmas.List.Elements.{All-rest}
use Rattle.hd_desk.specs.Desks.{desk_of, facts}
use Rattle.hd_patron_view.specs.Cutting.{filled}
use Rattle.hd_patron_view.specs.Held.{overdue_copy}
use Rattle.hd_patron_view.proofs.Paging.{filled_all}
use Rattle.hd_patron_view.proofs.pages.list_overdue.Goals as goal

pub loop-copy-preserved-in-Some-overdue_copy : goal.loop-copy-preserved-in-Some-overdue_copy
loop-copy-preserved-in-Some-overdue_copy g c =
    let step : c.loop-copy.copy-iterator ≡ c.in-Some.copy ∷ c.next.new.self = search rules in (
      search rules,
      All-rest (λ (copy : ℕ). copy < (facts c.args.desk.now).copies) c.in-Some.copy c.next.new.self
          c.loop-copy.copy-iterator step c.loop-copy.invariant.1,
    )

pub loop-copy-preserved : goal.loop-copy-preserved
loop-copy-preserved g c =
    let step : c.loop-copy.copy-iterator ≡ c.in-Some.copy ∷ c.next.new.self = search rules in (
      search rules,
      All-rest (λ (copy : ℕ). copy < (facts c.args.desk.now).copies) c.in-Some.copy c.next.new.self
          c.loop-copy.copy-iterator step c.loop-copy.invariant.1,
    )

pub returns : goal.returns
returns g c =
    let none : c.loop-copy.copy-iterator ≡ [] = search rules in
    sym (filled_all g.row.N c.loop-copy.cut c.loop-copy.items.items)
    ∙ ap (λ (cs : List ℕ). filled g.row.N c.loop-copy.cut c.loop-copy.items.items
    (filter_map (overdue_copy (desk_of c.args.desk.now) c.args.day) cs)) (sym none)
    ∙ c.loop-copy.invariant.0
