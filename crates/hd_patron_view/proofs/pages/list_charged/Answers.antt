use Rattle.std.proofs.Common.{rules, ◌≡◌, ◌∙◌, sym, ap, ℕ, List, [], map}
use Rattle.hd_rules.specs.declared.views.ListItem.TheVariants.{Copy as CopyItem}
use Rattle.hd_patron_view.specs.Cutting.{filled}
use Rattle.hd_patron_view.proofs.Paging.{filled_all}
use Rattle.hd_patron_view.proofs.pages.list_charged.Goals as goal

pub returns : goal.returns
returns g c =
    let none : c.loop-copy.copy-iterator ≡ [] = search rules in
    sym (filled_all g.row.N c.loop-copy.cut c.loop-copy.items.items)
    ∙ ap (λ (cs : List ℕ). filled g.row.N c.loop-copy.cut c.loop-copy.items.items (map CopyItem cs))
    (sym none)
    ∙ c.loop-copy.invariant
