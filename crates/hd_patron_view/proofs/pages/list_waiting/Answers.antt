use Rattle.std.proofs.Common.{arith, ◌∙◌, sym, ap, List, filter_map}
use Rattle.hd_holds.specs.declared.held_title.HeldTitle.{HeldTitle}
use Rattle.hd_desk.specs.Desks.{desk_of}
use Rattle.hd_patron_view.specs.Cutting.{filled}
use Rattle.hd_patron_view.specs.Held.{waiting_title}
use Rattle.hd_patron_view.proofs.Paging.{all_dropped, filled_all}
use Rattle.hd_patron_view.proofs.pages.list_waiting.Goals as goal

pub returns : goal.returns
returns g c =
    sym (filled_all g.row.N c.loop-title.cut c.loop-title.items.items)
    ∙ ap (λ (held : List HeldTitle). filled g.row.N c.loop-title.cut c.loop-title.items.items
    (filter_map (waiting_title (desk_of c.args.desk.now) c.args.patron) held))
    (sym (all_dropped c.loop-title.title-index c.args.held.now (omega arith)))
    ∙ c.loop-title.invariant
