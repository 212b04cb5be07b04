use Rattle.std.proofs.Common.{rules, ◌∙◌, ap, ◌<◌, length, List}
use Rattle.hd_rules.specs.declared.views.ListItem.{ListItem}
use Rattle.hd_patron_view.specs.Cutting.{topped_up}
use Rattle.hd_patron_view.proofs.Paging.{put_behind}
use Rattle.hd_patron_view.proofs.cut.put.Goals as goal

pub returns-then-not-is_full : goal.returns-then-not-is_full
returns-then-not-is_full g c = λ rest.
    let below : length c.args.items.now.items < g.row.N = search rules in
    ap (λ (items : List ListItem). topped_up g.row.N items rest) c.push.ensures.items
    ∙ put_behind g.row.N c.args.items.now.items c.args.item rest below
