use Rattle.std.proofs.Common.{◌∙◌, ap}
use Rattle.hd_desk.specs.DeskValue.{DeskValue}
use Rattle.hd_desk.proofs.Planned.{item-so}
use Rattle.hd_desk.proofs.desk.Desk.item.Goals as goal

pub returns : goal.returns
returns g c =
    item-so c.args.self.now c.self.inside.holds c.args.copy c.title_of-title.result c.copy-state.result
    c.count-holds.result
    (ap (λ (d : DeskValue). d.holds) c.self.view_is)
    (c.self.invariant.0 ∙ ap (λ (d : DeskValue). d.copies.contents) c.self.view_is)
    c.copy-state.ensures.state c.title_of-title.ensures.title c.count-holds.ensures
