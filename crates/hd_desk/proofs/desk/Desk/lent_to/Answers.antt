use Rattle.std.proofs.Common.{◌∙◌, ap}
use Rattle.hd_rules.specs.Views.{loans_of}
use Rattle.hd_desk.specs.DeskValue.{DeskValue}
use Rattle.hd_desk.specs.Desks.{desk_of, facts}
use Rattle.hd_desk.proofs.desk.Desk.lent_to.Goals as goal

pub returns : goal.returns
unfolding desk_of
returns g c =
    c.lent_to.ensures.copies
    ∙ ap (λ (d : DeskValue). loans_of (facts d) (desk_of d) c.args.patron) c.self.view_is
