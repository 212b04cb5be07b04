use Rattle.std.proofs.Common.{subst}
use Rattle.hd_desk.specs.DeskValue.{DeskValue}
use Rattle.hd_desk.specs.Desks.{IsKeptDesk, desk_of, facts}
use Rattle.hd_desk.proofs.desk.Desk.hold.Goals as goal

pub returns-clause-kept : goal.returns-clause-kept
returns-clause-kept g c =
    subst (λ (d : DeskValue). IsKeptDesk (facts d) (desk_of d)) c.self.view_is c.self.invariant.1
