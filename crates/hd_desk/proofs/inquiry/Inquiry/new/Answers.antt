use Rattle.std.proofs.Common.{subst}
use Rattle.hd_desk.specs.DeskValue.{DeskValue}
use Rattle.hd_desk.specs.Desks.{IsKeptDesk, desk_of, facts}
use Rattle.hd_desk.proofs.inquiry.Inquiry.new.Goals as goal

pub returns-clause-kept : goal.returns-clause-kept
returns-clause-kept g c =
    subst (λ (d : DeskValue). IsKeptDesk (facts d) (desk_of d)) c.desk.view_is c.desk.invariant.1
