use Rattle.std.proofs.Common.{◌≡◌, ◌∙◌, Some, ap}
use Rattle.hd_journal.specs.declared.fault.TurnFault.{TurnFault}
use Rattle.hd_journal.specs.declared.fault.TurnFault.TheVariants as fault
use Rattle.hd_session.specs.declared.ended.Ended.{Ended}
use Rattle.hd_session.specs.declared.ended.Ended.TheVariants as ended
use Rattle.hd_replay.proofs.printing.print_end.Goals as goal

pub unreachable-requires : goal.unreachable-requires
unreachable-requires g c =
    let arm = c.in-Turn-Estranged in
    let is : arm.field-0 ≡ fault.Estranged arm.field-0-0 = rw arm.is at arm.field-0-is in
    c.requires (fault.Estranged arm.field-0-0) (λ same. cc)
    (ap (λ (why : Ended). Some why) (arm.is ∙ ap (λ (f : TurnFault). ended.Turn f) is))

pub unreachable-requires-in-Turn-Unwritten : goal.unreachable-requires-in-Turn-Unwritten
unreachable-requires-in-Turn-Unwritten g c =
    let arm = c.in-Turn-Unwritten in
    let is : arm.field-0 ≡ fault.Unwritten arm.field-0-0 = rw arm.is at arm.field-0-is in
    c.requires (fault.Unwritten arm.field-0-0) (λ same. cc)
    (ap (λ (why : Ended). Some why) (arm.is ∙ ap (λ (f : TurnFault). ended.Turn f) is))
