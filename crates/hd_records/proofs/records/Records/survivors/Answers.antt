use Rattle.std.proofs.Common.{arith, subst}
use Rattle.hd_rules.specs.Run.{Rising}
use Rattle.hd_records.specs.RecordsValue.{RecordsValue}
use Rattle.hd_records.specs.Survivors.{survivors_of}
use Rattle.hd_records.proofs.Numbered.{slots_rise}
use Rattle.hd_records.proofs.records.Records.survivors.Goals as goal

pub returns-clause-rising : goal.returns-clause-rising
returns-clause-rising g c =
    subst (λ (x : RecordsValue). Rising 1 (survivors_of x.records)) c.self.view_is
    (slots_rise 0 1 c.self.inside.slots.items (omega arith) c.self.invariant.0)
