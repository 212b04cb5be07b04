use Rattle.std.proofs.Common.{sym, subst}
use Rattle.hd_catalogue.specs.Contents.{facts_of}
use Rattle.hd_journal.specs.SurvivorRun.{SurvivorRun}
use Rattle.hd_journal.specs.Stored.{IsRecordOf}
use Rattle.hd_records.specs.Survivors.{record_of}
use Rattle.hd_journal.proofs.Recorded.{record_is}
use Rattle.hd_journal.proofs.survivor_run.SurvivorRun.record.Goals as goal

pub returns : goal.returns
returns g c =
    let k = facts_of c.self.inside.desk.copies.contents in
    let rs = c.self.inside.records.records in
    subst (IsRecordOf (facts_of c.args.self.now.contents) c.args.self.now.survivors c.args.number)
    (sym c.get.ensures.record)
    (subst (λ (x : SurvivorRun). IsRecordOf (facts_of x.contents) x.survivors c.args.number
    (record_of c.args.number rs)) c.self.view_is
    (record_is c.laws.ensures k rs c.args.number c.self.invariant.1 c.self.invariant.0.may_run.rising))
