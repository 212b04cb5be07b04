use Rattle.std.proofs.Common.{sym, subst}
use Rattle.hd_rules.specs.Desk.{Desk}
use Rattle.hd_rules.specs.Growth.{IsGrownDesk}
use Rattle.hd_catalogue.specs.Contents.{Contents, facts_of}
use Rattle.hd_desk.specs.Desks.{contents, desk_of}
use Rattle.hd_records.specs.Survivors.{survivors_of}
use Rattle.hd_journal.specs.SurvivorRun.{SurvivorRun}
use Rattle.hd_journal.specs.Growing.{IsGrownTo}
use Rattle.hd_journal.proofs.survivor_run.SurvivorRun.grow.Goals as goal

pub invariant_of-self : goal.invariant_of-self
invariant_of-self g c =
    let laws = c.journals_grow.ensures in
    let k : Contents = contents c.self.inside.desk in
    let j : Contents = contents c.args.desk in
    let old : SurvivorRun = record {
      contents = k;
      survivors = survivors_of c.self.inside.records.records;
      last = c.self.inside.records.last;
    } in
    let to : IsGrownTo old j (desk_of c.args.desk) =
    subst (λ (x : SurvivorRun). IsGrownTo x j (desk_of c.args.desk)) (sym c.self.view_is) c.requires in (
      laws.leads old j (desk_of c.self.inside.desk) (desk_of c.args.desk) to.grows to.low to.high
          c.self.invariant.0
          (subst (λ (x : Desk). IsGrownDesk (facts_of k) (facts_of j) x (desk_of c.args.desk))
          (sym c.self.invariant.0.desk) to.desk),
      laws.stored (facts_of k) (facts_of j) c.self.inside.records.records to.grows to.low
          c.self.invariant.0.may_run.opens.known c.self.invariant.0.may_run.known c.self.invariant.1,
      laws.listed (facts_of k) (facts_of j) c.self.inside.records to.grows
          c.self.invariant.0.may_run.known c.self.invariant.2,
    )
