use Rattle.std.proofs.Common.{◌∙◌, sym, subst}
use Rattle.hd_catalogue.specs.Contents.{Contents, facts_of}
use Rattle.hd_records.specs.Survivors.{survivors_of}
use Rattle.hd_journal.specs.Deciding.{AreKept}
use Rattle.hd_journal.specs.Dependents.{IsFirstDependent}
use Rattle.hd_journal.specs.SurvivorRun.{SurvivorRun}
use Rattle.hd_journal.specs.Working.{IsDependenceWork}
use Rattle.hd_journal.proofs.survivor_run.SurvivorRun.first_dependent.Goals as goal

-- the records are kept, whoever lends the catalogue
pub first_dependent-requires : goal.first_dependent-requires
first_dependent-requires g c =
    subst (λ (x : Contents). AreKept (facts_of x) c.self.inside.records)
    (sym (c.deref.ensures ∙ c.catalogue.ensures))
    (record {
      may_run = c.self.invariant.0.may_run;
      stored = c.self.invariant.1;
      listed = c.self.invariant.2;
    })

pub returns-clause-first : goal.returns-clause-first
returns-clause-first g c =
    subst (λ (x : SurvivorRun). IsFirstDependent (facts_of x.contents) x.survivors c.args.number
    c.first_dependent.result) c.self.view_is
    (subst (λ (x : Contents). IsFirstDependent (facts_of x) (survivors_of c.self.inside.records.records)
    c.args.number c.first_dependent.result) (c.deref.ensures ∙ c.catalogue.ensures)
    c.first_dependent.ensures.first)

pub returns-clause-work : goal.returns-clause-work
returns-clause-work g c =
    subst (λ (x : SurvivorRun). IsDependenceWork (facts_of x.contents) x.survivors c.args.number
    c.args.meter.now c.first_dependent.new.meter) c.self.view_is
    (subst (λ (x : Contents). IsDependenceWork (facts_of x) (survivors_of c.self.inside.records.records)
    c.args.number c.args.meter.now c.first_dependent.new.meter) (c.deref.ensures ∙ c.catalogue.ensures)
    c.first_dependent.ensures.work)
