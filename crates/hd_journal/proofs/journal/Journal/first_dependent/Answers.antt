use Rattle.std.proofs.Common.{ap, sym, subst, List}
use Rattle.hd_rules.specs.declared.commands.Survivor.{Survivor}
use Rattle.hd_rules.specs.Turns.{State}
use Rattle.hd_catalogue.specs.Contents.{facts_of}
use Rattle.hd_journal.specs.Books.{Book, facts, state}
use Rattle.hd_journal.specs.Dependents.{IsFirstDependent}
use Rattle.hd_journal.specs.Working.{IsDependenceWork}
use Rattle.hd_journal.proofs.journal.Journal.first_dependent.Goals as goal

pub returns-clause-first : goal.returns-clause-first
returns-clause-first g c =
    let r = c.self.inside.run in
    subst (λ (x : Book). IsFirstDependent (facts x) (state x).survivors c.args.number
    c.first_dependent.result) c.self.view_is
    (subst (λ (ss : List Survivor). IsFirstDependent (facts_of r.contents) ss c.args.number
    c.first_dependent.result)
    (sym (ap (λ (s : State). s.survivors) c.self.invariant.state)) c.first_dependent.ensures.first)

pub returns-clause-work : goal.returns-clause-work
returns-clause-work g c =
    let r = c.self.inside.run in
    subst (λ (x : Book). IsDependenceWork (facts x) (state x).survivors c.args.number
    c.args.meter.now c.first_dependent.new.meter) c.self.view_is
    (subst (λ (ss : List Survivor). IsDependenceWork (facts_of r.contents) ss c.args.number
    c.args.meter.now c.first_dependent.new.meter)
    (sym (ap (λ (s : State). s.survivors) c.self.invariant.state)) c.first_dependent.ensures.work)
