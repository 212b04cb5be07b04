use Rattle.std.proofs.Common.{ap, is_some, refl, sym}
use Rattle.hd_catalogue.specs.Contents.{facts_of}
use Rattle.hd_journal.proofs.Depending.{dependent_of, no_dependent_of}
use Rattle.hd_journal.proofs.Searching.{work_not_there, work_there}
use Rattle.hd_journal.proofs.Stored.{stored_of}
use Rattle.hd_journal.proofs.deciding.first_dependent.Goals as goal

pub first_clash-requires-clause-there : goal.first_clash-requires-clause-there
first_clash-requires-clause-there g c = ap is_some (sym c.in-Some.ensures.record)

pub first_clash-requires-clause-of : goal.first_clash-requires-clause-of
first_clash-requires-clause-of g c =
    stored_of c.laws.ensures _ _ c.command_limit.ensures.facts c.requires.may_run c.requires.stored
    c.requires.listed

pub returns-in-Some-clause-first : goal.returns-in-Some-clause-first
returns-in-Some-clause-first g c =
    dependent_of c.laws.ensures (facts_of c.args.catalogue.now) c.args.records.now c.args.number _
    c.first_clash.result c.command_limit.ensures.facts c.requires (sym c.in-Some.ensures.record)
    c.first_clash.ensures.clash

pub returns-in-Some-clause-work : goal.returns-in-Some-clause-work
returns-in-Some-clause-work g c =
    work_there c.laws.ensures (facts_of c.args.catalogue.now) c.args.records.now c.args.number _ _ _
    c.requires (sym c.in-Some.ensures.record) c.first_clash.ensures.work

pub returns-in-None-clause-first : goal.returns-in-None-clause-first
returns-in-None-clause-first g c =
    no_dependent_of (facts_of c.args.catalogue.now) c.args.records.now.records c.args.number
    (sym c.in-None.ensures.record)

pub returns-in-None-clause-work : goal.returns-in-None-clause-work
returns-in-None-clause-work g c =
    work_not_there (facts_of c.args.catalogue.now) c.args.records.now.records c.args.number _ _
    (sym c.in-None.ensures.record) refl
