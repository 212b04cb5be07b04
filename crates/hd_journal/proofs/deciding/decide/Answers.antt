use Rattle.std.proofs.Common.{ap, is_some, subst, sym, length, ◌≤◌, Bool, Option}
use Rattle.hd_rules.specs.declared.commands.Cancel.{Cancel}
use Rattle.hd_rules.specs.Facts.{Facts}
use Rattle.hd_rules.specs.Record.{Record}
use Rattle.hd_rules.specs.Searches.{target}
use Rattle.hd_rules.specs.Target.{Split}
use Rattle.hd_catalogue.specs.Contents.{facts_of}
use Rattle.hd_clash.specs.declared.key.Key.TheVariants as key
use Rattle.hd_records.specs.Index.{asks_about}
use Rattle.hd_records.specs.Survivors.{changes_of, survivors_of}
use Rattle.hd_records.specs.Titles.{title_of_cancel}
use Rattle.hd_journal.specs.Deciding.{IsTargetAt}
use Rattle.hd_journal.specs.Working.{IsCancellationWork}
use Rattle.hd_journal.proofs.Targets.{none_aimed}
use Rattle.hd_journal.proofs.Withdrawing.{refused_depends, target_at, work_depends}
use Rattle.hd_journal.proofs.Working.{Compares, compares, no_target, rise_compared}
use Rattle.hd_journal.proofs.deciding.decide.Given.{Over}
use Rattle.hd_journal.proofs.deciding.decide.Goals.{In-Some, After-first_clash}
use Rattle.hd_journal.proofs.deciding.decide.Goals as goal

-- whether a record is of the title that the cancellation is about
abbrev has_title : Facts → Cancel → Record → Bool
has_title k what = asks_about k (key.Title (title_of_cancel k what))

-- the target that was found
target_there : (g : Over) (c : In-Some g)
    → IsTargetAt (facts_of c.args.catalogue.now) c.args.terminal c.args.what.now c.args.records.now
    c.in-Some.target
target_there g c = target_at c.laws.ensures _ _ _ _ _ c.command_limit.ensures.facts c.requires.kept
    c.in-Some.ensures.target

-- the work of finding it, and of comparing
compares_so : (g : Over) (c : After-first_clash g)
    → length (changes_of c.in-Some.target c.args.records.now.records) ≤ 4
    → Compares (facts_of c.args.catalogue.now)
    (has_title (facts_of c.args.catalogue.now) c.args.what.now) c.args.records.now.records
    c.in-Some.target c.args.meter.now c.newest.new.meter c.first_clash.new.meter
compares_so g c few = record {
  few = few;
  found = c.in-Some.ensures.work;
  compared = c.first_clash.ensures.work;
}

pub first_clash-requires-clause-there : goal.first_clash-requires-clause-there
first_clash-requires-clause-there g c =
    ap is_some (target_there g (goal.at.first_clash-requires-clause-there g c).In-Some).parts.at.there

pub first_clash-requires-clause-of : goal.first_clash-requires-clause-of
first_clash-requires-clause-of g c = (target_there g (goal.at.first_clash-requires-clause-of g c).In-Some).of

pub returns-in_default-clause-work : goal.returns-in_default-clause-work
returns-in_default-clause-work g c =
    let k = facts_of c.args.catalogue.now in
    let rs = c.args.records.now.records in
    let none = none_aimed (target c.args.terminal c.args.what.now (survivors_of rs))
    c.in_default.ensures.target in
    subst (λ (o : Option Split). IsCancellationWork k (survivors_of rs) o c.args.meter.now c.newest.new.meter)
    (sym none)
    (no_target c.laws.ensures (has_title k c.args.what.now) rs c.args.meter.now c.newest.new.meter
    c.in_default.ensures.work)

pub returns-in-Some-first_clash-clause-refused : goal.returns-in-Some-first_clash-clause-refused
returns-in-Some-first_clash-clause-refused g c =
    refused_depends c.laws.ensures _ _ _ _ _ _
    (target_there g (goal.at.returns-in-Some-first_clash-clause-refused g c).In-Some)
    (sym c.in-Some-first_clash.ensures.clash)

pub returns-in-Some-first_clash-clause-work : goal.returns-in-Some-first_clash-clause-work
returns-in-Some-first_clash-clause-work g c =
    let at = target_there g (goal.at.returns-in-Some-first_clash-clause-work g c).In-Some in
    work_depends c.laws.ensures _ _ _ _ _ c.in-Some-first_clash.number _ _ at
    (sym c.in-Some-first_clash.ensures.clash)
    (compares c.laws.ensures _ _ _ _ _ _ _
    (compares_so g (goal.at.returns-in-Some-first_clash-clause-work g c).After-first_clash at.few))

pub returns-in-None-clause-goes : goal.returns-in-None-clause-goes
returns-in-None-clause-goes g c =
    let at = target_there g (goal.at.returns-in-None-clause-goes g c).In-Some in
    let so = compares_so g (goal.at.returns-in-None-clause-goes g c).After-first_clash at.few in
    record {
      at = at;
      stands = sym c.in-None.ensures.clash;
      work = compares c.laws.ensures _ _ _ _ _ _ _ so;
      rise = rise_compared _ _ _ _ _ _ _ so;
    }
