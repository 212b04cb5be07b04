use Rattle.std.proofs.Common.{◌≡◌, sym, ◌∙◌, ap, subst, is_some, ℕ, ◌++◌, length, List, filter, Some}
use Rattle.std.proofs.lemmas.Option.{none-some as none_there}
use Rattle.hd_rules.specs.declared.cells.Change.{Change}
use Rattle.hd_rules.specs.declared.replies.TurnReply.TheVariants.{Refused, Cancelled}
use Rattle.hd_rules.specs.Desk.{Desk, take_back}
use Rattle.hd_rules.specs.Known.{IsKnownCancel}
use Rattle.hd_rules.specs.Record.{Record}
use Rattle.hd_rules.specs.Run.{run}
use Rattle.hd_rules.specs.Searches.{target}
use Rattle.hd_rules.specs.Sound.{EachBackIsFit}
use Rattle.hd_catalogue.specs.Contents.{Contents, facts_of}
use Rattle.hd_meter.specs.Meter.{Counts}
use Rattle.hd_clash.specs.About.{touches}
use Rattle.hd_clash.specs.Shift.{shift_records}
use Rattle.hd_inverse.specs.Cells.{AreApart, AreKnownChanges}
use Rattle.hd_inverse.specs.Work.{after_writes}
use Rattle.hd_desk.specs.Desks.{desk_of}
use Rattle.hd_records.specs.Looks.{after_looks}
use Rattle.hd_records.specs.RecordsValue.{AreListed, AreOfCatalogue}
use Rattle.hd_records.specs.Shown.{record_shown}
use Rattle.hd_records.specs.Survivors.{changes_of, newer, older, record_of, survivor_of, survivors_of}
use Rattle.hd_journal.specs.Deciding.{AreKept, IsRefused, MayGo, run_at}
use Rattle.hd_journal.specs.SurvivorRun.{SurvivorRun, LeadsTo, Withdrawn}
use Rattle.hd_journal.specs.Stored.{AreStored}
use Rattle.hd_journal.specs.Working.{IsCancellationWork, OnlyRise}
use Rattle.hd_journal.proofs.Stored.{each_back, left_at, left_stored, left_survivors}
use Rattle.hd_journal.proofs.Stored.{survivors_split, undoable_at, undone_is}
use Rattle.hd_journal.proofs.Targets.{lent_changes}
use Rattle.hd_journal.proofs.Withdrawing.{goes_at, running_without, withdrawn_stands, work_stands}
use Rattle.hd_journal.proofs.survivor_run.SurvivorRun.cancel.Given.{Over}
use Rattle.hd_journal.proofs.survivor_run.SurvivorRun.cancel.Goals.{In-Ok, In-Some, After-take_out}
use Rattle.hd_journal.proofs.survivor_run.SurvivorRun.cancel.Goals as goal
use Rattle.hd_lemmas.proofs.Results.{on_err}

-- the records are kept, whoever lends the catalogue
pub decide-requires-clause-kept : goal.decide-requires-clause-kept
decide-requires-clause-kept g c =
    subst (λ (x : Contents). AreKept (facts_of x) c.self.inside.records)
    (sym (c.deref.ensures ∙ c.catalogue.ensures))
    (record {
      may_run = c.self.invariant.0.may_run;
      stored = c.self.invariant.1;
      listed = c.self.invariant.2;
    })

pub decide-requires-clause-known : goal.decide-requires-clause-known
decide-requires-clause-known g c =
    subst (λ (x : Contents). IsKnownCancel (facts_of x) c.args.what.now)
    (sym (c.deref.ensures ∙ c.catalogue.ensures))
    (subst (λ (x : SurvivorRun). IsKnownCancel (facts_of x.contents) c.args.what.now)
    (sym c.self.view_is) c.requires)

-- it is refused
pub returns-in-Err-clause-cancelled : goal.returns-in-Err-clause-cancelled
returns-in-Err-clause-cancelled g c =
    subst (λ (x : SurvivorRun). Withdrawn x c.args.terminal c.args.what.now (Refused c.in-Err.refusal) x)
    c.self.view_is
    (subst (λ (x : Contents). IsRefused x c.args.terminal c.args.what.now c.self.inside.records
    c.in-Err.refusal)
    (c.deref.ensures ∙ c.catalogue.ensures) c.in-Err.ensures.refused)

pub returns-in-Err-clause-work : goal.returns-in-Err-clause-work
returns-in-Err-clause-work g c =
    let rs = c.self.inside.records.records in
    subst
    (λ (x : SurvivorRun). IsCancellationWork (facts_of x.contents) x.survivors
    (target c.args.terminal c.args.what.now x.survivors)
    c.args.meter.now c.decide.new.meter)
    c.self.view_is
    (subst (λ (x : Contents). IsCancellationWork (facts_of x) (survivors_of rs)
    (target c.args.terminal c.args.what.now (survivors_of rs))
    c.args.meter.now c.decide.new.meter) (c.deref.ensures ∙ c.catalogue.ensures) c.in-Err.ensures.work)

-- the target can be taken back
may_go : (g : Over) (c : In-Ok g)
    → MayGo (facts_of c.self.inside.desk.copies.contents) c.args.terminal c.args.what.now
    c.self.inside.records c.in-Ok.target
    c.args.meter.now c.decide.new.meter
may_go g c =
    subst (λ (x : Contents). MayGo
    (facts_of x) c.args.terminal c.args.what.now c.self.inside.records c.in-Ok.target
    c.args.meter.now c.decide.new.meter) (c.deref.ensures ∙ c.catalogue.ensures) c.in-Ok.ensures.goes

-- the changes that are lent are those of its record
are_lent : (g : Over) (c : In-Some g) (aim : Record)
    → record_of c.in-Ok.target c.self.inside.records.records ≡ Some aim
    → c.in-Some.kept.changes.now ≡ aim.changes
are_lent g c aim there = lent_changes (record_shown c.in-Some.kept) aim _ c.in-Some.ensures.record there

pub unreachable-requires : goal.unreachable-requires
unreachable-requires g c =
    let at = (may_go g (goal.at.unreachable-requires g c).In-Ok).at in
    none_there at.record_there (c.in_default.ensures.record ∙ at.parts.at.there)

pub undo-requires-clause-known : goal.undo-requires-clause-known
undo-requires-clause-known g c =
    let at = (may_go g (goal.at.undo-requires-clause-known g c).In-Ok).at in
    subst (AreKnownChanges (facts_of c.self.inside.desk.copies.contents))
    (sym (are_lent g (goal.at.undo-requires-clause-known g c).In-Some at.record_there at.parts.at.there))
    (undoable_at _ _ _ _ at.parts.at at.kept.stored).0

pub undo-requires-clause-apart : goal.undo-requires-clause-apart
undo-requires-clause-apart g c =
    let at = (may_go g (goal.at.undo-requires-clause-apart g c).In-Ok).at in
    subst AreApart (sym (are_lent g
    (goal.at.undo-requires-clause-apart g c).In-Some at.record_there at.parts.at.there))
    (undoable_at (facts_of c.self.inside.desk.copies.contents) _ _ _ at.parts.at at.kept.stored).1

pub undo-requires-clause-fit : goal.undo-requires-clause-fit
undo-requires-clause-fit g c =
    let k = facts_of c.self.inside.desk.copies.contents in
    let goes = may_go g (goal.at.undo-requires-clause-fit g c).In-Ok in
    subst (λ (x : Desk). EachBackIsFit k c.in-Some.kept.changes.now x) (sym c.self.invariant.0.desk)
    (subst (λ (cs : List Change). EachBackIsFit k cs (run k (survivors_of c.self.inside.records.records)))
    (sym (are_lent g (goal.at.undo-requires-clause-fit g c).In-Some goes.at.record_there
    goes.at.parts.at.there))
    (each_back c.laws.ensures k _ _ _ (goes_at c.laws.ensures _ _ _ _ _ _ _ goes)))

pub returns-in_err-undo-clause-rise : goal.returns-in_err-undo-clause-rise
returns-in_err-undo-clause-rise g c =
    on_err _ _ (subst (λ (x : Counts). OnlyRise c.args.meter.now x) (sym c.in_err-undo.ensures.counted)
    (may_go g (goal.at.returns-in_err-undo-clause-rise g c).In-Ok).rise)

pub take_out-requires-clause-there : goal.take_out-requires-clause-there
take_out-requires-clause-there g c =
    ap is_some (may_go g (goal.at.take_out-requires-clause-there g c).In-Ok).at.parts.at.there

pub take_out-requires-clause-of : goal.take_out-requires-clause-of
take_out-requires-clause-of g c =
    subst (λ (x : Contents). AreOfCatalogue (facts_of x) c.self.inside.records)
    (sym (c.deref-2.ensures ∙ c.catalogue-2.ensures ∙ c.in_ok-undo.ensures.contents))
    (may_go g (goal.at.take_out-requires-clause-of g c).In-Ok).at.of

-- the records that are left
are_left : (g : Over) (c : After-take_out g)
    → c.take_out.new.self.records
    ≡ left_at (facts_of c.self.inside.desk.copies.contents) c.self.inside.records.records c.in-Ok.target
are_left g c =
    let rs = c.self.inside.records.records in
    c.take_out.ensures.records
    ∙ ap (λ (x : Contents). older c.in-Ok.target rs ++ shift_records (facts_of x)
    (changes_of c.in-Ok.target rs) (newer c.in-Ok.target rs))
    (c.deref-2.ensures ∙ c.catalogue-2.ensures ∙ c.in_ok-undo.ensures.contents)

pub invariant_of-self-2 : goal.invariant_of-self-2
invariant_of-self-2 g c =
    let contents = c.self.inside.desk.copies.contents in
    let k = facts_of contents in
    let rs = c.self.inside.records.records in
    let n = c.in-Ok.target in
    let goes = may_go g (goal.at.invariant_of-self-2 g c).In-Ok in
    let aim = goes.at.record_there in
    let left = are_left g (goal.at.invariant_of-self-2 g c).After-take_out in
    let lent = are_lent g (goal.at.invariant_of-self-2 g c).In-Some aim goes.at.parts.at.there in
    let desk : desk_of c.undo.new.cells ≡ run k (survivors_of (older n rs) ++ survivors_of (newer n rs)) =
    c.in_ok-undo.ensures.desk
    ∙ (λ j. take_back (lent j) (c.self.invariant.0.desk j))
    ∙ undone_is c.laws.ensures k rs n aim (goes_at c.laws.ensures _ _ _ _ _ _ _ goes) in (
      subst (λ (m : ℕ). LeadsTo (record {
        contents = c.undo.new.cells.copies.contents;
        survivors = survivors_of c.take_out.new.self.records;
        last = m;
      }) (desk_of c.undo.new.cells)) (sym c.take_out.ensures.last)
          (running_without (run_at contents rs c.self.inside.records.last) (desk_of c.self.inside.desk)
          (desk_of c.undo.new.cells)
          (survivors_of (older n rs)) (survivors_of (newer n rs))
          (survivor_of aim) c.undo.new.cells.copies.contents
          (survivors_of c.take_out.new.self.records) c.self.invariant.0
          (survivors_split rs n aim goes.at.parts.at)
          c.in_ok-undo.ensures.contents (ap survivors_of left ∙ left_survivors k rs n) desk),
      subst (λ (x : Contents). AreStored (facts_of x) c.take_out.new.self.records)
          (sym c.in_ok-undo.ensures.contents)
          (subst (AreStored k) (sym left)
          (left_stored c.laws.ensures k rs n aim goes.at.parts goes.at.kept.may_run goes.at.of.known
          goes.at.kept.stored goes.stands)),
      subst (λ (x : Contents). AreListed (facts_of x) c.take_out.new.self)
          (c.deref-2.ensures ∙ c.catalogue-2.ensures)
          c.take_out.ensures.listed,
    )

pub returns-clause-cancelled : goal.returns-clause-cancelled
returns-clause-cancelled g c =
    let contents = c.self.inside.desk.copies.contents in
    let records = c.self.inside.records in
    let n = c.in-Ok.target in
    let goes = may_go g (goal.at.returns-clause-cancelled g c).In-Ok in
    let next : ℕ → SurvivorRun = λ m. record {
      contents = c.undo.new.cells.copies.contents;
      survivors = survivors_of c.take_out.new.self.records;
      last = m;
    } in
    subst (λ (x : SurvivorRun). Withdrawn x c.args.terminal c.args.what.now (Cancelled n)
    (next c.take_out.new.self.last)) c.self.view_is
    (subst
    (λ (m : ℕ). Withdrawn (run_at contents records.records records.last) c.args.terminal c.args.what.now
    (Cancelled n) (next m))
    (sym c.take_out.ensures.last)
    (withdrawn_stands c.laws.ensures contents c.args.terminal c.args.what.now records n
    c.undo.new.cells.copies.contents
    (survivors_of c.take_out.new.self.records) goes.at goes.stands c.in_ok-undo.ensures.contents
    (ap survivors_of (are_left g (goal.at.returns-clause-cancelled g c).After-take_out)
    ∙ left_survivors (facts_of contents) records.records n)))

pub returns-clause-work : goal.returns-clause-work
returns-clause-work g c =
    let rs = c.self.inside.records.records in
    let n = c.in-Ok.target in
    let goes = may_go g (goal.at.returns-clause-work g c).In-Ok in
    let lent = are_lent g (goal.at.returns-clause-work g c).In-Some goes.at.record_there
    goes.at.parts.at.there in
    subst
    (λ (x : SurvivorRun). IsCancellationWork (facts_of x.contents) x.survivors
    (target c.args.terminal c.args.what.now x.survivors)
    c.args.meter.now c.take_out.new.meter)
    c.self.view_is
    (work_stands c.laws.ensures (facts_of c.self.inside.desk.copies.contents) c.args.terminal c.args.what.now
    c.self.inside.records n
    c.args.meter.now c.decide.new.meter c.undo.new.meter c.take_out.new.meter goes
    (c.in_ok-undo.ensures.counted
    ∙ ap (λ (cs : List Change). after_writes (length cs) c.decide.new.meter) lent)
    (c.take_out.ensures.work ∙ ap (λ (x : Contents). after_looks
    (length (filter (touches (facts_of x) (changes_of n rs)) (newer n rs)))
    c.undo.new.meter) (c.deref-2.ensures ∙ c.catalogue-2.ensures ∙ c.in_ok-undo.ensures.contents)))
