use Rattle.std.proofs.Common.{arith, ◌≡◌, ◌++◌, ◌∙◌, ap, sym, subst, ℕ, List, filter, length, cond}
use Rattle.std.proofs.lemmas.List.{length-map}
use Rattle.std.proofs.lemmas.Option.{none-some as none_some}
use Rattle.hd_catalogue.specs.Contents.{facts_of}
use Rattle.hd_clash.specs.About.{touches}
use Rattle.hd_clash.specs.CommandKeys.{has_key, keys_of_command}
use Rattle.hd_clash.specs.Records.{EachRecordIsKnown}
use Rattle.hd_clash.specs.Shift.{shift_records}
use Rattle.hd_index.specs.Rising.{without}
use Rattle.hd_index.specs.Union.{union}
use Rattle.hd_rules.specs.declared.cells.Change.{Change}
use Rattle.hd_rules.specs.declared.commands.Survivor.{Survivor}
use Rattle.hd_rules.specs.Known.{IsKnownAction}
use Rattle.hd_rules.specs.Record.{Record}
use Rattle.hd_rules.specs.Run.{IsAmong}
use Rattle.hd_records.specs.Index.{numbers_of, records_about}
use Rattle.hd_records.specs.Looks.{after_looks}
use Rattle.hd_records.specs.RecordsValue.{AreListed, RecordsValue}
use Rattle.hd_records.specs.Slots.{records_at, records_there}
use Rattle.hd_records.specs.Survivors.{changes_of, newer, older, record_of}
use Rattle.hd_records.proofs.Filters.{known_filter}
use Rattle.hd_records.proofs.Leaving.{IsLeft, Touching, is_left, met, met_left, touching}
use Rattle.hd_records.proofs.Listed.{one_less}
use Rattle.hd_records.proofs.Numbered.{record_there, slots_rise, some_of}
use Rattle.hd_records.proofs.Standing.{only_one}
use Rattle.hd_records.proofs.Target.{IsTarget, is-target}
use Rattle.hd_records.proofs.records.Records.take_out.Given.{Over}
use Rattle.hd_records.proofs.records.Records.take_out.Goals.{After-as_slice-changes, After-mend_each}
use Rattle.hd_records.proofs.records.Records.take_out.Goals.{After-touched-touched}
use Rattle.hd_records.proofs.records.Records.take_out.Goals as goal

pub unreachable-requires : goal.unreachable-requires
unreachable-requires g c =
    let n : ℕ = c.args.number in
    let slots = c.self.inside.slots.items in
    let r = some_of (record_of n c.args.self.now.records) c.requires.there in
    none_some r.0
    (c.in_default.ensures ∙ sym (record_there n slots c.self.invariant.0)
    ∙ ap (λ (x : RecordsValue). record_of n x.records) c.self.view_is ∙ r.1)

-- the record of the number, whose changes were copied
target : (g : Over) (c : After-as_slice-changes g)
    → IsTarget (facts_of c.args.catalogue.now) c.args.number c.self.inside.slots.items
    c.self.inside.index c.in-Some.target c.as_slice-changes.result.now
target g c =
    is-target (facts_of c.args.catalogue.now) c.args.number c.self.inside.slots.items c.in-Some.target
    c.as_slice-changes.result.now
    c.self.invariant.0 c.self.view_is c.requires.of c.in-Some.ensures
    (c.as_slice-changes.ensures.value ∙ c.copy_of-copy.ensures ∙ c.changes.ensures.changes)

-- the later ones that they touch
over : (g : Over) (c : After-touched-touched g)
    → Touching (facts_of c.args.catalogue.now) c.as_slice-changes.result.now c.args.number
    c.self.inside.slots.items c.touched-touched.result
over g c =
    let k = facts_of c.args.catalogue.now in
    let slots = c.self.inside.slots.items in
    touching k c.as_slice-changes.result.now c.args.number slots c.touched-touched.result c.self.invariant.0
    (c.touched-touched.ensures (records_there slots) (slots_rise 0 1 slots (omega arith) c.self.invariant.0)
    (subst (AreListed k) (sym c.self.view_is) c.requires.of.listed))

pub of-listed-requires : goal.of-listed-requires
of-listed-requires g c =
    subst (λ (s : Survivor). IsKnownAction (facts_of c.args.catalogue.now) s.command.action)
    (sym c.survivor.ensures)
    (target g (goal.at.of-listed-requires g c).After-as_slice-changes).command

pub touched-touched-requires-clause-known : goal.touched-touched-requires-clause-known
touched-touched-requires-clause-known g c =
    (target g (goal.at.touched-touched-requires-clause-known g c).After-as_slice-changes).cells

pub mend_each-requires-clause-cells : goal.mend_each-requires-clause-cells
mend_each-requires-clause-cells g c =
    (target g (goal.at.mend_each-requires-clause-cells g c).After-as_slice-changes).cells

pub mend_each-requires-clause-known : goal.mend_each-requires-clause-known
mend_each-requires-clause-known g c =
    let there = goal.at.mend_each-requires-clause-known g c in
    let k = facts_of c.args.catalogue.now in
    let n : ℕ = c.args.number in
    let slots = c.self.inside.slots.items in
    let cs : List Change = c.as_slice-changes.result.now in
    let is = target g there.After-as_slice-changes in
    subst (EachRecordIsKnown k)
    (sym (ap (records_at (union c.touched-touched.result)) c.take.ensures.slots
    ∙ met_left k cs n slots c.touched-touched.result is.at.above c.self.invariant.0
    (over g there.After-touched-touched)))
    (known_filter k (touches k cs) (newer n (records_there slots)) is.later)

pub overflow_cast-number-2 : goal.overflow_cast-number-2
overflow_cast-number-2 g c =
    omega (
      arith,
      (target g (goal.at.overflow_cast-number-2 g c).After-as_slice-changes).at.within,
      c.self.invariant.1,
    )

-- the slots that are left
left : (g : Over) (c : After-mend_each g)
    → IsTarget (facts_of c.args.catalogue.now) c.args.number c.self.inside.slots.items c.self.inside.index
    c.in-Some.target
    c.as_slice-changes.result.now
    → Touching (facts_of c.args.catalogue.now) c.as_slice-changes.result.now c.args.number
    c.self.inside.slots.items c.touched-touched.result
    → IsLeft (facts_of c.args.catalogue.now) c.as_slice-changes.result.now c.args.number
    c.self.inside.slots.items
    c.mend_each.new.slots.items
left g c is at =
    is_left c.only_touched_records_shift.ensures (facts_of c.args.catalogue.now) c.as_slice-changes.result.now
    c.args.number
    c.self.inside.slots.items c.take.new.slots.items c.mend_each.new.slots.items c.touched-touched.result
    is.at.above c.self.invariant.0
    is.about at c.take.ensures.slots c.mend_each.ensures.slots

pub invariant_of-self : goal.invariant_of-self
invariant_of-self g c =
    let there = goal.at.invariant_of-self g c in
    let is = left g there.After-mend_each (target g there.After-as_slice-changes)
    (over g there.After-touched-touched) in
    (is.numbered, omega (arith, is.size, c.self.invariant.1))

pub returns-clause-last : goal.returns-clause-last
returns-clause-last g c =
    let there = goal.at.returns-clause-last g c in
    (left g there.After-mend_each (target g there.After-as_slice-changes)
    (over g there.After-touched-touched)).size
    ∙ ap (λ (x : RecordsValue). x.last) c.self.view_is

pub returns-clause-records : goal.returns-clause-records
returns-clause-records g c =
    let there = goal.at.returns-clause-records g c in
    let k = facts_of c.args.catalogue.now in
    let n : ℕ = c.args.number in
    let rs : List Record = records_there c.self.inside.slots.items in
    let is = target g there.After-as_slice-changes in
    (left g there.After-mend_each is (over g there.After-touched-touched)).records
    ∙ ap (λ (xs : List Change). older n rs ++ shift_records k xs (newer n rs)) is.same
    ∙ ap (λ (x : RecordsValue). older n x.records ++ shift_records k (changes_of n x.records)
    (newer n x.records)) c.self.view_is

pub returns-clause-listed : goal.returns-clause-listed
returns-clause-listed g c x =
    let there = goal.at.returns-clause-listed g c in
    let k = facts_of c.args.catalogue.now in
    let n : ℕ = c.args.number in
    let slots = c.self.inside.slots.items in
    let is = target g there.After-as_slice-changes in
    let keys = c.of-listed.ensures ∙ ap (λ (s : Survivor). keys_of_command k s.command) c.survivor.ensures in
    c.take-2.ensures x
    ∙ (λ j. cond (has_key (keys j) x) (without n (is.listed x j)) (is.listed x j))
    ∙ one_less k c.as_slice-changes.result.now x n c.in-Some.target (records_there slots)
    (slots_rise 0 1 slots (omega arith) c.self.invariant.0)
    (λ (y : Record) (among : IsAmong y (records_there slots)) (number : y.number ≡ n).
    only_one n slots c.in-Some.target y c.self.invariant.0 (sym c.in-Some.ensures) among number)
    ∙ ap (λ (rs : List Record). numbers_of (records_about k x rs))
    (sym (left g there.After-mend_each is (over g there.After-touched-touched)).records)

pub returns-clause-work : goal.returns-clause-work
returns-clause-work g c =
    let there = goal.at.returns-clause-work g c in
    let k = facts_of c.args.catalogue.now in
    let n : ℕ = c.args.number in
    let slots = c.self.inside.slots.items in
    c.mend_each.ensures.work
    ∙ ap (λ (ns : List ℕ). after_looks (length ns) c.args.meter.now)
    (over g there.After-touched-touched).numbers
    ∙ ap (λ (i : ℕ). after_looks i c.args.meter.now)
    (length-map (met k c.as_slice-changes.result.now n slots) (λ (x : Record). x.number))
    ∙ ap (λ (xs : List Change). after_looks (length (filter (touches k xs) (newer n (records_there slots))))
    c.args.meter.now)
    (target g there.After-as_slice-changes).same
    ∙ ap (λ (x : RecordsValue). after_looks (length (filter (touches k (changes_of n x.records))
    (newer n x.records))) c.args.meter.now) c.self.view_is
