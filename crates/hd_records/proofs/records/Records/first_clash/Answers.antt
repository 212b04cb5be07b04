use Rattle.std.proofs.Common.{◌∙◌, ap, sym, subst, ℕ, List, filter, nat_lt, arith}
use Rattle.std.proofs.lemmas.Option.{none-some as none_some}
use Rattle.hd_catalogue.specs.Contents.{facts_of}
use Rattle.hd_clash.specs.About.{touches}
use Rattle.hd_clash.specs.Clash.{first_clash}
use Rattle.hd_clash.specs.Records.{EachRecordIsKnown}
use Rattle.hd_rules.specs.declared.cells.Change.{Change}
use Rattle.hd_rules.specs.Record.{Record}
use Rattle.hd_records.specs.Looks.{after_walk}
use Rattle.hd_records.specs.RecordsValue.{AreListed, RecordsValue}
use Rattle.hd_records.specs.Slots.{records_there}
use Rattle.hd_records.specs.Survivors.{changes_of, newer, record_of}
use Rattle.hd_records.proofs.Filters.{about_filter, known_filter}
use Rattle.hd_records.proofs.Leaving.{Touching, touching}
use Rattle.hd_records.proofs.Numbered.{record_there, slots_rise, some_of}
use Rattle.hd_records.proofs.Target.{IsTarget, is-target}
use Rattle.hd_records.proofs.records.Records.first_clash.Given.{Over}
use Rattle.hd_records.proofs.records.Records.first_clash.Goals.{After-changes-changes, After-touched-later}
use Rattle.hd_records.proofs.records.Records.first_clash.Goals as goal

pub unreachable-requires : goal.unreachable-requires
unreachable-requires g c =
    let n : ℕ = c.args.number in
    let slots = c.self.inside.slots.items in
    let r = some_of (record_of n c.args.self.now.records) c.requires.there in
    none_some r.0
    (c.in_default.ensures ∙ sym (record_there n slots c.self.invariant.0)
    ∙ ap (λ (x : RecordsValue). record_of n x.records) c.self.view_is ∙ r.1)

-- the record of the number
target : (g : Over) (c : After-changes-changes g)
    → IsTarget (facts_of c.args.catalogue.now) c.args.number c.self.inside.slots.items
    c.self.inside.index c.in-Some.target c.changes-changes.result.now
target g c =
    is-target (facts_of c.args.catalogue.now) c.args.number c.self.inside.slots.items c.in-Some.target
    c.changes-changes.result.now
    c.self.invariant.0 c.self.view_is c.requires.of c.in-Some.ensures c.changes-changes.ensures.changes

-- the later ones that its changes touch
over : (g : Over) (c : After-touched-later g)
    → Touching (facts_of c.args.catalogue.now) c.changes-changes.result.now c.args.number
    c.self.inside.slots.items c.touched-later.result
over g c =
    let k = facts_of c.args.catalogue.now in
    let slots = c.self.inside.slots.items in
    touching k c.changes-changes.result.now c.args.number slots c.touched-later.result c.self.invariant.0
    (c.touched-later.ensures (records_there slots) (slots_rise 0 1 slots (omega arith) c.self.invariant.0)
    (subst (AreListed k) (sym c.self.view_is) c.requires.of.listed))

pub touched-later-requires-clause-known : goal.touched-later-requires-clause-known
touched-later-requires-clause-known g c =
    (target g (goal.at.touched-later-requires-clause-known g c).After-changes-changes).cells

pub first_clash-requires-clause-cells : goal.first_clash-requires-clause-cells
first_clash-requires-clause-cells g c =
    (target g (goal.at.first_clash-requires-clause-cells g c).After-changes-changes).cells

pub first_clash-requires-clause-known : goal.first_clash-requires-clause-known
first_clash-requires-clause-known g c =
    let there = goal.at.first_clash-requires-clause-known g c in
    let k = facts_of c.args.catalogue.now in
    subst (EachRecordIsKnown k) (sym (over g there.After-touched-later).there)
    (known_filter k (touches k c.changes-changes.result.now)
    (newer c.args.number (records_there c.self.inside.slots.items))
    (target g there.After-changes-changes).later)

pub returns-clause-clash : goal.returns-clause-clash
returns-clause-clash g c =
    let there = goal.at.returns-clause-clash g c in
    let k = facts_of c.args.catalogue.now in
    let n : ℕ = c.args.number in
    let rs : List Record = records_there c.self.inside.slots.items in
    let is = target g there.After-changes-changes in
    c.first_clash.ensures.clash
    ∙ ap (first_clash k c.changes-changes.result.now) (over g there.After-touched-later).there
    ∙ sym (c.the_first_clash_is_touched.ensures k c.changes-changes.result.now (newer n rs)
    (about_filter k (λ (x : Record). nat_lt n x.number) rs is.about))
    ∙ ap (λ (xs : List Change). first_clash k xs (newer n rs)) is.same
    ∙ ap (λ (x : RecordsValue). first_clash k (changes_of n x.records) (newer n x.records)) c.self.view_is

pub returns-clause-work : goal.returns-clause-work
returns-clause-work g c =
    let there = goal.at.returns-clause-work g c in
    let k = facts_of c.args.catalogue.now in
    let n : ℕ = c.args.number in
    c.first_clash.ensures.work
    ∙ ap (λ (xs : List Record). after_walk k c.changes-changes.result.now xs c.args.meter.now)
    (over g there.After-touched-later).there
    ∙ ap (λ (xs : List Change). after_walk k xs
    (filter (touches k xs) (newer n (records_there c.self.inside.slots.items))) c.args.meter.now)
    (target g there.After-changes-changes).same
    ∙ ap (λ (x : RecordsValue). after_walk k (changes_of n x.records)
    (filter (touches k (changes_of n x.records))
    (newer n x.records)) c.args.meter.now) c.self.view_is
