use Rattle.std.proofs.Common.{arith, ◌≡◌, ◌∙◌, ap, sym, length, get_or, take, drop, List, Option, None, Some}
use Rattle.std.proofs.lemmas.List.{get_or_past, length-take}
use Rattle.hd_rules.specs.declared.cells.Change.{Change}
use Rattle.hd_rules.specs.declared.questions.Finding.{Finding}
use Rattle.hd_rules.specs.Record.{Record}
use Rattle.hd_records.specs.declared.slots.RecordHead.{RecordHead}
use Rattle.hd_records.specs.Laid.{record_in, records_in}
use Rattle.hd_records.specs.SlotsValue.{SlotsValue}
use Rattle.hd_records.proofs.Laid.{Stands, length_stored, stands_here}
use Rattle.hd_records.proofs.slots.Slots.get.Given.{Over}
use Rattle.hd_records.proofs.slots.Slots.get.Goals.{After-index-slot}
use Rattle.hd_records.proofs.slots.Slots.get.Goals as goal

pub returns-then-place-len : goal.returns-then-place-len
returns-then-place-len g c =
    let items : List (Option Record) =
    records_in c.self.inside.slots.items c.self.inside.findings.items c.self.inside.changes.items in
    sym (get_or_past items c.args.place None
    (omega (
      arith,
      c.if-place-len.true,
      c.len.ensures,
      c.self.inside.slots.ok.0,
      length_stored c.self.inside.slots.items c.self.inside.findings.items c.self.inside.changes.items,
    )))
    ∙ ap (λ (v : SlotsValue). get_or v.items c.args.place None) c.self.view_is

-- where the slot's values stand
at : (g : Over) (c : After-index-slot g)
    → Stands 0 0 c.args.place c.index-slot.result.now c.self.inside.slots.items
    c.self.inside.findings.items c.self.inside.changes.items
at g c =
    let ss = c.self.inside.slots.items in
    let fs : List Finding = c.self.inside.findings.items in
    let cs : List Change = c.self.inside.changes.items in
    stands_here c.args.place c.index-slot.result.now ss fs cs c.index-slot.ensures
    (omega (arith, c.if-place-len.false, c.len.ensures, c.self.inside.slots.ok.0, length_stored ss fs cs))
    c.self.invariant

pub returns-in_err-kept : goal.returns-in_err-kept
returns-in_err-kept g c =
    let is = at g (goal.at.returns-in_err-kept g c).After-index-slot in
    let s = c.index-slot.result.now in
    c.from_residual.ensures
    ∙ ap
    (λ (o : Option RecordHead). record_in o
    (take s.findings.count (drop is.before c.self.inside.findings.items))
    (take s.changes.count (drop is.ahead c.self.inside.changes.items)))
    c.in_err-kept.ensures.value
    ∙ sym is.is
    ∙ ap (λ (v : SlotsValue). get_or v.items c.args.place None) c.self.view_is

pub values_at-findings-requires : goal.values_at-findings-requires
values_at-findings-requires g c =
    let is = at g (goal.at.values_at-findings-requires g c).After-index-slot in
    omega (arith, is.asked, is.findings, ap (λ (xs : List Finding). length xs) c.as_slice.ensures.value)

pub values_at-changes-requires : goal.values_at-changes-requires
values_at-changes-requires g c =
    let is = at g (goal.at.values_at-changes-requires g c).After-index-slot in
    omega (arith, is.changed, is.changes, ap (λ (xs : List Change). length xs) c.as_slice-2.ensures.value)

pub new-requires : goal.new-requires
new-requires g c =
    let is = at g (goal.at.new-requires g c).After-index-slot in
    let s = c.index-slot.result.now in
    let size = ap (λ (xs : List Change). length xs) c.values_at-changes.ensures in
    omega (arith, is.few, size, length-take s.changes.count (drop s.changes.first c.as_slice-2.result.now))

pub returns : goal.returns
returns g c =
    let is = at g (goal.at.returns g c).After-index-slot in
    let s = c.index-slot.result.now in
    let first : s.findings.first ≡ is.before = omega (arith, is.asked) in
    let ahead : s.changes.first ≡ is.ahead = omega (arith, is.changed) in
    let found : c.values_at-findings.result.now
    ≡ take s.findings.count (drop is.before c.self.inside.findings.items) =
    c.values_at-findings.ensures
    ∙ (λ j. take s.findings.count (drop (first j) (c.as_slice.ensures.value j))) in
    let made : c.values_at-changes.result.now
    ≡ take s.changes.count (drop is.ahead c.self.inside.changes.items) =
    c.values_at-changes.ensures
    ∙ (λ j. take s.changes.count (drop (ahead j) (c.as_slice-2.ensures.value j))) in
    ap (λ (r : Record). Some r) c.new.ensures
    ∙ (λ j. record_in (c.in_ok-kept.ensures.value j) (found j) (made j))
    ∙ sym is.is
    ∙ ap (λ (v : SlotsValue). get_or v.items c.args.place None) c.self.view_is
