use Rattle.std.proofs.Common.{arith, ◌∙◌, ◌<◌, ap, sym, subst, length, set, List, None}
use Rattle.hd_records.specs.declared.slots.Slot.{Slot}
use Rattle.hd_records.specs.Laid.{AreLaid, records_in}
use Rattle.hd_records.specs.SlotsValue.{SlotsValue}
use Rattle.hd_records.proofs.Laid.{emptied_slot, laid_emptied, length_stored, stored_emptied}
use Rattle.hd_records.proofs.slots.Slots.empty.Goals as goal

pub index_mut-requires : goal.index_mut-requires
index_mut-requires g c =
    let there = subst (λ (v : SlotsValue). c.args.place < length v.items) (sym c.self.view_is) c.requires in
    omega (
      arith,
      there,
      c.self.inside.slots.ok.0,
      length_stored c.self.inside.slots.items c.self.inside.findings.items c.self.inside.changes.items,
    )

pub invariant_of-self : goal.invariant_of-self
invariant_of-self g c =
    let ss : List Slot = c.self.inside.slots.items in
    let there = subst (λ (v : SlotsValue). c.args.place < length v.items) (sym c.self.view_is) c.requires in
    let below : c.args.place < length ss =
    omega (arith, there, length_stored ss c.self.inside.findings.items c.self.inside.changes.items) in
    subst (λ (s : Slot). AreLaid 0 0 (set ss c.args.place (emptied_slot s)) c.self.inside.findings.items
    c.self.inside.changes.items)
    (sym c.index_mut.ensures.value)
    (laid_emptied 0 0 c.args.place c.index_mut.result.now ss c.self.inside.findings.items
    c.self.inside.changes.items below
    c.self.invariant)

pub returns-clause-items : goal.returns-clause-items
returns-clause-items g c =
    let ss : List Slot = c.self.inside.slots.items in
    let there = subst (λ (v : SlotsValue). c.args.place < length v.items) (sym c.self.view_is) c.requires in
    let below : c.args.place < length ss =
    omega (arith, there, length_stored ss c.self.inside.findings.items c.self.inside.changes.items) in
    ap (λ (s : Slot). records_in (set ss c.args.place (emptied_slot s)) c.self.inside.findings.items
    c.self.inside.changes.items)
    c.index_mut.ensures.value
    ∙ stored_emptied c.args.place c.index_mut.result.now ss c.self.inside.findings.items
    c.self.inside.changes.items below
    ∙ ap (λ (v : SlotsValue). set v.items c.args.place None) c.self.view_is
