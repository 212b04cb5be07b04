use Rattle.std.proofs.Common.{arith, ◌≡◌, ◌≤◌, ◌++◌, ◌∷◌, [], ◌∙◌, ap, sym, subst, length, List, Some}
use Rattle.hd_rules.specs.declared.cells.Change.{Change}
use Rattle.hd_rules.specs.declared.questions.Finding.{Finding}
use Rattle.hd_rules.specs.Record.{Record}
use Rattle.hd_records.specs.declared.slots.RecordHead.{RecordHead}
use Rattle.hd_records.specs.declared.slots.Slot.{Slot}
use Rattle.hd_records.specs.Laid.{AreLaid, record_in, record_of_kept, records_in}
use Rattle.hd_records.specs.SlotsValue.{SlotsValue}
use Rattle.hd_records.proofs.Laid.{IsBehind, laid_more, stored_more}
use Rattle.hd_records.proofs.slots.Slots.push.Given.{Over}
use Rattle.hd_records.proofs.slots.Slots.push.Goals.{After-push_reserved}
use Rattle.hd_records.proofs.slots.Slots.push.Goals as goal

-- what the slot keeps of the record
abbrev kept : (g : Over) → After-push_reserved g → RecordHead
kept g c = record { survivor = c.survivor.result.now; reply = c.reply.result }

-- the slot that stands last
abbrev slot : (g : Over) → After-push_reserved g → Slot
slot g c = record {
  findings = c.place_behind.result;
  changes = c.place_behind-2.result;
  has_count = c.has_count.result;
  kept = Some (kept g c);
}

behind : (g : Over) (c : After-push_reserved g)
    → IsBehind (slot g c) c.findings-findings.result.now c.changes-changes.result.now
behind g c = record {
  findings = c.place_behind.ensures.count;
  changes = c.place_behind-2.ensures.count;
  few = subst (λ (zs : List Change). length zs ≤ 4) (sym c.changes-changes.ensures.changes)
      c.changes-changes.ensures.few;
  counts = c.has_count.ensures;
}

pub invariant_of-self : goal.invariant_of-self
invariant_of-self g c =
    let there = (goal.at.invariant_of-self g c).After-push_reserved in
    let ss : List Slot = c.self.inside.slots.items in
    let fs : List Finding = c.self.inside.findings.items in
    let cs : List Change = c.self.inside.changes.items in
    let xs : List Finding = c.findings-findings.result.now in
    let ys : List Change = c.changes-changes.result.now in
    let s : Slot = slot g there in
    let laid : AreLaid 0 0 (ss ++ s ∷ []) (fs ++ xs) (cs ++ ys) =
    laid_more 0 0 ss fs cs s xs ys c.self.invariant (behind g there)
    (omega (arith, c.place_behind.ensures.first, c.self.inside.findings.ok.0))
    (omega (arith, c.place_behind-2.ensures.first, c.self.inside.changes.ok.0)) in
    subst (λ (zs : List Slot). AreLaid 0 0 zs c.append.new.list.items c.append-2.new.list.items)
    (sym c.push_reserved.ensures.items)
    (subst (λ (zs : List Finding). AreLaid 0 0 (ss ++ s ∷ []) zs c.append-2.new.list.items)
    (sym c.append.ensures.items)
    (subst (λ (zs : List Change). AreLaid 0 0 (ss ++ s ∷ []) (fs ++ xs) zs) (sym c.append-2.ensures.items)
    laid))

pub returns-clause-items : goal.returns-clause-items
returns-clause-items g c =
    let there = (goal.at.returns-clause-items g c).After-push_reserved in
    let xs : List Finding = c.findings-findings.result.now in
    let ys : List Change = c.changes-changes.result.now in
    let whole : record_of_kept (kept g there) xs ys ≡ c.args.new.now =
    (λ j. record_of_kept (record { survivor = c.survivor.ensures j; reply = c.reply.ensures j })
    (c.findings-findings.ensures.findings j) (c.changes-changes.ensures.changes j)) in
    (λ j. records_in (c.push_reserved.ensures.items j) (c.append.ensures.items j)
    (c.append-2.ensures.items j))
    ∙ stored_more 0 0 c.self.inside.slots.items c.self.inside.findings.items c.self.inside.changes.items
    (slot g there) xs ys
    c.self.invariant (behind g there)
    ∙ ap (λ (v : SlotsValue). v.items ++ record_in (slot g there).kept xs ys ∷ []) c.self.view_is
    ∙ ap (λ (r : Record). c.args.self.now.items ++ Some r ∷ []) whole
