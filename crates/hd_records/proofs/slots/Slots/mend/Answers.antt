use Rattle.std.proofs.Common.{arith, ◌≡◌, ◌<◌, ◌∙◌, ap, sym, subst, refl, ℕ, length, get_or, set, take, drop}
use Rattle.std.proofs.Common.{List, ◌∷◌, [], Option, None, Some, false, true}
use Rattle.std.proofs.lemmas.Bool.{false≢true}
use Rattle.std.specs.Option.{is_some}
use Rattle.hd_catalogue.specs.Contents.{facts_of}
use Rattle.hd_clash.specs.Counting.{EachIsSmall}
use Rattle.hd_clash.specs.Records.{EachRecordIsKnown}
use Rattle.hd_rules.specs.declared.cells.Change.{Change}
use Rattle.hd_rules.specs.declared.questions.Finding.{Finding}
use Rattle.hd_rules.specs.Facts.{Facts}
use Rattle.hd_rules.specs.Record.{Record}
use Rattle.hd_records.specs.declared.slots.RecordHead.{RecordHead}
use Rattle.hd_records.specs.declared.slots.Slot.{Slot}
use Rattle.hd_records.specs.Laid.{AreLaid, record_in, records_in}
use Rattle.hd_records.specs.Slots.{shift_slot, records_there}
use Rattle.hd_records.specs.SlotsValue.{SlotsValue}
use Rattle.hd_records.proofs.Laid.{Stands, laid_mended, length_stored, mended, none_mended, nothing_mended}
use Rattle.hd_records.proofs.Laid.{stands_here, stored_mended}
use Rattle.hd_records.proofs.slots.Slots.mend.Given.{Over}
use Rattle.hd_records.proofs.slots.Slots.mend.Goals.{After-index-slot, else-slot-via-then-slot+else-is_some}
use Rattle.hd_records.proofs.slots.Slots.mend.Goals.{else-slot-via-else-slot}
use Rattle.hd_records.proofs.slots.Slots.mend.Goals as goal

small_in : (k : Facts) (o : Option RecordHead) (fs : List Finding) (cs : List Change) → is_some o ≡ true
    → EachRecordIsKnown k (records_there (record_in o fs cs ∷ [])) → EachIsSmall fs
small_in k None fs cs some known = absurd (false≢true some)
small_in k (Some x) fs cs some known = known.0.counts

none_in : (o : Option RecordHead) (fs : List Finding) (cs : List Change) → is_some o ≡ false
    → record_in o fs cs ≡ None
none_in None fs cs none = refl
none_in (Some x) fs cs none = absurd (false≢true (sym none))

pub index-slot-requires : goal.index-slot-requires
index-slot-requires g c =
    let there = subst (λ (v : SlotsValue). c.args.place < length v.items) (sym c.self.view_is)
    c.requires.there in
    omega (
      arith,
      there,
      c.self.inside.slots.ok.0,
      length_stored c.self.inside.slots.items c.self.inside.findings.items c.self.inside.changes.items,
    )

-- where the slot's values stand
at : (g : Over) (c : After-index-slot g)
    → Stands 0 0 c.args.place c.index-slot.result.now c.self.inside.slots.items
    c.self.inside.findings.items c.self.inside.changes.items
at g c =
    stands_here c.args.place c.index-slot.result.now c.self.inside.slots.items c.self.inside.findings.items
    c.self.inside.changes.items
    c.index-slot.ensures
    (subst (λ (v : SlotsValue). c.args.place < length v.items) (sym c.self.view_is) c.requires.there)
    c.self.invariant

pub mend_at-requires-clause-there : goal.mend_at-requires-clause-there
mend_at-requires-clause-there g c =
    let is = at g (goal.at.mend_at-requires-clause-there g c).After-index-slot in
    omega (arith, is.asked, is.findings, c.self.inside.findings.ok.0)

pub mend_at-requires-clause-small : goal.mend_at-requires-clause-small
mend_at-requires-clause-small g c =
    let is = at g (goal.at.mend_at-requires-clause-small g c).After-index-slot in
    let k : Facts = facts_of c.args.catalogue.now in
    let s : Slot = c.index-slot.result.now in
    let fs : List Finding = c.self.inside.findings.items in
    let cs : List Change = c.self.inside.changes.items in
    let known : EachRecordIsKnown k
    (records_there (get_or (records_in c.self.inside.slots.items fs cs) c.args.place None ∷ [])) =
    subst (λ (v : SlotsValue). EachRecordIsKnown k (records_there (get_or v.items c.args.place None ∷ [])))
    (sym c.self.view_is)
    c.requires.known in
    let first : is.before ≡ s.findings.first = omega (arith, is.asked) in
    subst (λ (n : ℕ). EachIsSmall (take s.findings.count (drop n fs))) first
    (small_in k s.kept (take s.findings.count (drop is.before fs)) (take s.changes.count (drop is.ahead cs))
    (sym c.is_some.ensures ∙ c.if-is_some.true)
    (subst (λ (o : Option Record). EachRecordIsKnown k (records_there (o ∷ []))) is.is known))

pub invariant_of-self : goal.invariant_of-self
invariant_of-self g c =
    let k : Facts = facts_of c.args.catalogue.now in
    let s : Slot = c.index-slot.result.now in
    let ss : List Slot = c.self.inside.slots.items in
    let fs : List Finding = c.self.inside.findings.items in
    let cs : List Change = c.self.inside.changes.items in
    let there = subst (λ (v : SlotsValue). c.args.place < length v.items) (sym c.self.view_is)
    c.requires.there in
    let same : get_or ss c.args.place s ≡ s = sym c.index-slot.ensures in
    let first : (get_or ss c.args.place s).findings.first
    ≡ s.findings.first = ap (λ (t : Slot). t.findings.first) same in
    subst (λ (xs : List Finding). AreLaid 0 0 ss xs cs) (sym c.mend_at.ensures.items)
    (subst (λ (t : Slot). AreLaid 0 0 ss (mended k c.args.changes.now s.findings.first t.findings.count fs)
    cs) same
    (laid_mended k c.args.changes.now 0 0 c.args.place s.findings.first s ss fs cs
    (omega (arith, there, length_stored ss fs cs)) c.self.invariant (omega (arith, first))))

pub returns-then-is_some-clause-items : goal.returns-then-is_some-clause-items
returns-then-is_some-clause-items g c =
    let k : Facts = facts_of c.args.catalogue.now in
    let s : Slot = c.index-slot.result.now in
    let ss : List Slot = c.self.inside.slots.items in
    let fs : List Finding = c.self.inside.findings.items in
    let cs : List Change = c.self.inside.changes.items in
    let there = subst (λ (v : SlotsValue). c.args.place < length v.items) (sym c.self.view_is)
    c.requires.there in
    let same : get_or ss c.args.place s ≡ s = sym c.index-slot.ensures in
    let first : (get_or ss c.args.place s).findings.first
    ≡ s.findings.first = ap (λ (t : Slot). t.findings.first) same in
    ap (λ (xs : List Finding). records_in ss xs cs) c.mend_at.ensures.items
    ∙ ap (λ (t : Slot). records_in ss (mended k c.args.changes.now s.findings.first t.findings.count fs) cs)
    c.index-slot.ensures
    ∙ stored_mended k c.args.changes.now 0 0 c.args.place s.findings.first s ss fs cs
    (omega (arith, there, length_stored ss fs cs)) c.self.invariant (omega (arith, first))
    ∙ ap (λ (v : SlotsValue). set v.items c.args.place
    (shift_slot k c.args.changes.now (get_or v.items c.args.place None)))
    c.self.view_is

pub returns-else-slot-clause-items : goal.returns-else-slot-clause-items
returns-else-slot-clause-items g c =
    let is = at g (goal.at.returns-else-slot-clause-items g c).After-index-slot in
    let k : Facts = facts_of c.args.catalogue.now in
    let s : Slot = c.index-slot.result.now in
    let rs : List (Option Record) =
    records_in c.self.inside.slots.items c.self.inside.findings.items c.self.inside.changes.items in
    let xs : List Finding = take s.findings.count (drop is.before c.self.inside.findings.items) in
    let ys : List Change = take s.changes.count (drop is.ahead c.self.inside.changes.items) in
    subst
    (λ (v : SlotsValue). v.items
    ≡ set v.items c.args.place (shift_slot k c.args.changes.now (get_or v.items c.args.place None)))
    c.self.view_is
    (elim c.else-slot.branch [
      | else-slot-via-then-slot+else-is_some w ↦ none_mended k c.args.changes.now c.args.place rs
          (is.is ∙ none_in s.kept xs ys (sym w.is_some.ensures ∙ w.if-is_some.false))
      | else-slot-via-else-slot w ↦ nothing_mended k c.args.changes.now c.args.place rs s.kept xs ys is.is
          (sym is.counts ∙ w.if-slot.false)
    ])
