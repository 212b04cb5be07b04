use Rattle.std.proofs.Common.{◌≡◌, ◌∙◌, ap, sym, subst, ℕ, List, ◌∷◌, length, Option}
use Rattle.hd_catalogue.specs.Contents.{facts_of}
use Rattle.hd_clash.specs.Records.{EachRecordIsKnown}
use Rattle.hd_index.specs.Rising.{IsRising}
use Rattle.hd_index.specs.Union.{union}
use Rattle.hd_rules.specs.Record.{Record}
use Rattle.hd_records.specs.Looks.{after_looks}
use Rattle.hd_records.specs.Slots.{records_at, shift_at}
use Rattle.hd_records.proofs.Shifting.{Mends, known_first, mends, shift_nothing}
use Rattle.hd_records.proofs.walking.mend_each.Goals as goal

pub mend_one-requires-clause-known : goal.mend_one-requires-clause-known
mend_one-requires-clause-known g c =
    let k = facts_of c.args.catalogue.now in
    let slots = c.loop-number.slots.items in
    known_first k c.in-Some.number (union c.next.new.self) slots
    (subst (λ (xs : List ℕ). EachRecordIsKnown k (records_at xs slots)) c.in-Some.ensures.steps
    c.loop-number.invariant.known)

pub loop-number-preserved : goal.loop-number-preserved
loop-number-preserved g c =
    let k = facts_of c.args.catalogue.now in
    let slots = c.loop-number.slots.items in
    let ns : List ℕ = union c.next.new.self in
    let n : ℕ = c.in-Some.number in
    let first : union c.loop-number.number-iterator ≡ n ∷ ns = c.in-Some.ensures.steps in
    let at : Mends k c.args.changes.now n ns slots =
    mends k c.args.changes.now n ns slots (subst IsRising first c.loop-number.invariant.rising)
    (subst (λ (xs : List ℕ). EachRecordIsKnown k (records_at xs slots)) first
    c.loop-number.invariant.known) in
    record {
      rising = (subst IsRising first c.loop-number.invariant.rising).1;
      known =
          subst (λ (xs : List (Option Record)). EachRecordIsKnown k (records_at ns xs))
          (sym c.mend_one.ensures.slots) at.later;
      rest =
          ap (shift_at k c.args.changes.now ns 0) c.mend_one.ensures.slots ∙ at.rest
          ∙ ap (λ (xs : List ℕ). shift_at k c.args.changes.now xs 0 slots) (sym first)
          ∙ c.loop-number.invariant.rest;
      room = c.mend_one.ensures.room ∙ c.loop-number.invariant.room;
      work =
          ap (after_looks (length ns)) c.add.ensures
          ∙ ap (λ (xs : List ℕ). after_looks (length xs) c.loop-number.meter) (sym first)
          ∙ c.loop-number.invariant.work;
    }

pub returns-clause-slots : goal.returns-clause-slots
returns-clause-slots g c =
    let k = facts_of c.args.catalogue.now in
    let slots = c.loop-number.slots.items in
    sym (ap (λ (xs : List ℕ). shift_at k c.args.changes.now xs 0 slots) c.in-None.ensures.steps.0
    ∙ shift_nothing k c.args.changes.now 0 slots)
    ∙ c.loop-number.invariant.rest
