use Rattle.std.proofs.Common.{arith, ◌≡◌, ◌∙◌, sym, ℕ, ◌-◌, suc, ◌<◌, ◌+◌, length}
use Rattle.hd_catalogue.specs.Contents.{facts_of}
use Rattle.hd_records.proofs.Shifting.{shift_one, shift_past}
use Rattle.hd_records.proofs.walking.mend_one.Goals as goal

pub returns-then-place-len-clause-slots : goal.returns-then-place-len-clause-slots
returns-then-place-len-clause-slots g c =
    let k = facts_of c.args.catalogue.now in
    let slots = c.args.slots.now.items in
    let place : ℕ = c.args.number - 1 in
    let below : place < length slots = omega arith in
    c.mend.ensures.items
    ∙ sym (shift_one k c.args.changes.now c.args.number 0 place slots (omega arith) below)

pub returns-else-place-len-clause-slots : goal.returns-else-place-len-clause-slots
returns-else-place-len-clause-slots g c =
    let k = facts_of c.args.catalogue.now in
    let slots = c.args.slots.now.items in
    sym (shift_past k c.args.changes.now c.args.number 0 slots
    (λ (m : ℕ) (below : m < length slots) (is : c.args.number ≡ suc 0 + m). omega arith))

pub returns-else-number-gt0-clause-slots : goal.returns-else-number-gt0-clause-slots
returns-else-number-gt0-clause-slots g c =
    let k = facts_of c.args.catalogue.now in
    let slots = c.args.slots.now.items in
    sym (shift_past k c.args.changes.now c.args.number 0 slots
    (λ (m : ℕ) (below : m < length slots) (is : c.args.number ≡ suc 0 + m). omega arith))
