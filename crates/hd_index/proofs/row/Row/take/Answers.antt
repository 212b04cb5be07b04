use Rattle.std.proofs.Common.{◌≡◌, ◌==◌, ◌∙◌, Ok, Err, ap, not, sym, subst}
use Rattle.std.proofs.lemmas.List.Sorted.{searched}
use Rattle.std.specs.List.{remove}
use Rattle.hd_index.specs.Rising.{IsRising, without}
use Rattle.hd_index.specs.RowValue.{RowValue}
use Rattle.hd_index.proofs.RisingLemmas.{no_fall, rising_filter, without_at, without_none}
use Rattle.hd_index.proofs.row.Row.take.Goals as goal

pub invariant_of-self : goal.invariant_of-self
invariant_of-self g c =
    let ns = c.self.inside.places.items in
    let up : IsRising c.deref.result.now = subst IsRising (sym c.deref.ensures.value) c.self.invariant in
    let found = searched c.deref.result.now c.args.place (Ok c.in-Ok.at) c.in-Ok.ensures.position
    (no_fall c.deref.result.now up) in
    let gone : without c.args.place ns ≡ remove ns c.in-Ok.at =
    rw (← c.deref.ensures.value) (without_at c.args.place c.deref.result.now c.in-Ok.at up found.0 found.1) in
    rw (c.remove.ensures.items, ← gone) (rising_filter (λ m. not (m == c.args.place)) ns c.self.invariant)

pub returns-in-Ok-clause-places : goal.returns-in-Ok-clause-places
returns-in-Ok-clause-places g c =
    let ns = c.self.inside.places.items in
    let up : IsRising c.deref.result.now = subst IsRising (sym c.deref.ensures.value) c.self.invariant in
    let found = searched c.deref.result.now c.args.place (Ok c.in-Ok.at) c.in-Ok.ensures.position
    (no_fall c.deref.result.now up) in
    let gone : without c.args.place ns ≡ remove ns c.in-Ok.at =
    rw (← c.deref.ensures.value) (without_at c.args.place c.deref.result.now c.in-Ok.at up found.0 found.1) in
    rw (c.remove.ensures.items, ← gone) (ap (λ (r : RowValue). without c.args.place r.places) c.self.view_is)

pub returns-in_default-clause-places : goal.returns-in_default-clause-places
returns-in_default-clause-places g c =
    let up : IsRising c.deref.result.now = subst IsRising (sym c.deref.ensures.value) c.self.invariant in
    let end = c.in_default.field-0 in
    let found = searched c.deref.result.now c.args.place (Err end) c.in_default.ensures.position
    (no_fall c.deref.result.now up) in
    let same = without_none c.args.place c.deref.result.now end found.1 found.2 in
    let is = c.deref.ensures.value ∙ ap (λ (r : RowValue). r.places) c.self.view_is in
    sym (subst (λ ns. without c.args.place ns ≡ ns) is same)
