use Rattle.std.proofs.Common.{◌≡◌, ◌∙◌, ◌+◌, Ok, Err, add-one, ap, arith, drop, nat_lt, sym, subst}
use Rattle.std.proofs.lemmas.List.{take_rest}
use Rattle.std.proofs.lemmas.List.Sorted.{searched}
use Rattle.hd_index.specs.Rising.{IsRising, above}
use Rattle.hd_index.specs.RowValue.{RowValue}
use Rattle.hd_index.proofs.RisingLemmas.{above_at, above_from, no_fall, rising_filter}
use Rattle.hd_index.proofs.row.Row.after.Goals as goal

pub returns-in-Ok-clause-places : goal.returns-in-Ok-clause-places
returns-in-Ok-clause-places g c =
    let up : IsRising c.deref.result.now = subst IsRising (sym c.deref.ensures.value) c.self.invariant in
    let found = searched c.deref.result.now c.args.place (Ok c.in-Ok.at) c.in-Ok.ensures.position
    (no_fall c.deref.result.now up) in
    let rest : above c.args.place c.deref.result.now ≡ drop (c.in-Ok.at + 1) c.deref.result.now =
    rw add-one (above_at c.args.place c.deref.result.now c.in-Ok.at up found.0 found.1) in
    let is = c.deref.ensures.value ∙ ap (λ (r : RowValue). r.places) c.self.view_is in
    let same : c.deref-in-Ok.result.now ≡ c.deref.result.now =
    c.deref-in-Ok.ensures.value ∙ sym c.deref.ensures.value in
    rw same (take_rest c.deref.result.now (c.in-Ok.at + 1) ∙ sym rest ∙ ap (above c.args.place) is)

pub returns-in-Ok-clause-rising : goal.returns-in-Ok-clause-rising
returns-in-Ok-clause-rising g c =
    let up = subst (λ (r : RowValue). IsRising r.places) c.self.view_is c.self.invariant in
    subst IsRising (sym (returns-in-Ok-clause-places g c))
    (rising_filter (λ m. nat_lt c.args.place m) c.args.self.now.places up)

pub returns-in-Err-clause-places : goal.returns-in-Err-clause-places
returns-in-Err-clause-places g c =
    let up : IsRising c.deref.result.now = subst IsRising (sym c.deref.ensures.value) c.self.invariant in
    let found = searched c.deref.result.now c.args.place (Err c.in-Err.at) c.in-Err.ensures.position
    (no_fall c.deref.result.now up) in
    let rest = above_from c.args.place c.deref.result.now c.in-Err.at
    (λ k less within. let fact = found.1 k less in omega arith) found.2 in
    let is = c.deref.ensures.value ∙ ap (λ (r : RowValue). r.places) c.self.view_is in
    let same : c.deref-in-Err.result.now ≡ c.deref.result.now =
    c.deref-in-Err.ensures.value ∙ sym c.deref.ensures.value in
    rw same (take_rest c.deref.result.now c.in-Err.at ∙ sym rest ∙ ap (above c.args.place) is)

pub returns-in-Err-clause-rising : goal.returns-in-Err-clause-rising
returns-in-Err-clause-rising g c =
    let up = subst (λ (r : RowValue). IsRising r.places) c.self.view_is c.self.invariant in
    subst IsRising (sym (returns-in-Err-clause-places g c))
    (rising_filter (λ m. nat_lt c.args.place m) c.args.self.now.places up)
