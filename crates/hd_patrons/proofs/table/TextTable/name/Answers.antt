use Rattle.std.proofs.Common.{◌≡◌, ◌∙◌, ℕ, List, true, ap, sym, subst}
use Rattle.hd_patrons.specs.Stored.{Stored, place_of}
use Rattle.hd_patrons.specs.Texts.{is_text}
use Rattle.hd_patrons.specs.declared.table.Place.{Place}
use Rattle.hd_patrons.proofs.StoredLemmas.{part_lent, proper_at}
use Rattle.hd_patrons.proofs.table.TextTable.name.Goals as goal

pub returns-clause-text : goal.returns-clause-text
returns-clause-text g c =
    let texts : List ℕ = c.self.inside.texts.items in
    let place : Place = c.in_ok-place.place in
    let proper =
    proper_at
    (record { texts = texts; places = c.self.inside.places.items }) c.args.patron place c.self.invariant
    (ap (λ (s : Stored). place_of s c.args.patron) c.self.view_is ∙ sym c.in_ok-place.ensures) in
    subst (λ (t : List ℕ). is_text t ≡ true)
    (sym (part_lent texts c.as_slice-texts.result.now place.start c.from.result c.from-2.result
    place.password place.name
    c.as_slice-texts.ensures.value c.from.ensures c.from-2.ensures))
    proper.name
