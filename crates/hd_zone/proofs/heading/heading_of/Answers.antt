use Rattle.std.proofs.Common.{◌∷◌, [], ap, sym}
use Rattle.std.proofs.lemmas.Bool.{not-false}
use Rattle.std.proofs.lemmas.Slice.Eq.{bytes_eq-Decides}
use Rattle.hd_catalogue.specs.Text.{as_four}
use Rattle.hd_zone.proofs.MovedLemmas.{five_in, trans}
use Rattle.hd_zone.proofs.heading.heading_of.Goals as goal

pub returns : goal.returns
returns c =
    let whole = five_in c.of-values.result c.in_ok-take.field-0.now c.in_ok-version.version.now
    c.in_ok-version.institution.now c.in_ok-version.offset.now c.in_ok-version.limit.now
    c.in_ok-take.ensures.value (trans c.in_ok-version.ensures (ap as_four c.in_ok-take.ensures.rest)) in
    let letter = (bytes_eq-Decides c.in_ok-take.field-0.now c.as_slice.result.now).0
    (not-false _ (trans (sym c.ne.ensures) c.if-ne.false)) in
    trans (sym c.of-values.ensures)
    (trans whole
    (ap (λ k. k ∷ c.in_ok-version.version.now ∷ c.in_ok-version.institution.now ∷ c.in_ok-version.offset.now
    ∷ c.in_ok-version.limit.now ∷ []) (trans letter c.as_slice.ensures)))
