use Rattle.std.proofs.Common.{◌∙◌, ap, sym}
use Rattle.hd_patrons.specs.Stored.{Stored, place_of}
use Rattle.hd_patrons.proofs.StoredLemmas.{proper_at}
use Rattle.hd_patrons.proofs.table.TextTable.language.Goals as goal

pub returns-clause-digits : goal.returns-clause-digits
returns-clause-digits g c =
    (proper_at (record { texts = c.self.inside.texts.items; places = c.self.inside.places.items })
    c.args.patron c.in_ok-place.field-0
    c.self.invariant
    (ap (λ (s : Stored). place_of s c.args.patron) c.self.view_is ∙ sym c.in_ok-place.ensures)).language
