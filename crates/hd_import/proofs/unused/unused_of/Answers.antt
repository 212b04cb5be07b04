use Rattle.std.proofs.Common.{◌++◌, ◌∷◌, [], ap, sym, ◌∙◌, map}
use Rattle.std.specs.Prelude.{slice_index_or}
use Rattle.std.specs.List.{filter}
use Rattle.csv.specs.Records.{fields_of}
use Rattle.hd_import.specs.Unused.{is_unused}
use Rattle.hd_import.proofs.UnusedLemmas.{unused_more}
use Rattle.hd_import.proofs.unused.unused_of.Goals as goal

pub loop-place-preserved : goal.loop-place-preserved
loop-place-preserved c =
    let headings = fields_of c.args.headings.now in
    let place = c.loop-place.place in
    c.in_ok-push_unused.ensures
    ∙ ap (λ so. so ++ map (λ p. slice_index_or headings p [])
    (filter (is_unused c.args.sheet headings) (place ∷ [])))
    c.loop-place.invariant
    ∙ sym (unused_more c.args.sheet headings place)
