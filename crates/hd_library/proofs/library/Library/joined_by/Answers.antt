use Rattle.std.proofs.Common.{refl, ◌∙◌}
use Rattle.hd_catalogue.specs.Contents.{facts_of}
use Rattle.hd_library.proofs.library.Library.joined_by.Goals as goal

pub returns : goal.returns
unfolding facts_of
returns c = record {
  grown = c.in_ok-grown.grown;
  is = c.in_ok-grown.ensures;
  catalogue = c.in_ok-with_opening.ensures.opens
      ∙ rw (
        c.in_ok-rows-2.ensures,
        c.in_ok-rows.ensures.items,
        c.opening.ensures.rows,
        c.copies-copies.ensures.count,
        c.last_before-last.ensures.last,
      ) refl;
  digest = refl;
}
