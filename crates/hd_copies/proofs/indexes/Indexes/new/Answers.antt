use Rattle.std.proofs.Common.{◌∙◌}
use Rattle.hd_catalogue.specs.Contents.{facts_of}
use Rattle.hd_copies.proofs.Opening.{loans-home, transits-home}
use Rattle.hd_copies.proofs.indexes.Indexes.new.Goals as goal

pub returns : goal.returns
returns g c =
    let k = facts_of c.args.catalogue.now in
    record {
      loans = loans-home k c.in_ok-new.field-0 c.in_ok-new.ensures.loans
          (c.in_ok-new.ensures.copies ∙ c.copies-copies.ensures.count)
          (c.in_ok-new.ensures.patrons ∙ c.patrons.ensures.count);
      transits =
          transits-home k c.in_ok-new-2.field-0 c.in_ok-new-2.ensures.transits
          (c.in_ok-new-2.ensures.copies ∙ c.copies-copies.ensures.count);
      shelves = c.in_ok-empty_shelves.ensures;
      stock = c.in_ok-full_stock.ensures;
    }
