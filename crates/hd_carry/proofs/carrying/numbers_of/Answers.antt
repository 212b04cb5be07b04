use Rattle.std.proofs.Common.{◌≡◌}
use Rattle.hd_catalogue.specs.Contents.{facts_of}
use Rattle.hd_carry.specs.ByNames.{HasDistinctNames, by_names}
use Rattle.hd_carry.specs.Numbers.{AreCopiesOf, NumberTables, renumbering}
use Rattle.hd_carry.proofs.Whole.{copies_of_names, when_ok}
use Rattle.hd_carry.proofs.carrying.numbers_of.Goals as goal

pub returns-clause-copies : goal.returns-clause-copies
returns-clause-copies g c =
    let old = c.deref.result.now in
    let new = c.args.new.now in
    when_ok c.new.result (λ (tables : NumberTables). renumbering tables ≡ by_names old new)
    (HasDistinctNames old)
    (λ (tables : NumberTables). AreCopiesOf (facts_of new) (renumbering tables))
    c.new.ensures.numbers c.new.ensures.distinct
    (λ tables names distinct.
    copies_of_names old new (renumbering tables) c.names_keep_to_themselves.ensures distinct names)
