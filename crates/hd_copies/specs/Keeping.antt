-- What stays true of copies.
use Rattle.std.specs.Prelude.{List, slice_get}
use Rattle.hd_rules.specs.declared.copies.CopyState.{CopyState}
use Rattle.hd_rules.specs.Facts.{Facts}
use Rattle.hd_copies.specs.IndexesValue.{IndexesValue}
use Rattle.hd_copies.specs.Standing.{AreStates}
use Rattle.hd_copies.specs.Indexing.{IsIndexed}

-- the states of the catalogue's copies, with their indexes
pub record AreKept (k : Facts) (states : List CopyState) (indexes : IndexesValue) : Type 0 where
  pub fit : AreStates k states
  pub indexed : IsIndexed k (slice_get states) indexes
