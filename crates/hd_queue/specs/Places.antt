-- Where a stamp stands in holds that stand in chunks.
use Rattle.std.specs.Prelude.{◌≡◌, ℕ, List}
use Rattle.hd_blocks.specs.Blocks.{all_items}
use Rattle.hd_chunks.specs.Chunks.{IsIn, chunk_at, items_before}
use Rattle.hd_chunks.specs.declared.place.Place.{Place}
use Rattle.hd_rules.specs.declared.holds.Hold.{Hold}
use Rattle.hd_queue.specs.Holds.{count_before, has_stamp}

-- As many holds stand before the place as have a smaller stamp, in all and in its chunk, and the hold of the
-- stamp is in that chunk, if there is one.
pub record IsPlaceOf (chunks : List (List Hold)) (stamp : ℕ) (place : Place) : Type 0 where
  pub stands : IsIn chunks place
  pub count : items_before chunks place ≡ count_before (all_items chunks) stamp
  pub own : place.offset ≡ count_before (chunk_at chunks place.chunk) stamp
  pub found : has_stamp (chunk_at chunks place.chunk) stamp ≡ has_stamp (all_items chunks) stamp
