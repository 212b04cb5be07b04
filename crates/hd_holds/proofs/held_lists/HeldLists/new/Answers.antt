use Rattle.std.specs.Prelude.{◌%◌, length, map}
use Rattle.hd_holds.proofs.Listing.{empty_has_none, none_listed, titles_of}
use Rattle.hd_holds.specs.HeldListsValue.{list_of}
use Rattle.hd_holds.proofs.held_lists.HeldLists.new.Goals as goal

pub returns : goal.returns
returns g c =
    λ held. empty_has_none _ held
    (none_listed c.loop.lists.items c.loop.invariant.empty
    (held.patron % length (titles_of c.loop.lists.items)))
