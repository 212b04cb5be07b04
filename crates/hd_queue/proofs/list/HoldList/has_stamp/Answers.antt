use Rattle.std.proofs.Common.{arith}
use Rattle.std.proofs.lemmas.Grind.{common_steps}
use Rattle.hd_queue.proofs.ChunksLemmas.{stamp_in_chunk}
use Rattle.hd_queue.proofs.list.HoldList.has_stamp.Goals as goal

pub returns-in-Some : goal.returns-in-Some
returns-in-Some g c =
    grind (
      arith,
      common_steps,
      stamp_in_chunk c.self.inside.list.chunks c.args.stamp c.place_of-at.result c.place_of-at.ensures
          c.self.invariant.0,
      c.get.ensures.chunk,
    )

pub returns-in-None : goal.returns-in-None
returns-in-None g c =
    grind (
      arith,
      common_steps,
      stamp_in_chunk c.self.inside.list.chunks c.args.stamp c.place_of-at.result c.place_of-at.ensures
          c.self.invariant.0,
      c.get.ensures.chunk,
    )
