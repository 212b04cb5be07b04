use Rattle.std.proofs.Common.{◌≡◌, length}
use Rattle.hd_field.specs.Streams.{without_feeds}
use Rattle.hd_field.proofs.feeds.without_feeds.Given as goal

abbrev pub invariant-loop-rest : goal.invariant-loop-rest
invariant-loop-rest l = without_feeds l.rest ≡ without_feeds l.bytes

abbrev pub decreases-loop-rest : goal.decreases-loop-rest
decreases-loop-rest l = length l.rest
