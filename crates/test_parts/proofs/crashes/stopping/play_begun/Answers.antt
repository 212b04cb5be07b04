use Rattle.std.proofs.Common.{[]}
use Rattle.test_parts.proofs.crashes.stopping.play_begun.Goals as goal

pub play_marked-requires : goal.play_marked-requires
play_marked-requires g c clean =
    let held = c.requires (c.in-Ok.ensures.clean clean) in
    (held.0, c.in-Ok.ensures.same clean held.0 [] held.1)
