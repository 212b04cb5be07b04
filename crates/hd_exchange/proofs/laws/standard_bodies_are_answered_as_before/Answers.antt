use Rattle.hd_exchange.proofs.Standard.{before, since}
use Rattle.hd_exchange.proofs.laws.standard_bodies_are_answered_as_before.Goals as goal

pub returns : goal.returns
returns c =
    λ k seat now login line body says text did next. (
      before k seat now login line body says text did next,
      since k seat now login line body says text did
          next,
    )
