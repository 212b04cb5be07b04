use Rattle.std.proofs.Common.{arith}
use Rattle.std.proofs.lemmas.List.Elements.{recursion_from_All}
use Rattle.hd_exchange.specs.PatronInformation.{HasBytes}
use Rattle.hd_exchange.proofs.Listing.{same_items}
use Rattle.hd_exchange.proofs.laws.looks_have_room_for_a_reply.Goals as goal

pub returns : goal.returns
returns c =
    λ code room names two few all.
    same_items code two 512 room names (omega (arith, few)) (recursion_from_All HasBytes names all)
