use Rattle.hd_rules.proofs.Carried.{carried_is_sound, carried_is_known}
use Rattle.hd_rules.proofs.laws.a_carried_desk_is_sound.Goals as goal

pub returns : goal.returns
returns c k j r n d e names sound range over =
    (carried_is_sound k j r n d e names sound over, carried_is_known k j r d e range names over)
