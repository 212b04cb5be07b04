use Rattle.hd_desk.proofs.Telling.{give-shelf, give-transit}
use Rattle.hd_desk.proofs.desk.Desk.put_row.Goals as goal

pub give-requires : goal.give-requires
give-requires g c =
    give-shelf c.rows_tell_a_sound_desk.ensures _ _ _ _ _ _ _ _ c.in-HoldShelf.is c.requires.known
    c.requires.bounds c.requires.sound
    c.requires.stands c.waiting-hold.ensures.is c.waiting-hold.ensures.known c.waiting-hold.ensures.title

pub give-requires-in-HoldTransit : goal.give-requires-in-HoldTransit
give-requires-in-HoldTransit g c =
    give-transit c.rows_tell_a_sound_desk.ensures _ _ _ _ _ _ _ _ c.in-HoldTransit.is c.requires.known
    c.requires.sound
    c.requires.stands c.waiting-hold-in-HoldTransit.ensures.is c.waiting-hold-in-HoldTransit.ensures.known
    c.waiting-hold-in-HoldTransit.ensures.title
