use Rattle.hd_carry.proofs.Next.{begins}
use Rattle.hd_carry.proofs.laws.the_next_journal_begins.Goals as goal

pub returns : goal.returns
returns c old new last d rows range over =
    begins old new last d rows c.rows_tell_a_sound_desk.ensures c.known_rows_tell_a_known_desk.ensures range
    over
