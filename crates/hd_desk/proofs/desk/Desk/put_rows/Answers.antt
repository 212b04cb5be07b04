use Rattle.hd_desk.proofs.Telling.{putting-more}
use Rattle.hd_desk.proofs.desk.Desk.put_rows.Goals as goal

pub loop-at-preserved : goal.loop-at-preserved
loop-at-preserved g c =
    putting-more c.rows_tell_a_sound_desk.ensures _ _ _ _ _ _ c.loop-at.invariant c.loop-at-test.true
    c.index-rows-at.is
    c.in_default.ensures.ok c.in_ok-put_row.ensures.contents c.in_ok-put_row.ensures.desk
