use Rattle.hd_day_text.proofs.Reading.{one_day}
use Rattle.hd_day_text.proofs.laws.texts_are_of_one_day.Goals as goal

pub returns : goal.returns
returns c = one_day c.prints_show_their_stamp.ensures.shown c.texts_show_one_stamp.ensures.one
