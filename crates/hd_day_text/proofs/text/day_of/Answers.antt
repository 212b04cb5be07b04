use Rattle.hd_day_text.proofs.Reading.{day_shown, no_day}
use Rattle.hd_day_text.proofs.text.day_of.Goals as goal

pub returns-in-Ok-clause-said : goal.returns-in-Ok-clause-said
returns-in-Ok-clause-said c =
    day_shown c.prints_show_their_stamp.ensures.own c.args.text.now c.midnight-moment.result
    c.unwrap-offset.result c.in-Ok.stamp c.day.result c.midnight-moment.ensures c.requires.size
    c.requires.first
    c.requires.second c.in-Ok.ensures.stamp c.day.ensures

pub returns-in-Err-clause-none : goal.returns-in-Err-clause-none
returns-in-Err-clause-none c =
    no_day c.prints_show_their_stamp.ensures.shown c.texts_show_one_stamp.ensures.no_fault c.args.text.now
    c.midnight-moment.result c.unwrap-offset.result c.in-Err.field-0 c.midnight-moment.ensures
    c.in-Err.ensures.fault
