use Rattle.std.proofs.Common.{sym}
use Rattle.hd_opening.proofs.DayLemmas.{day_shown, no_day}
use Rattle.hd_opening.proofs.days.day_of.Goals as goal

pub returns-in-Ok : goal.returns-in-Ok
returns-in-Ok c =
    sym (day_shown c.prints_show_their_stamp.ensures.own c.args.text.now c.midnight-moment.result
    c.unwrap-offset.result c.in-Ok.stamp
    c.day.result c.midnight-moment.ensures c.requires c.in-Ok.ensures.stamp c.day.ensures)

pub returns-in-Err : goal.returns-in-Err
returns-in-Err c =
    sym (no_day c.args.text.now c.midnight-moment.result c.unwrap-offset.result c.in-Err.field-0
    c.midnight-moment.ensures c.requires
    c.in-Err.ensures.fault)
