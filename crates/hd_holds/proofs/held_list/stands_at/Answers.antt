use Rattle.std.proofs.Common.{sym}
use Rattle.hd_holds.proofs.Rising.{begins, drop_read}
use Rattle.hd_holds.proofs.held_list.stands_at.Goals as goal

pub returns-in-Some : goal.returns-in-Some
returns-in-Some c =
    let there = c.in-Some.ensures.lookup in
    begins c.is_before.result c.args.held.now c.in-Some.there.now c.args.titles.now c.args.at
    c.requires.rising c.requires.after
    (drop_read c.args.titles.now c.args.at c.in-Some.there.now there.3.0 there.1) (sym c.is_before.ensures)
