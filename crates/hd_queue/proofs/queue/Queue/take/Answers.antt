use Rattle.std.proofs.Common.{sym}
use Rattle.hd_queue.proofs.HoldsLemmas.{without-absent}
use Rattle.hd_queue.proofs.WaitingLemmas.{hold_of-patron, hold_of-own}
use Rattle.hd_queue.proofs.queue.Queue.take.Goals as goal

pub returns-in_err-hold-clause-holds : goal.returns-in_err-hold-clause-holds
returns-in_err-hold-clause-holds g c = sym (without-absent _ _ (sym c.in_err-hold.ensures))

pub remove-requires : goal.remove-requires
remove-requires g c = hold_of-own _ c.args.patron c.in_ok-hold.hold (sym c.in_ok-hold.ensures)

pub returns-clause-holds : goal.returns-clause-holds
returns-clause-holds g c =
    rw (← hold_of-patron _ c.args.patron c.in_ok-hold.hold (sym c.in_ok-hold.ensures)) c.remove.ensures.holds
