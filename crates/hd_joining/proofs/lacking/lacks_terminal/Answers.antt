use Rattle.std.proofs.Common.{◌≡◌, length, sym, arith}
use Rattle.hd_catalogue.specs.Contents.{facts_of}
use Rattle.hd_joining.proofs.ArrivalLemmas.{no_number}
use Rattle.hd_joining.proofs.lacking.lacks_terminal.Goals as goal

pub returns : goal.returns
unfolding facts_of
returns g c =
    let count : c.terminals-number-end.result ≡ length c.args.old.now.terminals =
    c.terminals-number-end.ensures.count in
    sym (no_number c.args.old.now.terminals c.args.name.now
    (λ n below. c.loop-number.invariant n (omega (arith, below, count, c.loop-number-test.false))))
