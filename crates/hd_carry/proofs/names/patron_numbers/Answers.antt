use Rattle.std.proofs.Common.{◌≡◌, length, arith}
use Rattle.hd_catalogue.specs.Contents.{facts_of}
use Rattle.hd_carry.proofs.Tables.{distinct_all}
use Rattle.hd_carry.proofs.names.patron_numbers.Goals as goal

pub returns-clause-distinct : goal.returns-clause-distinct
unfolding facts_of
returns-clause-distinct g c =
    let many : c.patrons-patrons.result ≡ length c.args.old.now.patrons = c.patrons-patrons.ensures.count in
    distinct_all c.args.old.now.patrons (λ n l. c.loop-number.invariant.found n (omega arith))
