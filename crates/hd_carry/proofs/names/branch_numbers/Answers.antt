use Rattle.std.proofs.Common.{◌≡◌, length, arith}
use Rattle.hd_catalogue.specs.Contents.{facts_of}
use Rattle.hd_carry.proofs.Tables.{distinct_all}
use Rattle.hd_carry.proofs.names.branch_numbers.Goals as goal

pub returns-clause-distinct : goal.returns-clause-distinct
unfolding facts_of
returns-clause-distinct g c =
    let many : c.branches-branches.result
    ≡ length c.args.old.now.branches = c.branches-branches.ensures.count in
    distinct_all c.args.old.now.branches (λ n l. c.loop-number.invariant.found n (omega arith))
