use Rattle.std.proofs.Common.{◌≡◌, length, arith}
use Rattle.hd_catalogue.specs.Contents.{facts_of}
use Rattle.hd_carry.proofs.Tables.{distinct_all}
use Rattle.hd_carry.proofs.names.copy_numbers.Goals as goal

pub returns-clause-distinct : goal.returns-clause-distinct
unfolding facts_of
returns-clause-distinct g c =
    let many : c.copies-copies.result ≡ length c.args.old.now.copies = c.copies-copies.ensures.count in
    distinct_all c.args.old.now.copies (λ n l. c.loop-number.invariant.found n (omega arith))
