use Rattle.std.proofs.Common.{Err, ap}
use Rattle.hd_journal_file.proofs.Results.{is_false, passes}
use Rattle.hd_journal_file.proofs.opening.taken_again.Goals as goal

pub returns-in_err-take_again-clause-why : goal.returns-in_err-take_again-clause-why
returns-in_err-take_again-clause-why g c =
    let e = c.in_err-take_again.ensures in
    let found = is_false c.args.is_new (λ new. let done = (e.begun new).0 in cc) in
    passes c.from_residual.result c.in_err-take_again.field-0.0 _ c.from_residual.ensures.1 (
      found,
      record { other = λ is. e.other (ap Err is); after = c.take_again.new.conn; cause = e.why },
    )
