use Rattle.std.proofs.Common.{Err, ap, inl, inr, refl}
use Rattle.hd_journal_file.specs.declared.open_fault.OpenFault.TheVariants.{Memory}
use Rattle.hd_journal_file.proofs.Results.{is_false, passes}
use Rattle.hd_journal_file.proofs.opening.open_over.Goals as goal

pub durable-requires-clause-found : goal.durable-requires-clause-found
durable-requires-clause-found g c clean old head rows found =
    c.in_ok-take_again.ensures.taken clean old head rows
    (c.requires.seen (c.take_again.ensures.clean clean) old head rows found)

pub returns-clause-taken : goal.returns-clause-taken
returns-clause-taken g c =
    let kept = c.in_ok-durable.ensures in record {
      clean = λ clean. c.take_again.ensures.clean (rw kept.file.0 at clean);
      taken = λ clean old head rows holds.
          rw (kept.book.0, kept.book.1, kept.file.0)
          (c.in_ok-take_again.ensures.taken (rw kept.file.0 at clean) (rw kept.file.1 at old) head rows holds);
      found = kept.found;
    }

pub returns-in_err-take_again-clause-new : goal.returns-in_err-take_again-clause-new
returns-in_err-take_again-clause-new g c new =
    let done = (c.in_err-take_again.ensures.begun new).0 in absurd (cc)

pub returns-in_err-take_again-clause-why : goal.returns-in_err-take_again-clause-why
returns-in_err-take_again-clause-why g c =
    let e = c.in_err-take_again.ensures in
    let found = is_false c.args.is_new (λ new. let done = (e.begun new).0 in cc) in
    passes c.from_residual.result c.in_err-take_again.field-0.0 _ c.from_residual.ensures.1 (inl (
      found,
      record { other = λ is. e.other (ap Err is); after = c.take_again.new.conn; cause = e.why },
    ))

pub returns-in_err-durable-clause-why : goal.returns-in_err-durable-clause-why
returns-in_err-durable-clause-why g c =
    passes c.from_residual-in_err-durable.result Memory _ c.from_residual-in_err-durable.ensures.1 (inr refl)
