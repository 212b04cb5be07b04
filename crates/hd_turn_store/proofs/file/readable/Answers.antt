use Rattle.std.proofs.Common.{Ok, ap}
use Rattle.std.proofs.lemmas.Result.{err_from_is_err_and}
use Rattle.hd_turn_store.proofs.file.readable.Goals as goal

pub returns-clause-ok : goal.returns-clause-ok
returns-clause-ok g c =
    let e = c.in_ok-is_new.ensures in record {
      clean = e.reads.clean;
      blank = e.blank;
      begun = e.begun;
      journal = e.journal;
      same = λ clean old. e.reads.same (ap Ok old) clean;
      known = e.known;
    }

pub returns-in_err-is_new-clause-why : goal.returns-in_err-is_new-clause-why
returns-in_err-is_new-clause-why g c =
    let p = err_from_is_err_and c.from_residual.result c.from_residual.ensures.1 in
    rw (p.1, p.2) (c.begin_or_check.new.conn, c.in_err-is_new.ensures.why)
