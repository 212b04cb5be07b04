use Rattle.std.proofs.Common.{refl}
use Rattle.std.specs.Fmt.{digits}
use Rattle.hd_turn_store.specs.Rows.{kept}
use Rattle.hd_turn_store.proofs.Commits.{adds, commits}
use Rattle.hd_turn_store.proofs.storing.append.Goals as goal

pub returns-in-Ok-clause-adds : goal.returns-in-Ok-clause-adds
unfolding digits
returns-in-Ok-clause-adds g c clean head ks holds =
    commits (adds (kept c.args.row.now) head ks) _ holds _ _ (λ done. refl)
    (λ db. g.met.S.Store.settled c.execute.new.self.store db) clean
    (rw c.cells-values.ensures at (c.in-Ok.ensures.runs clean))
    (rw c.cells-values.ensures at c.in-Ok.ensures.survives)

pub returns-in-Err-clause-adds : goal.returns-in-Err-clause-adds
unfolding digits
returns-in-Err-clause-adds g c clean head ks holds =
    commits (adds (kept c.args.row.now) head ks) _ holds _ _ (λ done. done)
    (λ db. g.met.S.Store.settled c.execute.new.self.store db) clean
    (rw c.cells-values.ensures at (c.in-Err.ensures.runs clean))
    (rw c.cells-values.ensures at c.in-Err.ensures.survives)

pub returns-in-Err-clause-err : goal.returns-in-Err-clause-err
unfolding digits
returns-in-Err-clause-err g c clean = rw c.cells-values.ensures at (c.in-Err.ensures.runs clean)
