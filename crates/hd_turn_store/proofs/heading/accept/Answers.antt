use Rattle.std.proofs.Common.{refl}
use Rattle.hd_turn_store.proofs.Commits.{accepts, commits}
use Rattle.hd_turn_store.proofs.heading.accept.Goals as goal

pub returns-in-Ok-clause-redates : goal.returns-in-Ok-clause-redates
returns-in-Ok-clause-redates g c clean head ks holds =
    commits (accepts c.args.digest.now head ks) _ holds _ _ (λ done. refl)
    (λ db. g.met.S.Store.settled c.execute.new.self.store db) clean (c.in-Ok.ensures.runs clean)
    c.in-Ok.ensures.survives

pub returns-in-Err-clause-redates : goal.returns-in-Err-clause-redates
returns-in-Err-clause-redates g c clean head ks holds =
    commits (accepts c.args.digest.now head ks) _ holds _ _ (λ done. done)
    (λ db. g.met.S.Store.settled c.execute.new.self.store db) clean (c.in-Err.ensures.runs clean)
    c.in-Err.ensures.survives

pub returns-in-Err-clause-told : goal.returns-in-Err-clause-told
returns-in-Err-clause-told g c clean =
    (c.in-Err.error, c.in-Err.ensures.runs clean, c.of_writing.ensures.value)
