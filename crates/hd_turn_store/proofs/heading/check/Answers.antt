use Rattle.std.proofs.Common.{◌≡◌, ap, inl, inr, refl, subst, ℕ}
use Rattle.std.proofs.lemmas.Result.{IfErr-weaker, err_from_is_err_and}
use Rattle.hd_turn_store.specs.declared.fault.Fault.TheVariants.{UnknownFormat}
use Rattle.hd_turn_store.specs.Kept.{Head, IsKnownFormat}
use Rattle.hd_turn_store.proofs.heading.check.Goals as goal

pub returns-clause-reads : goal.returns-clause-reads
returns-clause-reads g c =
    let reads = c.in_ok-catalogue.ensures.reads in
    record { clean = reads.clean; same = λ done. reads.same refl; crash = reads.crash }

pub returns-in_err-catalogue-clause-fault : goal.returns-in_err-catalogue-clause-fault
returns-in_err-catalogue-clause-fault g c clean =
    let p = err_from_is_err_and c.from_residual.result c.from_residual.ensures.1 in
    rw (p.1, p.2) (λ head ks holds. inr (c.in_err-catalogue.ensures.why clean head ks holds))

pub returns-clause-fault : goal.returns-clause-fault
returns-clause-fault g c clean =
    IfErr-weaker c.check_format.result _ _ (λ fault is head ks holds.
    let same = ap (λ (h : Head). h.format) (c.in_ok-catalogue.ensures.ok clean head ks holds) in
    inl (subst (λ (n : ℕ). (fault ≡ UnknownFormat n) × ¬ IsKnownFormat n) same is)) c.check_format.ensures.fault
