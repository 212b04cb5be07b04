use Rattle.std.proofs.Common.{◌≡◌, Option, subst, sym}
use Rattle.std.specs.Prelude.{ℕ, filter}
use Rattle.hd_queue.specs.Wanted.{wants_at}
use Rattle.hd_queue.proofs.WaitingLemmas.{wanted-kept}
use Rattle.hd_queue.proofs.view.pass_over.Goals as goal

pub returns-in-Some-clause-kept : goal.returns-in-Some-clause-kept
returns-in-Some-clause-kept g c =
    λ wanted.
    subst (λ (pickup : Option ℕ). filter (wants_at wanted pickup) c.pass_over.new.self
    ≡ filter (wants_at wanted pickup) c.args.rest.now)
    (sym c.in-Some.is)
    (wanted-kept wanted c.in-Some.branch c.pass_over.new.self c.args.rest.now c.pass_over.ensures.kept)
