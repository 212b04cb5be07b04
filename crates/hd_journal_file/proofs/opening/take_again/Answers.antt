use Rattle.std.proofs.Common.{refl, inl, inr, IsTrue, arith}
use Rattle.hd_lemmas.proofs.Results.{on_err}
use Rattle.hd_journal_file.specs.Opening.{MayBeTaken}
use Rattle.hd_journal_file.specs.declared.open_fault.OpenFault.TheVariants.{File, Turns}
use Rattle.hd_journal_file.proofs.Results.{passes}
use Rattle.hd_journal_file.proofs.opening.take_again.Goals as goal

-- where its head can't be read
pub returns-in_err-found-clause-why : goal.returns-in_err-found-clause-why
returns-in_err-found-clause-why g c clean =
    passes c.from_residual.result c.in_err-found.field-0.0 _ c.from_residual.ensures.1 (λ head rows holds.
    let told = c.in_err-found.ensures.told clean head rows holds in rw told.1 (inl told.2))

pub returns-in_err-found-clause-left : goal.returns-in_err-found-clause-left
returns-in_err-found-clause-left g c clean =
    on_err c.from_residual.result _
    (λ head rows holds db may. inl (c.head_of.ensures.reads.crash clean head rows holds db may))

-- where a row isn't taken
pub returns-in_err-restore_turns-clause-why : goal.returns-in_err-restore_turns-clause-why
returns-in_err-restore_turns-clause-why g c clean =
    let early = c.restore_turns.ensures.reads.clean clean in
    passes c.from_residual-in_err-restore_turns.result (Turns c.in_err-restore_turns.field-0.0) _
    c.from_residual-in_err-restore_turns.ensures.1 (λ head rows holds.
    let found = c.in_ok-found.ensures.found early head rows holds in
    let may_be : MayBeTaken c.args.wanted.now head = grind arith in (
      may_be,
      rw found.0 (c.in_err-restore_turns.ensures.why clean head rows
          (c.in_ok-found.ensures.reads.same refl early head rows holds)),
    ))

pub returns-in_err-restore_turns-clause-left : goal.returns-in_err-restore_turns-clause-left
returns-in_err-restore_turns-clause-left g c clean =
    let early = c.restore_turns.ensures.reads.clean clean in
    on_err c.from_residual-in_err-restore_turns.result _ (λ head rows holds db may.
    inl (c.in_ok-found.ensures.reads.crash early head rows holds db
    (c.restore_turns.ensures.reads.crash clean head rows
    (c.in_ok-found.ensures.reads.same refl early head rows holds) db may)))

-- where the digest can't be written
pub returns-in_err-accept-clause-why : goal.returns-in_err-accept-clause-why
returns-in_err-accept-clause-why g c clean =
    let accepted : IsTrue c.args.wanted.now.is_other_accepted = grind arith in
    passes c.from_residual-in_err-accept.result (File c.in_err-accept.field-0.0) _
    c.from_residual-in_err-accept.ensures.1 (λ head rows holds. inr (accepted, c.in_err-accept.ensures.fault))

pub returns-in_err-accept-clause-left : goal.returns-in_err-accept-clause-left
returns-in_err-accept-clause-left g c clean =
    let late = c.accept.ensures.clean clean in
    let early = c.restore_turns.ensures.reads.clean late in
    let accepted : IsTrue c.args.wanted.now.is_other_accepted = grind arith in
    on_err c.from_residual-in_err-accept.result _ (λ head rows holds db may.
    let first = c.in_ok-found.ensures.reads.same refl early head rows holds in
    let then = c.in_ok-restore_turns.ensures.reads.same refl late head rows first in
    let taken = c.in_ok-restore_turns.ensures.rows late head rows first in
    elim ((c.accept.ensures.redates clean head rows then).crash db may) [
      | inl was ↦ inl (c.in_ok-found.ensures.reads.crash early head rows holds db
          (c.restore_turns.ensures.reads.crash late head rows first db was))
      | inr stores ↦ inr (record {
        accepted = accepted;
        are = rw (c.in_ok-found.ensures.found early head rows holds).0 taken;
        stores = stores;
      })
    ])

-- where it is written
pub returns-in_ok-accept-clause-taken : goal.returns-in_ok-accept-clause-taken
returns-in_ok-accept-clause-taken g c clean old head rows holds =
    let late = c.accept.ensures.clean clean in
    let early = c.restore_turns.ensures.reads.clean late in
    let accepted : IsTrue c.args.wanted.now.is_other_accepted = grind arith in
    let first = c.in_ok-found.ensures.reads.same refl early head rows holds in
    let then = c.in_ok-restore_turns.ensures.reads.same refl late head rows first in
    record {
      may_be = inr accepted;
      holds = (c.in_ok-accept.ensures.redates clean head rows then).done refl;
      are = rw (c.in_ok-found.ensures.found early head rows holds).0
          (c.in_ok-restore_turns.ensures.rows late head rows first);
    }

-- where it need not be
pub returns-else-not-is_same-2-clause-taken : goal.returns-else-not-is_same-2-clause-taken
returns-else-not-is_same-2-clause-taken g c clean old head rows holds =
    let early = c.restore_turns.ensures.reads.clean clean in
    let found = c.in_ok-found.ensures.found early head rows holds in
    let is = found.1.0 c.if-not-is_same-2.false in
    let first = c.in_ok-found.ensures.reads.same refl early head rows holds in
    record {
      may_be = inl is;
      holds = rw (← is) (c.in_ok-restore_turns.ensures.reads.same refl clean head rows first);
      are = rw found.0 (c.in_ok-restore_turns.ensures.rows clean head rows first);
    }
