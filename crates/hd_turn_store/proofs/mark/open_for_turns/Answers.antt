use Rattle.std.proofs.Common.{◌∙◌, ap, arith, inl, inr, refl, subst, sym}
use Rattle.std.proofs.lemmas.Grind.{common_steps}
use Rattle.std.proofs.lemmas.Result.{err_from_is_err_and}
use Rattle.hd_turn_store.specs.Words.{Database, HasCleanDisk, IsClean, file_state, settled_at, view}
use Rattle.hd_turn_store.specs.Marks.{HasMark, open_mark}
use Rattle.hd_turn_store.specs.Tables.{IsJournal, Stores}
use Rattle.hd_turn_store.proofs.mark.open_for_turns.Goals as goal

pub returns-in-Err-clause-left : goal.returns-in-Err-clause-left
returns-in-Err-clause-left g c clean head ks holds db may =
    c.in_ok-store.ensures.kept head ks holds db (c.in-Err.ensures.unharmed.outcomes db may)

pub returns-then-not-shows_journal-clause-left : goal.returns-then-not-shows_journal-clause-left
returns-then-not-shows_journal-clause-left g c clean head ks holds db may =
    let again = c.in-Ok.again in
    let now : HasCleanDisk (file_state again) = omega (arith, c.release.ensures.quiet.clean) in
    let early : IsClean (view c.in_ok-store.store) = omega (arith, c.in-Ok.ensures.clean) in
    let marked = c.in_ok-store.ensures.marked early in
    let opens = (c.in-Ok.ensures.opens now).0 in
    let last = settled_at again.store g.met.D.Disk.seen_may_stay db opens.is_open
    (c.release.ensures.quiet.outcomes db may) in
    subst (Stores head ks) (sym (last ∙ sym (ap (λ (d : Database). d.trees) opens.clean)
    ∙ c.in-Ok.ensures.trees now ∙ marked.fresh.clean)) (marked.kept head ks holds)

pub returns-clause-same : goal.returns-clause-same
returns-clause-same g c clean head ks holds =
    let early : IsClean (view c.in_ok-store.store) = omega (arith, c.in-Ok.ensures.clean) in
    let marked = c.in_ok-store.ensures.marked early in
    let opens = (c.in-Ok.ensures.opens clean).0 in
    record {
      schema = c.if-not-shows_journal.ensures.shown.0 refl;
      rows = subst (Stores head ks) (sym (c.in-Ok.ensures.trees clean ∙ marked.fresh.clean))
          (marked.kept head ks holds);
      settled = sym opens.clean;
      outside = opens.autocommit;
      is_open = opens.is_open;
    }

pub returns-clause-marked : goal.returns-clause-marked
returns-clause-marked g c clean =
    let early : IsClean (view c.in_ok-store.store) = omega (arith, c.in-Ok.ensures.clean) in
    let marked = c.in_ok-store.ensures.marked early in
    subst (HasMark open_mark) (sym (c.in-Ok.ensures.trees clean ∙ marked.fresh.clean)) marked.mark_is

pub returns-clause-clean : goal.returns-clause-clean
returns-clause-clean g c clean =
    let early : IsClean (view c.in_ok-store.store) = omega (arith, c.in-Ok.ensures.clean) in
    (c.in_ok-store.ensures.marked early).was_clean

pub returns-in_err-store-clause-why : goal.returns-in_err-store-clause-why
returns-in_err-store-clause-why g c =
    let p = err_from_is_err_and c.from_residual.result c.from_residual.ensures.1 in
    rw (p.1, p.2) (inl c.in_err-store.ensures.why)

pub returns-in-Err-clause-why : goal.returns-in-Err-clause-why
returns-in-Err-clause-why g c =
    inr (inl (record {
      error = c.in-Err.error;
      told = c.of_opening.ensures;
      relayed = c.in-Err.ensures.told;
      cause = λ clean.
          let early : IsClean (view c.in_ok-store.store) = omega (arith, c.in-Err.ensures.unharmed.clean) in
          (c.in_ok-store.store, c.in_ok-store.ensures.marked early, c.in-Err.ensures.err clean);
    }))

pub returns-then-not-shows_journal-clause-why : goal.returns-then-not-shows_journal-clause-why
returns-then-not-shows_journal-clause-why g c =
    let again = c.in-Ok.again in
    let none : ¬ IsJournal (file_state again).now.schema =
    λ is. let shown = c.if-not-shows_journal.ensures.shown.1 is in grind (arith, common_steps) in
    inr (inr (refl, (again, c.release.ensures, none)))
