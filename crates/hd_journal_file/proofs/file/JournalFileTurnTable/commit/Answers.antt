use Rattle.std.proofs.Common.{inl, inr, refl}
use Rattle.sqlite.specs.Held.{state}
use Rattle.hd_lemmas.proofs.Results.{on_err}
use Rattle.hd_journal_file.proofs.Held.{earlier, one_more, unwritten}
use Rattle.hd_journal_file.proofs.Results.{passes}
use Rattle.hd_journal_file.proofs.file.JournalFileTurnTable.commit.Goals as goal

pub returns-in_default-clause-err : goal.returns-in_default-clause-err
returns-in_default-clause-err g c turns left legal holds leaves =
    inl (c.a_crash_leaves_what_is_seen.ensures.only _ turns left (holds leaves.0).has leaves.1)

pub returns-in_default-clause-why : goal.returns-in_default-clause-why
returns-in_default-clause-why g c = inl refl

pub returns-in_default-of-clause-err : goal.returns-in_default-of-clause-err
returns-in_default-of-clause-err g c turns left legal holds leaves =
    inl (c.a_crash_leaves_what_is_seen.ensures.only _ turns left (holds leaves.0).has leaves.1)

pub returns-clause-ok : goal.returns-clause-ok
returns-clause-ok g c turns legal holds reliable =
    let held = holds (earlier c.add.ensures.clean reliable) in
    let has = held.has in
    record {
      has = one_more c.turn_row-row.ensures legal has
          ((c.in_ok-add.ensures.adds reliable.clean has.head has.rows has.keeps).done refl);
      catalogue = held.catalogue;
    }

pub returns-clause-settled : goal.returns-clause-settled
returns-clause-settled g c turns left holds leaves =
    c.a_crash_leaves_what_is_seen-2.ensures.only _ turns left (holds leaves.0).has leaves.1

pub returns-in_err-add-clause-err : goal.returns-in_err-add-clause-err
returns-in_err-add-clause-err g c =
    on_err c.from_residual.result _ (λ turns left legal holds leaves.
    let early = earlier c.add.ensures.clean leaves.0 in
    let has = (holds early).has in
    elim ((c.add.ensures.adds leaves.0.clean has.head has.rows has.keeps).crash leaves.1.database
    leaves.1.may) [
      | inl was ↦ inl (c.a_crash_leaves_what_is_seen.ensures.only _ turns left has
          record { database = leaves.1.database; may = was; kept = leaves.1.kept })
      | inr stores ↦ inr (c.a_crash_leaves_what_is_seen.ensures.one _ _ left leaves.1.database
          (one_more c.turn_row-row.ensures legal has stores) leaves.1.kept)
    ])

pub returns-in_err-add-clause-why : goal.returns-in_err-add-clause-why
returns-in_err-add-clause-why g c =
    passes c.from_residual.result c.in_err-add.field-0.0 _ c.from_residual.ensures.1
    (unwritten (state g.S.Store) _ _ c.turn_row-row.ensures c.in_err-add.field-0.0 c.in_err-add.ensures.why)
