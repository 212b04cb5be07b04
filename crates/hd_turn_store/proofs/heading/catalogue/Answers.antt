use Rattle.std.proofs.Common.{◌∙◌, inl, inr}
use Rattle.std.proofs.lemmas.Result.{IfErr-weaker, IfOk-weaker}
use Rattle.hd_turn_store.proofs.Queries.{finds_head, only_reads}
use Rattle.hd_turn_store.proofs.Texts.{select_head_means}
use Rattle.hd_turn_store.proofs.heading.catalogue.Goals as goal

pub returns-in-Ok-clause-reads : goal.returns-in-Ok-clause-reads
returns-in-Ok-clause-reads g c =
    only_reads _ _ _ select_head_means _ _ _ (λ done clean. (c.in-Ok.rows.items, c.in-Ok.ensures.ok clean))
    c.in-Ok.ensures.survives

pub returns-in-Err-clause-reads : goal.returns-in-Err-clause-reads
returns-in-Err-clause-reads g c =
    only_reads _ _ _ select_head_means _ _ _ (λ done. absurd (cc)) c.in-Err.ensures.survives

pub returns-in-Ok-clause-ok : goal.returns-in-Ok-clause-ok
returns-in-Ok-clause-ok g c clean =
    let shown = rw (c.to_sql.ensures, c.to_sql-2.ensures) at (c.in-Ok.ensures.ok clean) in
    IfOk-weaker c.head_among.result _ _
    (λ heading is head ks holds. is head (c.as_slice.ensures.value ∙ finds_head _ _ _ shown head ks holds))
    c.head_among.ensures.head

pub returns-in-Ok-clause-why : goal.returns-in-Ok-clause-why
returns-in-Ok-clause-why g c clean =
    let shown = rw (c.to_sql.ensures, c.to_sql-2.ensures) at (c.in-Ok.ensures.ok clean) in
    IfErr-weaker c.head_among.result _ _
    (λ fault why head ks holds.
    inr (why head (c.as_slice.ensures.value ∙ finds_head _ _ _ shown head ks holds))) c.head_among.ensures.why

pub returns-in-Err-clause-why : goal.returns-in-Err-clause-why
returns-in-Err-clause-why g c clean head ks holds =
    let fails = rw (c.to_sql.ensures, c.to_sql-2.ensures) at (c.in-Err.ensures.err clean) in
    inl (c.in-Err.error, fails, c.of_reading.ensures.value)
