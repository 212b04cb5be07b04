use Rattle.std.proofs.Common.{ap, map, ◌∙◌}
use Rattle.hd_turn_store.specs.Rows.{read_cells}
use Rattle.hd_turn_store.proofs.Queries.{all_back, finds_piece, only_reads}
use Rattle.hd_turn_store.proofs.Texts.{select_turns_means}
use Rattle.hd_turn_store.proofs.storing.turns.Goals as goal

pub returns-in-Ok-clause-reads : goal.returns-in-Ok-clause-reads
returns-in-Ok-clause-reads g c =
    only_reads _ _ _ select_turns_means _ _ _ (λ done clean. (c.in-Ok.rows.items, c.in-Ok.ensures.ok clean))
    c.in-Ok.ensures.survives

pub returns-in-Err-clause-reads : goal.returns-in-Err-clause-reads
returns-in-Err-clause-reads g c =
    only_reads _ _ _ select_turns_means _ _ _ (λ done. absurd (cc)) c.in-Err.ensures.survives

pub returns-in-Ok-clause-ok : goal.returns-in-Ok-clause-ok
returns-in-Ok-clause-ok g c clean head ks holds =
    let shown = rw (c.to_sql.ensures, c.last_after.ensures) at (c.in-Ok.ensures.ok clean) in
    ap (map read_cells) (finds_piece _ _ c.args.after _ shown head ks holds) ∙ all_back _
