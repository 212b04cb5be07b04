use Rattle.std.proofs.Common.{[], arith}
use Rattle.std.specs.Fmt.{digits}
use Rattle.hd_turn_store.specs.Words.{HasCleanDisk, state}
use Rattle.hd_turn_store.specs.Holds.{HasEmpty}
use Rattle.hd_turn_store.specs.Texts.{create_journal_text, create_turn_text}
use Rattle.hd_turn_store.specs.Tables.{head_schema, journal_schema, no_schema, schema_with}
use Rattle.hd_turn_store.specs.Kept.{new_head}
use Rattle.hd_turn_store.proofs.Writing.{creates, creates_index, puts_head}
use Rattle.hd_turn_store.proofs.Texts.{creates_journal_table, creates_turn_table}
use Rattle.hd_turn_store.proofs.storing.fill.Goals as goal

pub returns-clause-ok : goal.returns-clause-ok
unfolding digits
returns-clause-ok g c clean none =
    let one = state g.S.Store c.execute.new.self.conn.now in
    let two = state g.S.Store c.execute-2.new.self.conn.now in
    let three = state g.S.Store c.execute-3.new.self.conn.now in
    let clean_three : HasCleanDisk three = omega (arith, c.execute-4.ensures.survives.clean) in
    let clean_two : HasCleanDisk two = omega (arith, c.execute-3.ensures.survives.clean) in
    let clean_one : HasCleanDisk one = omega (arith, c.execute-2.ensures.survives.clean) in
    let head : HasEmpty head_schema one =
    creates no_schema create_journal_text _ creates_journal_table _ _ _ none
    (rw c.in_ok-execute.was at (c.execute.ensures.runs clean_one (rw none.inside))).0 in
    let tables : HasEmpty (schema_with []) two =
    creates head_schema create_turn_text _ creates_turn_table _ _ _ head
    (rw c.in_ok-execute-2.was at (c.execute-2.ensures.runs clean_two (rw head.inside))).0 in
    let all : HasEmpty journal_schema three =
    creates_index _ _ _ tables
    (rw c.in_ok-execute-3.was at (c.execute-3.ensures.runs clean_three (rw tables.inside))).0 in
    puts_head _ _ (new_head c.args.digest.now) _ all
    (rw (c.in_ok-execute-4.was, c.to_sql.ensures) at (c.execute-4.ensures.runs clean (rw all.inside))).0
