use Rattle.std.proofs.Common.{inl}
use Rattle.hd_journal_file.proofs.Held.{opened_is_kept}
use Rattle.hd_journal_file.proofs.laws.what_was_answered_is_opened.Goals as goal

pub returns-clause-opened : goal.returns-clause-opened
returns-clause-opened g c left wanted opened shut reliable =
    opened_is_kept c.a_row_is_of_one_message.ensures.one
    (rw c.table.ensures.catalogue at (c.table.ensures.held shut reliable).has)

pub returns-clause-same : goal.returns-clause-same
returns-clause-same g c left wanted shut reliable of same =
    let held = c.table.ensures.held shut reliable in
    let has = held.has in
    (has.head, has.rows, of has.head has.rows has.keeps, inl (rw same at held.catalogue))
