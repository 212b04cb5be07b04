use Rattle.hd_import.proofs.rows.rows_of_file.Goals as goal

pub returns-in-Ok-clause-rows : goal.returns-in-Ok-clause-rows
returns-in-Ok-clause-rows c = rw c.in-Utf8.is (rw c.separator_of.ensures at c.rows_if_closed.ensures.rows)
