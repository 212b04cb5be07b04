use Rattle.hd_journal_file.proofs.file.JournalFile.new.Goals as goal

pub returns-clause-settled : goal.returns-clause-settled
returns-clause-settled g c turns left holds leaves =
    c.a_crash_leaves_what_is_seen.ensures.only _ turns left (holds leaves.0).has leaves.1
