use Rattle.hd_journal.specs.Openings.{fresh}
use Rattle.test_parts.proofs.halls.is_row_well.Given as goal

abbrev pub ghosts-row_at-H-House : goal.ghosts-row_at-H-House
ghosts-row_at-H-House g a = record { opening = fresh a.keeper.contents }

abbrev pub ghosts-row_at-H-Ledger : goal.ghosts-row_at-H-Ledger
ghosts-row_at-H-Ledger g a = record { name = a.blank.name; parts = a.blank.parts }
