use Rattle.hd_journal.specs.Openings.{fresh}
use Rattle.test_parts.proofs.halls.are_looks_well.Given as goal

abbrev pub ghosts-looks_at-H-House : goal.ghosts-looks_at-H-House
ghosts-looks_at-H-House g a = record { opening = fresh a.keeper.contents }

abbrev pub ghosts-looks_at-H-Ledger : goal.ghosts-looks_at-H-Ledger
ghosts-looks_at-H-Ledger g a = record { name = a.blank.name; parts = a.blank.parts }
