use Rattle.hd_journal.specs.Openings.{fresh}
use Rattle.test_parts.proofs.halls.is_clash_well.Given as goal

abbrev pub ghosts-clash_at-H-House : goal.ghosts-clash_at-H-House
ghosts-clash_at-H-House g a = record { opening = fresh a.keeper.contents }

abbrev pub ghosts-clash_at-H-Ledger : goal.ghosts-clash_at-H-Ledger
ghosts-clash_at-H-Ledger g a = record { name = a.blank.name; parts = a.blank.parts }
