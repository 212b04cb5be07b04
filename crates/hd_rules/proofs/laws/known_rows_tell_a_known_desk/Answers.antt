use Rattle.hd_rules.proofs.KnownRows.{rows_known, told_known}
use Rattle.hd_rules.proofs.laws.known_rows_tell_a_known_desk.Goals as goal

pub returns : goal.returns
returns c = record { lead = rows_known; told = told_known }
