use Rattle.std.proofs.Common.{rules}
use Rattle.hd_date.proofs.DayLemmas.{day_of_clocks}
use Rattle.hd_date.proofs.law.clocks_tell_one_stamp.Goals as goal

pub returns-clause-first : goal.returns-clause-first
returns-clause-first c = record { real = search rules; counted = day_of_clocks }
