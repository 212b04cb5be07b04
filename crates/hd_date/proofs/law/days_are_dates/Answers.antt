use Rattle.std.proofs.Common.{rules}
use Rattle.hd_date.proofs.DayLemmas.{last_day}
use Rattle.hd_date.proofs.StampLemmas.{one_date}
use Rattle.hd_date.proofs.law.days_are_dates.Goals as goal

pub returns-clause-last : goal.returns-clause-last
returns-clause-last c = record { real = search rules; counted = last_day }

pub returns-clause-one_date : goal.returns-clause-one_date
returns-clause-one_date c = one_date
