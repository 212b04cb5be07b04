use Rattle.hd_date.specs.Stamps.{time_digits}
use Rattle.hd_date.proofs.StampLemmas.{own_print, printed_once, shows_printed}
use Rattle.hd_date.proofs.law.prints_show_their_stamp.Goals as goal

pub returns-clause-one : goal.returns-clause-one
returns-clause-one c stamp text other = printed_once stamp.day (time_digits stamp) text other

pub returns-clause-shown : goal.returns-clause-shown
returns-clause-shown c stamp text offset = shows_printed text offset stamp

pub returns-clause-own : goal.returns-clause-own
returns-clause-own c text here offset stamp = own_print text offset stamp here
