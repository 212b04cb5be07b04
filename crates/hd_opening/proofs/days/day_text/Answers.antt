use Rattle.std.proofs.Common.{arith}
use Rattle.hd_opening.proofs.DayLemmas.{day_printed}
use Rattle.hd_opening.proofs.days.day_text.Goals as goal

pub returns : goal.returns
returns c = day_printed c.args.day c.print_due-text.result (omega arith) c.print_due-text.ensures
