use Rattle.hd_log.proofs.Printable.{escaped_decimal}
use Rattle.hd_log.proofs.laws.numbers_are_plain.Goals as goal

pub returns : goal.returns
returns c = escaped_decimal
