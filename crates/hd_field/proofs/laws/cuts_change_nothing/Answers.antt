use Rattle.hd_field.proofs.Cutting.{after_append, lines_append}
use Rattle.hd_field.proofs.laws.cuts_change_nothing.Goals as goal

pub returns-clause-lines : goal.returns-clause-lines
returns-clause-lines c begun first then = lines_append begun.fresh begun.text begun.too_long first then

pub returns-clause-rest : goal.returns-clause-rest
returns-clause-rest c begun first then = after_append begun.fresh begun.text begun.too_long first then
