use Rattle.hd_field.proofs.Whole.{whole_text}
use Rattle.hd_field.proofs.laws.lines_are_parts.Goals as goal

pub returns : goal.returns
returns c = whole_text
