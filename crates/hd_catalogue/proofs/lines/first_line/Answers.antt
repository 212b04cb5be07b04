use Rattle.std.proofs.Common.{◌∙◌}
use Rattle.hd_catalogue.proofs.LineLemmas.{lines-front, lines-whole, lines_of-some, lines_of-whole}
use Rattle.hd_catalogue.proofs.LineLemmas.{position-nonempty}
use Rattle.hd_catalogue.proofs.lines.first_line.Goals as goal

pub returns-in-Some-clause-lines : goal.returns-in-Some-clause-lines
returns-in-Some-clause-lines c =
    λ some. rw (
      c.without_return.ensures,
      c.split_at.ensures.front,
      c.split_at-in-Some.ensures.back,
      c.split_at.ensures.back,
    ) (lines-front c.args.text.now c.in-Some.end c.in-Some.ensures)

pub returns-in-Some-clause-first : goal.returns-in-Some-clause-first
returns-in-Some-clause-first c =
    let some = position-nonempty _ c.args.text.now c.in-Some.end c.in-Some.ensures in
    lines_of-some c.args.text.now some ∙ returns-in-Some-clause-lines c some

pub returns-in-None-clause-lines : goal.returns-in-None-clause-lines
returns-in-None-clause-lines c = λ some. lines-whole c.args.text.now some c.in-None.ensures

pub returns-in-None-clause-first : goal.returns-in-None-clause-first
returns-in-None-clause-first c = lines_of-whole c.args.text.now c.in-None.ensures
