use Rattle.test_parts.proofs.Pairs.{with_more}
use Rattle.test_parts.proofs.halls.closing.add.Goals as goal

pub returns-in_err-push : goal.returns-in_err-push
returns-in_err-push g c = rw c.in_err-push.ensures.items c.requires.parts

pub returns : goal.returns
returns g c = rw c.in_ok-push.ensures.items (with_more _ _ c.requires.parts c.requires.last)
