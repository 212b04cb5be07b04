use Rattle.std.proofs.Common.{rules, refl}
use Rattle.hd_door.proofs.serving.attend.Goals as goal

pub returns-clause-answered : goal.returns-clause-answered
returns-clause-answered g c = (
  c.in_ok-heard.heard,
  c.in_ok-response.response,
  search rules,
  search rules,
  refl,
  c.give.ensures.sent,
)
