use Rattle.std.proofs.Common.{ℕ, ◌<◌, ◌^◌, subst}
use Rattle.hd_http.proofs.Heads.{whole_head}
use Rattle.hd_http.proofs.Whole.{whole_text}
use Rattle.hd_http.proofs.laws.whole_reply.Goals as goal

pub returns : goal.returns
returns c = let P : ℕ → Type 0 = λ n. n < 2 ^ 64 in (
  whole_head c.args.page.now.policy.now c.args.status c.args.media _ c.args.page.now.readable
      (subst P c.length_of.ensures.value c.length_of.ensures.within),
  whole_text c.args.page.now.policy.now c.args.method c.args.status c.args.media c.args.body.now,
)
