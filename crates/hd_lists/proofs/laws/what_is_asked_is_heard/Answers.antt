use Rattle.std.proofs.Common.{refl}
use Rattle.hd_lists.specs.Questions.{map_key}
use Rattle.hd_lists.proofs.Hears.{heard}
use Rattle.hd_lists.proofs.laws.what_is_asked_is_heard.Goals as goal

pub returns : goal.returns
returns c = let q = c.args.question.now in heard q.list _ refl (map_key (λ n. n.now) q.key) q.after c.requires
