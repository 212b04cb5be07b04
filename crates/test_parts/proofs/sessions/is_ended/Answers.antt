use Rattle.std.proofs.Common.{rules, subst, sym}
use Rattle.hd_journal.specs.Offices.{Keeps}
use Rattle.hd_session.specs.States.{IsKnownTo}
use Rattle.test_parts.proofs.sessions.is_ended.Goals as goal

pub feed-requires-2 : goal.feed-requires-2
feed-requires-2 c =
    let fed = c.feed.ensures.fed in
    record {
      login = subst (λ (k : Keeps). IsKnownTo k.contents c.feed.new.self.state) (sym fed.works.same)
          (fed.known (search rules));
    }
