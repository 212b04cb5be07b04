use Rattle.std.proofs.Common.{◌∙◌, sym, ap}
use Rattle.hd_session.specs.Sessions.{Hearing}
use Rattle.hd_session.proofs.Feeding.{feeds_ended}
use Rattle.hd_session.proofs.session.Session.feed_logged.Goals as goal

pub returns-in-Some-clause-fed : goal.returns-in-Some-clause-fed
returns-in-Some-clause-fed g c =
    feeds_ended _ _ _ _ _ c.args.self.now c.in-Some.why
    (sym (ap (λ (h : Hearing). h.ended) c.self.view_is) ∙ c.in-Some.is)
