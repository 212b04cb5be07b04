use Rattle.std.proofs.Common.{arith, ◌≡◌, ◌∙◌, ap}
use Rattle.hd_catalogue.specs.Contents.{Contents, facts_of}
use Rattle.hd_desk.specs.Desks.{facts}
use Rattle.test_parts.proofs.halls.freshness.fresh.Goals as goal

pub loop-survivor-init : goal.loop-survivor-init
loop-survivor-init c =
    let last : c.from-last.result ≡ (facts c.in_ok-desk.desk).opening.last =
    c.from-last.ensures ∙ c.last_before.ensures.last
    ∙ ap (λ (x : Contents). (facts_of x).opening.last) (c.deref.ensures ∙ c.catalogue.ensures) in
    (tt, tt, λ n above. c.in_ok-desk.ensures n (omega (arith, above, last)))
