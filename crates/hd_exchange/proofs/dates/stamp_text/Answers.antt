use Rattle.std.proofs.Common.{ℕ, List, sym, subst}
use Rattle.hd_date.specs.Stamps.{IsStamp}
use Rattle.hd_exchange.proofs.dates.stamp_text.Goals as goal

pub returns-in-Some : goal.returns-in-Some
returns-in-Some c =
    let stamp = c.args.stamp.now in
    let shows = c.requires in
    let same = sym c.in-Some.ensures.same in
    c.in-Some.ensures.printed shows.0 stamp
    (subst (λ (text : List ℕ). IsStamp text shows.0 stamp) same shows.1)
