use Rattle.hd_transit.proofs.TransitsLemmas.{bound_from-exact, bound_from-rising}
use Rattle.hd_transit.proofs.transits.Transits.bound_for.Goals as goal

pub returns-clause-exact : goal.returns-clause-exact
returns-clause-exact g c =
    λ copy. rw (c.new.ensures, ← c.self.view_is)
    (bound_from-exact c.self.inside.table.entries c.self.inside.table.size c.args.to copy
    c.self.invariant.below)

pub returns-clause-rising : goal.returns-clause-rising
returns-clause-rising g c =
    rw c.new.ensures (bound_from-rising c.self.inside.table.entries c.self.inside.table.size c.args.to 0)
