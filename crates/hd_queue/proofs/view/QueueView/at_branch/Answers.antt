use Rattle.std.proofs.Common.{◌∙◌}
use Rattle.hd_queue.proofs.WaitingLemmas.{branch-wanted}
use Rattle.hd_queue.proofs.view.QueueView.at_branch.Goals as goal

pub returns : goal.returns
returns g c = rw (← c.self.view_is)
    (c.new.ensures ∙ rw c.self.invariant.2.for_branch (branch-wanted c.args.branch c.self.inside.holds))
