use Rattle.std.proofs.Common.{◌∙◌, ap}
use Rattle.hd_holds.specs.Held.{queue_of}
use Rattle.hd_desk.specs.Asking.{queues_of}
use Rattle.hd_desk.specs.DeskValue.{DeskValue}
use Rattle.hd_desk.proofs.desk.Desk.queue.Goals as goal

pub returns-clause-value : goal.returns-clause-value
unfolding queues_of
returns-clause-value g c =
    c.view.ensures.queue
    ∙ ap (λ (d : DeskValue). (queue_of d.holds.queues c.args.title).holds) c.self.view_is
