use Rattle.std.proofs.Common.{◌∙◌, ap, subst, refl, arith}
use Rattle.std.proofs.lemmas.List.{get_or_past}
use Rattle.hd_catalogue.specs.Contents.{Contents, facts_of}
use Rattle.hd_queue.specs.Holds.{hold_of}
use Rattle.hd_queue.specs.QueueValue.{QueueValue}
use Rattle.hd_holds.specs.Held.{AreQueues, no_queue, patron_hold}
use Rattle.hd_desk.specs.Asking.{AreQueuesOf, queues_of}
use Rattle.hd_desk.specs.DeskValue.{DeskValue}
use Rattle.hd_desk.specs.Desks.{desk_of, facts}
use Rattle.hd_desk.proofs.desk.Desk.titles.Goals as goal

kept : (v : DeskValue) → AreQueues (facts v) v.holds.queues → AreQueuesOf (facts v) (desk_of v) (queues_of v)
unfolding desk_of queues_of patron_hold
kept v all = record {
  queue = λ t l. record { each = λ p. refl; ordered = (all.queue t).ordered; once = (all.queue t).once };
  past = λ t p l. ap (λ (q : QueueValue). hold_of q.holds p)
      (get_or_past v.holds.queues t no_queue (omega (arith, all.titles)));
}

pub returns-clause-count : goal.returns-clause-count
returns-clause-count g c =
    c.titles.ensures.count
    ∙ ap (λ (x : Contents). (facts_of x).titles)
    (c.self.invariant.0 ∙ ap (λ (d : DeskValue). d.copies.contents) c.self.view_is)

pub returns-clause-queues : goal.returns-clause-queues
returns-clause-queues g c =
    subst (λ (v : DeskValue). AreQueuesOf (facts v) (desk_of v) (queues_of v)) c.self.view_is
    (kept (record { copies = c.self.inside.copies; holds = c.self.inside.holds })
    (subst (λ (x : Contents). AreQueues (facts_of x) c.self.inside.holds.queues) c.self.invariant.0
    c.titles.ensures.queues))
