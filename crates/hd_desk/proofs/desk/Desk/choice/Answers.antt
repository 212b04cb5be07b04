use Rattle.std.proofs.Common.{◌∙◌, ap, subst}
use Rattle.hd_catalogue.specs.Contents.{Contents, facts_of}
use Rattle.hd_holds.specs.Held.{AreKnown}
use Rattle.hd_desk.specs.DeskValue.{DeskValue}
use Rattle.hd_desk.specs.Desks.{desk_of, facts}
use Rattle.hd_desk.proofs.Planned.{is-at, chosen-known}
use Rattle.hd_desk.proofs.desk.Desk.choice.Goals as goal

pub returns-clause-choice : goal.returns-clause-choice
returns-clause-choice g c =
    c.copied.ensures
    ∙ c.choice.ensures.chosen (facts c.args.self.now) (desk_of c.args.self.now)
    (is-at c.args.self.now c.self.inside.holds c.view-queue.result _ c.title_of-title.result
    (ap (λ (d : DeskValue). d.holds) c.self.view_is)
    (c.self.invariant.0 ∙ ap (λ (d : DeskValue). d.copies.contents) c.self.view_is)
    c.title_of-title.ensures.title c.home.ensures.home c.has_priority.ensures c.view-queue.ensures.holds
    c.view-queue.ensures.patrons)

pub returns-clause-known : goal.returns-clause-known
returns-clause-known g c =
    chosen-known (facts c.args.self.now) c.view-queue.result c.choice.result c.copied.result c.copied.ensures
    c.choice.ensures.waits
    (subst (λ (x : Contents). AreKnown (facts_of x) c.view-queue.result)
    (c.self.invariant.0 ∙ ap (λ (d : DeskValue). d.copies.contents) c.self.view_is)
    c.view-queue.ensures.known)
