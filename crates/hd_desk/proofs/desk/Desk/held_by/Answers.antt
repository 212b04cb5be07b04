use Rattle.std.proofs.Common.{subst, ◌<◌}
use Rattle.std.specs.List.{AllByRecursion}
use Rattle.hd_catalogue.specs.Contents.{Contents, facts_of}
use Rattle.hd_holds.specs.declared.held_title.HeldTitle.{HeldTitle}
use Rattle.hd_holds.specs.HeldTitles.{AreHeldBy}
use Rattle.hd_desk.specs.DeskValue.{DeskValue}
use Rattle.hd_desk.specs.Desks.{desk_of, facts}
use Rattle.hd_desk.proofs.desk.Desk.held_by.Goals as goal

pub returns-clause-titles : goal.returns-clause-titles
unfolding desk_of
returns-clause-titles g c =
    subst (λ (d : DeskValue). AreHeldBy (desk_of d).hold c.args.patron c.of_patron.result.now) c.self.view_is
    c.of_patron.ensures.titles

pub returns-clause-known : goal.returns-clause-known
returns-clause-known g c =
    subst (λ (d : DeskValue). AllByRecursion (λ (held : HeldTitle). held.title < (facts d).titles)
    c.of_patron.result.now) c.self.view_is
    (subst (λ (x : Contents). AllByRecursion (λ (held : HeldTitle). held.title < (facts_of x).titles)
    c.of_patron.result.now) c.self.invariant.0 c.of_patron.ensures.known)
