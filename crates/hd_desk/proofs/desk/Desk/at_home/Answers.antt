use Rattle.std.proofs.Common.{◌∙◌, sym, ap, subst}
use Rattle.std.specs.Arc.{arc_value}
use Rattle.hd_rules.specs.declared.copies.CopyState.TheVariants.{Shelf}
use Rattle.hd_rules.specs.Desk.{Desk}
use Rattle.hd_catalogue.specs.Contents.{Contents, facts_of}
use Rattle.hd_desk.specs.Desks.{IsKeptDesk}
use Rattle.hd_desk.proofs.Kept.{kept-opening}
use Rattle.hd_desk.proofs.Planned.{desk-opened, desk-opening}
use Rattle.hd_desk.proofs.desk.Desk.at_home.Goals as goal

pub invariant_of-result : goal.invariant_of-result
invariant_of-result g c =
    let k = facts_of c.in_ok-copies.copies.contents in
    let opened = desk-opened c.in_ok-copies.copies c.in_ok-holds.holds _
    c.in_ok-copies.ensures.contents c.in_ok-copies.ensures.at_home c.in_ok-holds.ensures.none in (
      c.in_ok-holds.ensures.contents ∙ sym c.in_ok-try_clone.ensures ∙ sym c.in_ok-copies.ensures.contents,
      subst (λ (x : Desk). IsKeptDesk k x) (sym opened) (kept-opening k c.in_ok-copies.ensures.range),
    )

pub returns-clause-desk : goal.returns-clause-desk
returns-clause-desk g c =
    desk-opening c.in_ok-copies.copies c.in_ok-holds.holds (facts_of (arc_value c.args.catalogue))
    (c.in_ok-copies.ensures.at_home
    ∙ ap (λ (x : Contents). λ n. Shelf ((facts_of x).home n)) c.in_ok-try_clone.ensures)
    c.in_ok-holds.ensures.none
