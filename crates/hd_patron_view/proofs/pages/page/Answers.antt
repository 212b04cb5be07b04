use Rattle.std.proofs.Common.{◌∙◌, sym, ap, ℕ, ◌-◌, not, List, take, drop, filter, filter_map, map}
use Rattle.hd_rules.specs.declared.views.ListItem.TheVariants.{Copy as CopyItem}
use Rattle.hd_rules.specs.declared.views.Summary.{Summary}
use Rattle.hd_rules.specs.declared.views.TitleHold.{TitleHold}
use Rattle.hd_rules.specs.Views.{as_far_as, is_kept, is_overdue, items_of}
use Rattle.hd_desk.specs.Desks.{desk_of, facts}
use Rattle.hd_patron_view.specs.Held.{kept_copy, overdue_copy, waiting_title}
use Rattle.hd_patron_view.proofs.Paging.{nothing_cut, page_cut}
use Rattle.hd_patron_view.proofs.Viewing.{copies_of, kept_are, overdue_are, titles_of, waiting_are}
use Rattle.hd_patron_view.proofs.pages.page.Goals as goal

pub returns-in-HoldItems : goal.returns-in-HoldItems
returns-in-HoldItems g c =
    page_cut g.row.N c.of-cut.result c.args.wanted.now c.clear.new.self.items
    (filter_map (kept_copy (desk_of c.args.desk.now) c.args.patron) c.held.result.now)
    (items_of (facts c.args.desk.now) (desk_of c.args.desk.now) c.args.patron c.args.wanted.now.summary
    c.args.day)
    c.list_kept.new.items.items c.list_kept.ensures c.clear.ensures c.of-cut.ensures
    (kept_are (desk_of c.args.desk.now) c.args.patron c.held.result.now
    ∙ ap (λ (hs : List TitleHold). copies_of (filter (is_kept (desk_of c.args.desk.now)) hs))
    c.held.ensures.holds
    ∙ ap (λ (s : Summary). items_of (facts c.args.desk.now) (desk_of c.args.desk.now) c.args.patron s
    c.args.day)
    (sym c.in-HoldItems.is))

pub returns-in-OverdueItems : goal.returns-in-OverdueItems
returns-in-OverdueItems g c =
    page_cut g.row.N c.of-cut.result c.args.wanted.now c.clear.new.self.items
    (filter_map (overdue_copy (desk_of c.args.desk.now) c.args.day) c.lent.result)
    (items_of (facts c.args.desk.now) (desk_of c.args.desk.now) c.args.patron c.args.wanted.now.summary
    c.args.day)
    c.list_overdue.new.items.items c.list_overdue.ensures c.clear.ensures c.of-cut.ensures
    (overdue_are (desk_of c.args.desk.now) c.args.day c.lent.result
    ∙ ap (λ (cs : List ℕ). map CopyItem
    (filter (λ x. is_overdue c.args.day ((desk_of c.args.desk.now).copy x)) cs)) c.lent.ensures.copies
    ∙ ap (λ (s : Summary). items_of (facts c.args.desk.now) (desk_of c.args.desk.now) c.args.patron s
    c.args.day)
    (sym c.in-OverdueItems.is))

pub returns-in-UnavailableHolds : goal.returns-in-UnavailableHolds
returns-in-UnavailableHolds g c =
    page_cut g.row.N c.of-cut.result c.args.wanted.now c.clear.new.self.items
    (filter_map (waiting_title (desk_of c.args.desk.now) c.args.patron) c.held-in-UnavailableHolds.result.now)
    (items_of (facts c.args.desk.now) (desk_of c.args.desk.now) c.args.patron c.args.wanted.now.summary
    c.args.day)
    c.list_waiting.new.items.items c.list_waiting.ensures c.clear.ensures c.of-cut.ensures
    (waiting_are (desk_of c.args.desk.now) c.args.patron c.held-in-UnavailableHolds.result.now
    ∙ ap (λ (hs : List TitleHold). titles_of (filter (λ h. not (is_kept (desk_of c.args.desk.now) h)) hs))
    c.held-in-UnavailableHolds.ensures.holds
    ∙ ap (λ (s : Summary). items_of (facts c.args.desk.now) (desk_of c.args.desk.now) c.args.patron s
    c.args.day)
    (sym c.in-UnavailableHolds.is))

pub returns-in-Empty : goal.returns-in-Empty
returns-in-Empty g c =
    c.clear.ensures ∙ sym (nothing_cut g.row.N (c.args.wanted.now.first - 1) c.args.wanted.now.last)
    ∙ ap (λ (s : Summary). take g.row.N (drop (c.args.wanted.now.first - 1)
    (as_far_as c.args.wanted.now.last
    (items_of (facts c.args.desk.now) (desk_of c.args.desk.now) c.args.patron s c.args.day))))
    (sym c.in-Empty.is)
