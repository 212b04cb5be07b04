use Rattle.std.proofs.Common.{arith, rules, ◌≡◌, ◌∙◌, sym, ap, ◌≤◌, length, List}
use Rattle.hd_rules.specs.declared.limits.TheConstants.{MOST_TITLES}
use Rattle.hd_rules.specs.declared.views.TitleHold.{TitleHold}
use Rattle.hd_rules.specs.Facts.{AreInRange}
use Rattle.hd_rules.specs.Views.{holds_of}
use Rattle.hd_desk.specs.Desks.{desk_of, facts}
use Rattle.hd_patron_view.specs.Held.{held_by}
use Rattle.hd_patron_view.proofs.Holding.{all_held, as_many, few_holds, held_holds, known_titles}
use Rattle.hd_patron_view.proofs.having.held.Goals as goal

pub returns-clause-holds : goal.returns-clause-holds
returns-clause-holds g c =
    (c.listed_once.ensures.holds (facts c.args.desk.now) (desk_of c.args.desk.now) c.args.patron
    (held_by (desk_of c.args.desk.now) c.args.patron c.held_by.result.now)).0
    (held_holds (facts c.args.desk.now) (desk_of c.args.desk.now) c.args.patron c.held_by.result.now
    c.held_by.ensures.titles c.held_by.ensures.known
    (λ t le. c.titles-titles.ensures.queues.past t c.args.patron le))

pub returns-clause-count : goal.returns-clause-count
returns-clause-count g c =
    sym (as_many (desk_of c.args.desk.now) c.args.patron c.held_by.result.now
    (all_held (desk_of c.args.desk.now) c.args.patron c.held_by.result.now c.held_by.ensures.titles))
    ∙ ap (λ (hs : List TitleHold). length hs)
    ((c.listed_once.ensures.holds (facts c.args.desk.now) (desk_of c.args.desk.now) c.args.patron
    (held_by (desk_of c.args.desk.now) c.args.patron c.held_by.result.now)).0
    (held_holds (facts c.args.desk.now) (desk_of c.args.desk.now) c.args.patron c.held_by.result.now
    c.held_by.ensures.titles c.held_by.ensures.known
    (λ t le. c.titles-titles.ensures.queues.past t c.args.patron le)))

pub returns-clause-known : goal.returns-clause-known
returns-clause-known g c = known_titles (facts c.args.desk.now) c.held_by.result.now c.held_by.ensures.known

pub returns-clause-few : goal.returns-clause-few
returns-clause-few g c =
    let count : length c.held_by.result.now
    ≡ length (holds_of (facts c.args.desk.now) (desk_of c.args.desk.now) c.args.patron) =
    sym (as_many (desk_of c.args.desk.now) c.args.patron c.held_by.result.now
    (all_held (desk_of c.args.desk.now) c.args.patron c.held_by.result.now c.held_by.ensures.titles))
    ∙ ap (λ (hs : List TitleHold). length hs)
    ((c.listed_once.ensures.holds (facts c.args.desk.now) (desk_of c.args.desk.now) c.args.patron
    (held_by (desk_of c.args.desk.now) c.args.patron c.held_by.result.now)).0
    (held_holds (facts c.args.desk.now) (desk_of c.args.desk.now) c.args.patron c.held_by.result.now
    c.held_by.ensures.titles c.held_by.ensures.known
    (λ t le. c.titles-titles.ensures.queues.past t c.args.patron le))) in
    let few : length (holds_of (facts c.args.desk.now) (desk_of c.args.desk.now) c.args.patron)
    ≤ (facts c.args.desk.now).titles =
    few_holds (desk_of c.args.desk.now) c.args.patron (facts c.args.desk.now).titles in
    let range : AreInRange (facts c.args.desk.now) = search rules in
    let most : (facts c.args.desk.now).titles ≤ MOST_TITLES = range.titles in
    omega arith
