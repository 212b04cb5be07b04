use Rattle.std.proofs.Common.{◌≡◌, ◌∙◌, sym, ap, ◌+◌, ◌==◌, cond, Some, [], ◌++◌, append-nil, length, map}
use Rattle.std.proofs.Common.{filter_map}
use Rattle.hd_rules.specs.declared.views.TitleHold.{TitleHold}
use Rattle.hd_desk.specs.Desks.{desk_of, facts}
use Rattle.hd_list_rows.specs.Making.{held_row, with_rest}
use Rattle.hd_list_rows.specs.PageValue.{PageValue, no_page}
use Rattle.hd_list_rows.specs.Rows.{copy_row, hold_row, patron_rows}
use Rattle.hd_list_rows.proofs.Holding.{held_rows}
use Rattle.hd_list_rows.proofs.Making.{all_taken}
use Rattle.hd_list_rows.proofs.patron.show_patron.Goals as goal

pub returns : goal.returns
returns g c =
    let k = facts c.args.desk.now in
    let d = desk_of c.args.desk.now in
    let held = filter_map (held_row k d c.args.patron) c.held.result.now in
    let holds = append-nil held ∙ held_rows k d c.args.patron c.held.result.now
    ∙ ap (map (λ (h : TitleHold). hold_row k d h.title h.hold)) c.held.ensures.holds in
    let made : c.list_holds.new.page ≡ with_rest no_page c.args.after (patron_rows k d c.args.patron) =
    sym (all_taken c.list_holds.new.page c.list_holds.new.others)
    ∙ c.list_holds.ensures []
    ∙ c.list_loans.ensures (held ++ [])
    ∙ (λ j. with_rest (c.clear.ensures j) c.args.after
    (map (copy_row d) (c.lent.ensures.copies j) ++ holds j)) in
    c.end_behind.ensures
    ∙ ap (λ (p : PageValue). record p {
      next = cond (length p.rows == 512) (Some (c.args.after + 512)) p.next;
    }) made
