use Rattle.std.proofs.Common.{arith, ◌≡◌, ◌∙◌, ap, ◌≤◌, ◌∷◌, [], ◌++◌, Some, length}
use Rattle.hd_journal.specs.Books.{facts, state}
use Rattle.hd_records.specs.Shown.{record_shown}
use Rattle.hd_list_rows.specs.declared.row.Row.TheVariants.{Command}
use Rattle.hd_list_rows.specs.PageValue.{PageValue}
use Rattle.hd_list_rows.specs.Rows.{change_rows}
use Rattle.hd_list_rows.proofs.Changed.{few_changes}
use Rattle.hd_list_rows.proofs.Searched.{nothing_searched}
use Rattle.hd_list_rows.proofs.command.show_command.Goals as goal

pub list_changes-requires : goal.list_changes-requires
list_changes-requires g c =
    let few : length c.in-Some.record.changes.now ≤ 4 =
    few_changes c.commands_keep_desks_sound.ensures (facts c.args.journal.now)
    (state c.args.journal.now).survivors c.args.number (record_shown c.in-Some.record) c.in-Some.ensures in
    let one : length c.put.new.self.rows ≡ 1 =
    ap (λ (p : PageValue). length p.rows) c.put.ensures
    ∙ ap (λ (p : PageValue). length (p.rows ++ Command c.in-Some.record.survivor c.in-Some.record.reply
    c.first_dependent-dependent.result ∷ [])) c.clear.ensures in
    omega (arith, few, one)

pub returns-clause-rows : goal.returns-clause-rows
returns-clause-rows g c =
    let row = Command c.in-Some.record.survivor c.in-Some.record.reply c.first_dependent-dependent.result in
    let changes = change_rows c.in-Some.record.changes.now in
    let rows = ap (λ (p : PageValue). p.rows) c.list_changes.ensures
    ∙ ap (λ (p : PageValue). p.rows ++ changes) c.put.ensures
    ∙ ap (λ (p : PageValue). (p.rows ++ row ∷ []) ++ changes) c.clear.ensures in (
      Some (record_shown c.in-Some.record),
      (
        c.in-Some.ensures,
        c.first_dependent-dependent.result,
        c.first_dependent-dependent.ensures.first,
        rows,
      ),
    )

pub returns-in_default-clause-work : goal.returns-in_default-clause-work
returns-in_default-clause-work g c =
    nothing_searched (facts c.args.journal.now) (state c.args.journal.now).survivors c.args.number _
    c.in_default.ensures
