use Rattle.std.proofs.Common.{arith, rules, ◌≡◌, ◌∙◌, sym, ap, subst, List, [], ◌∷◌, ◌++◌, get_or, take}
use Rattle.std.proofs.lemmas.List.{take_more}
use Rattle.hd_json.specs.Texts.{member_text}
use Rattle.hd_list_pages.specs.declared.part.Column.{Column}
use Rattle.hd_list_pages.specs.Naming.{IsMember}
use Rattle.hd_list_pages.specs.Writing.{WritesMoreMembers}
use Rattle.hd_list_pages.proofs.Joining.{one_more}
use Rattle.hd_list_pages.proofs.writing.write_more_columns.Goals as goal

pub loop-column-preserved : goal.loop-column-preserved
loop-column-preserved g c =
    let k = c.args.catalogue.now in
    let i = c.loop-column.column-index in
    let here : c.column-item.result ≡ get_or c.args.columns.now i c.column-item.result = search rules in
    let step = take_more c.args.columns.now i c.column-item.result (omega (arith, c.loop-column-test.true))
    ∙ ap (λ (x : Column). take i c.args.columns.now ++ x ∷ []) (sym here) in
    subst (λ (xs : List Column). WritesMoreMembers k xs c.args.out.now.items c.write_column.new.out.items)
    (sym step)
    (one_more (IsMember k) member_text (take i c.args.columns.now) c.column-item.result
    c.args.out.now.items c.loop-column.out.items
    c.push.new.self.items c.write_column.new.out.items c.loop-column.invariant c.in_ok-push.ensures.items
    c.in_ok-write_column.ensures)
