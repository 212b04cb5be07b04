use Rattle.std.proofs.Common.{arith, rules, ◌≡◌, ◌∙◌, sym, ap, subst, List, [], ◌∷◌, ◌++◌, get_or, map, take}
use Rattle.std.proofs.lemmas.List.{map_more}
use Rattle.hd_json.specs.Texts.{object_text}
use Rattle.hd_list_rows.specs.declared.row.Row.{Row}
use Rattle.hd_list_pages.specs.declared.part.Column.{Column}
use Rattle.hd_list_pages.specs.Columns.{columns_of}
use Rattle.hd_list_pages.specs.Naming.{IsObject}
use Rattle.hd_list_pages.specs.Writing.{WritesMoreObjects}
use Rattle.hd_list_pages.proofs.Joining.{one_more}
use Rattle.hd_list_pages.proofs.pages.write_more_rows.Goals as goal

pub loop-row-preserved : goal.loop-row-preserved
loop-row-preserved g c =
    let k = c.args.catalogue.now in
    let i = c.loop-row.row-index in
    let here : c.row-item.result ≡ get_or c.args.rows.now i c.row-item.result = search rules in
    let step = map_more columns_of c.args.rows.now i c.row-item.result (omega (arith, c.loop-row-test.true))
    ∙ ap (λ (x : Row). map columns_of (take i c.args.rows.now) ++ columns_of x ∷ []) (sym here) in
    subst (λ (xs : List (List Column)). WritesMoreObjects k xs c.args.out.now.items c.write_row.new.out.items)
    (sym step)
    (one_more (IsObject k) object_text (map columns_of (take i c.args.rows.now))
    (columns_of c.row-item.result) c.args.out.now.items c.loop-row.out.items
    c.push.new.self.items c.write_row.new.out.items c.loop-row.invariant c.in_ok-push.ensures.items
    c.in_ok-write_row.ensures)
