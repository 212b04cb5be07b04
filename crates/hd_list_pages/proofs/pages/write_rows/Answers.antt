use Rattle.std.proofs.Common.{arith, rules, ◌≡◌, sym, subst, List, ◌∷◌, ◌-◌, drop, get_or, length, take, map}
use Rattle.hd_json.specs.Texts.{object_text}
use Rattle.hd_list_rows.specs.declared.row.Row.{Row}
use Rattle.hd_list_pages.specs.Columns.{columns_of}
use Rattle.hd_list_pages.specs.Naming.{IsObject}
use Rattle.hd_list_pages.specs.Writing.{WritesObjects}
use Rattle.hd_list_pages.proofs.Joining.{first_and_more, first_of}
use Rattle.hd_list_pages.proofs.pages.write_rows.Goals as goal

pub returns-in_ok-write_more_rows-in-len1-up : goal.returns-in_ok-write_more_rows-in-len1-up
returns-in_ok-write_more_rows-in-len1-up g c =
    let k = c.args.catalogue.now in
    let first = c.first-item.result in
    let here : first ≡ get_or c.args.rows.now 0 first = search rules in
    let rest = take (length c.args.rows.now - 1) (drop 1 c.args.rows.now) in
    let whole : c.args.rows.now ≡ first ∷ rest =
    first_of c.args.rows.now first (omega (arith, c.in-len1-up.len_at_least)) here in
    subst (λ (xs : List Row). WritesObjects k (map columns_of xs) c.args.out.now.items
    c.write_more_rows.new.out.items) (sym whole)
    (first_and_more (IsObject k) object_text (columns_of first) (map columns_of rest)
    c.args.out.now.items c.write_row.new.out.items c.write_more_rows.new.out.items
    c.in_ok-write_row-in-len1-up.ensures c.in_ok-write_more_rows-in-len1-up.ensures)
