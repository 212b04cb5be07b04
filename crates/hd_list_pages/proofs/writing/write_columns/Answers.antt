use Rattle.std.proofs.Common.{arith, rules, ◌≡◌, sym, subst, List, ◌∷◌, ◌-◌, drop, get_or, length, take}
use Rattle.hd_json.specs.Texts.{member_text}
use Rattle.hd_list_pages.specs.declared.part.Column.{Column}
use Rattle.hd_list_pages.specs.Naming.{IsMember}
use Rattle.hd_list_pages.specs.Writing.{WritesMembers}
use Rattle.hd_list_pages.proofs.Joining.{first_and_more, first_of}
use Rattle.hd_list_pages.proofs.writing.write_columns.Goals as goal

pub returns-in_ok-write_more_columns-in-len1-up : goal.returns-in_ok-write_more_columns-in-len1-up
returns-in_ok-write_more_columns-in-len1-up g c =
    let k = c.args.catalogue.now in
    let first = c.first-item.result in
    let here : first ≡ get_or c.args.columns.now 0 first = search rules in
    let rest = take (length c.args.columns.now - 1) (drop 1 c.args.columns.now) in
    let whole : c.args.columns.now ≡ first ∷ rest =
    first_of c.args.columns.now first (omega (arith, c.in-len1-up.len_at_least)) here in
    subst (λ (xs : List Column). WritesMembers k xs c.args.out.now.items c.write_more_columns.new.out.items)
    (sym whole)
    (first_and_more (IsMember k) member_text first rest c.args.out.now.items
    c.write_column.new.out.items c.write_more_columns.new.out.items
    c.in_ok-write_column-in-len1-up.ensures c.in_ok-write_more_columns-in-len1-up.ensures)
