use Rattle.std.proofs.Common.{rules, ◌≡◌, ◌∙◌, subst, List, [], ◌∷◌, ◌++◌, map, Some}
use Rattle.hd_json.specs.Texts.{object_text}
use Rattle.hd_list_pages.specs.declared.part.Column.{Column}
use Rattle.hd_list_pages.specs.declared.part.Plain.TheVariants.{Number}
use Rattle.hd_list_pages.specs.declared.words.Heading.TheVariants.{Next}
use Rattle.hd_list_pages.specs.Columns.{column, columns_of, next_columns, page_columns}
use Rattle.hd_list_pages.specs.Naming.{IsObject}
use Rattle.hd_list_pages.specs.Writing.{WritesObjects}
use Rattle.hd_list_pages.proofs.Joining.{last_written, none_of}
use Rattle.hd_list_pages.proofs.pages.write_lines.Goals as goal

pub returns-in_ok-write_next-in-Some : goal.returns-in_ok-write_next-in-Some
returns-in_ok-write_next-in-Some g c =
    let k = c.args.catalogue.now in
    let rows = c.rows-rows.result.now in
    let next : Some c.in-Some.next ≡ c.args.page.now.next = search rules in
    let whole : map columns_of rows ++ (column Next (Number (Some c.in-Some.next)) ∷ []) ∷ []
    ≡ page_columns c.args.page.now =
    (λ j. map columns_of (c.rows-rows.ensures.rows j) ++ next_columns (next j)) in
    subst (λ (lines : List (List Column)). WritesObjects k lines c.args.out.now.items
    c.write_next.new.out.items) whole
    (last_written (IsObject k) object_text (map columns_of rows)
    (column Next (Number (Some c.in-Some.next)) ∷ []) c.is_none.result c.args.out.now.items
    c.write_rows.new.out.items c.write_next.new.out.items c.in_ok-write_rows-in-Some.ensures
    (c.is_none.ensures ∙ none_of columns_of rows) c.in_ok-write_next-in-Some.ensures)
