use Rattle.std.proofs.Common.{◌≡◌, subst, OnOk, List}
use Rattle.hd_list_pages.specs.declared.part.Column.{Column}
use Rattle.hd_list_pages.specs.Columns.{columns_of}
use Rattle.hd_list_pages.specs.Writing.{WritesObject}
use Rattle.hd_list_pages.proofs.writing.write_row.Goals as goal

pub returns-in-Turn : goal.returns-in-Turn
returns-in-Turn g c =
    let whole : c.turn_columns-columns.result ≡ columns_of c.args.row.now = cc in
    subst (λ (cs : List Column). OnOk c.write_object-in-Turn.result
    (WritesObject c.args.catalogue.now cs c.args.out.now.items c.write_object-in-Turn.new.out.items)) whole
    c.write_object-in-Turn.ensures
