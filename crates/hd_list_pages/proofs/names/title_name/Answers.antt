use Rattle.std.proofs.Common.{arith, rules, ◌≡◌, ◌∙◌, sym, ap, Some, option_and_then}
use Rattle.hd_catalogue.specs.Contents.{title_name}
use Rattle.hd_list_pages.proofs.Past.{no_title}
use Rattle.hd_list_pages.proofs.names.title_name.Goals as goal

pub returns-else-number-titles : goal.returns-else-number-titles
returns-else-number-titles g c =
    let same : c.args.title ≡ Some c.in_ok-title.title = search rules in
    no_title c.args.catalogue.now c.in_ok-title.title
    (omega (arith, c.titles.ensures.count, c.if-number-titles.false, c.number.ensures.value))
    ∙ ap (option_and_then (title_name c.args.catalogue.now)) (sym same)
