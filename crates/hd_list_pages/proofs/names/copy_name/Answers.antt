use Rattle.std.proofs.Common.{arith, rules, ◌≡◌, ◌∙◌, sym, ap, Some, option_and_then}
use Rattle.hd_catalogue.specs.Contents.{copy_name}
use Rattle.hd_list_pages.proofs.Past.{no_copy}
use Rattle.hd_list_pages.proofs.names.copy_name.Goals as goal

pub returns-else-number-copies : goal.returns-else-number-copies
returns-else-number-copies g c =
    let same : c.args.copy ≡ Some c.in_ok-copy.copy = search rules in
    no_copy c.args.catalogue.now c.in_ok-copy.copy
    (omega (arith, c.copies.ensures.count, c.if-number-copies.false, c.number.ensures.value))
    ∙ ap (option_and_then (copy_name c.args.catalogue.now)) (sym same)
