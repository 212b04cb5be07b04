use Rattle.std.proofs.Common.{arith, rules, ◌≡◌, ◌∙◌, sym, ap, Some, option_and_then}
use Rattle.hd_catalogue.specs.Contents.{patron_name}
use Rattle.hd_list_pages.proofs.Past.{no_patron}
use Rattle.hd_list_pages.proofs.names.patron_name.Goals as goal

pub returns-else-number-patrons : goal.returns-else-number-patrons
returns-else-number-patrons g c =
    let same : c.args.patron ≡ Some c.in_ok-patron.patron = search rules in
    no_patron c.args.catalogue.now c.in_ok-patron.patron
    (omega (arith, c.patrons.ensures.count, c.if-number-patrons.false, c.number.ensures.value))
    ∙ ap (option_and_then (patron_name c.args.catalogue.now)) (sym same)
