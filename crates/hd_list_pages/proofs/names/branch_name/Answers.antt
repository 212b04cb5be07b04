use Rattle.std.proofs.Common.{arith, rules, ◌≡◌, ◌∙◌, sym, ap, Some, option_and_then}
use Rattle.hd_catalogue.specs.Contents.{branch_name}
use Rattle.hd_list_pages.proofs.Past.{no_branch}
use Rattle.hd_list_pages.proofs.names.branch_name.Goals as goal

pub returns-else-number-branches : goal.returns-else-number-branches
returns-else-number-branches g c =
    let same : c.args.branch ≡ Some c.in_ok-branch.branch = search rules in
    no_branch c.args.catalogue.now c.in_ok-branch.branch
    (omega (arith, c.branches.ensures.count, c.if-number-branches.false, c.number.ensures.value))
    ∙ ap (option_and_then (branch_name c.args.catalogue.now)) (sym same)
