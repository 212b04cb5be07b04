use Rattle.hd_catalogue.specs.Contents.{branch_name, branch_number}
use Rattle.hd_carry.proofs.Tables.{found_again}
use Rattle.hd_carry.proofs.names.new_branch.Goals as goal

pub returns-clause-found : goal.returns-clause-found
unfolding branch_name branch_number
returns-clause-found g c =
    found_again c.args.old.now.branches c.args.branch c.branch_name.result.now c.branch_name.ensures.name
    c.branch_name.ensures.found
