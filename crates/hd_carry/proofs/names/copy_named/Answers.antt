use Rattle.hd_catalogue.specs.Contents.{copy_name, copy_number}
use Rattle.hd_carry.proofs.Tables.{found_again}
use Rattle.hd_carry.proofs.names.copy_named.Goals as goal

pub returns-clause-found : goal.returns-clause-found
unfolding copy_name copy_number
returns-clause-found g c =
    found_again c.args.old.now.copies c.args.copy c.copy_name.result.now c.copy_name.ensures.name
    c.copy_name.ensures.found
