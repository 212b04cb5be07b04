use Rattle.hd_catalogue.specs.Contents.{patron_name, patron_number}
use Rattle.hd_carry.proofs.Tables.{found_again}
use Rattle.hd_carry.proofs.names.new_patron.Goals as goal

pub returns-clause-found : goal.returns-clause-found
unfolding patron_name patron_number
returns-clause-found g c =
    found_again c.args.old.now.patrons c.args.patron c.patron_name.result.now c.patron_name.ensures.name
    c.patron_name.ensures.found
