use Rattle.hd_catalogue.specs.Contents.{title_name, title_number}
use Rattle.hd_carry.proofs.Tables.{found_again}
use Rattle.hd_carry.proofs.names.new_title.Goals as goal

pub returns-clause-found : goal.returns-clause-found
unfolding title_name title_number
returns-clause-found g c =
    found_again c.args.old.now.titles c.args.title c.title_name.result.now c.title_name.ensures.name
    c.title_name.ensures.found
