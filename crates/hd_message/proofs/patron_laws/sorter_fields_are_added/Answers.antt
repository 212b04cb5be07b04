use Rattle.hd_message.proofs.AddedLemmas.{more_in_transit, same_item, same_on_shelf}
use Rattle.hd_message.proofs.patron_laws.sorter_fields_are_added.Goals as goal

pub returns-clause-shelf : goal.returns-clause-shelf
returns-clause-shelf c = same_on_shelf

pub returns-clause-transit : goal.returns-clause-transit
returns-clause-transit c = more_in_transit

pub returns-clause-item : goal.returns-clause-item
returns-clause-item c = same_item
