use Rattle.hd_message.proofs.PatronLemmas.{read_off, read_on}
use Rattle.hd_message.proofs.patron_laws.standard_bodies_are_read_as_before.Goals as goal

pub returns-clause-off : goal.returns-clause-off
returns-clause-off c = read_off

pub returns-clause-on : goal.returns-clause-on
returns-clause-on c = read_on
