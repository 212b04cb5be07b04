use Rattle.hd_durable.proofs.Durability.{durable_all}
use Rattle.hd_durable.proofs.journal.DurableJournal.new.Goals as goal

pub invariant_of-result : goal.invariant_of-result
invariant_of-result g c =
    durable_all (g.T.TurnTable.contents c.args.table) (g.T.TurnTable.holds c.args.table)
    (g.T.TurnTable.leaves c.args.table)
    c.args.journal.contents c.args.journal.turns c.front-answered.result _ c.requires.catalogue
    c.front-answered.ensures.legal c.front-answered.ensures.count c.requires.held c.requires.settled
