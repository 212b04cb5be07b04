use Rattle.std.proofs.Common.{◌≡◌, subst, List, None}
use Rattle.hd_rules.specs.Journal.{Turn}
use Rattle.hd_catalogue.specs.Contents.{facts_of}
use Rattle.hd_journal.specs.Changing.{changing}
use Rattle.hd_durable.specs.Durable.{DurableValue, IsLeft}
use Rattle.hd_durable.proofs.Durability.{committed}
use Rattle.hd_durable.proofs.journal.DurableJournal.into_table.Goals as goal

pub returns-clause-committed : goal.returns-clause-committed
returns-clause-committed g c =
    subst
    (λ (d : DurableValue g.row.T.Denot). d.shut ≡ None → (left : List Turn)
    → g.T.TurnTable.leaves d.table left → left ≡ changing (facts_of d.contents) d.turns)
    c.self.view_is
    (λ is_open. (committed (g.T.TurnTable.holds c.self.inside.table) (g.T.TurnTable.leaves c.self.inside.table)
    (facts_of c.self.inside.journal.contents) c.self.inside.journal.turns c.self.inside.answered
    (c.self.invariant.opened is_open)).settled)

pub returns-clause-left : goal.returns-clause-left
returns-clause-left g c =
    subst
    (λ (d : DurableValue g.row.T.Denot). (left : List Turn) → g.T.TurnTable.leaves d.table left
    → IsLeft (facts_of d.contents) d.turns left)
    c.self.view_is c.self.invariant.left
