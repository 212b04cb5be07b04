use Rattle.hd_journal.proofs.Keeping.{legal_there}
use Rattle.hd_journal.proofs.journal.Journal.alloc.Goals as goal

pub returns : goal.returns
returns g c = legal_there c.journal_laws.ensures _ _ _ _ _ c.self.invariant c.self.view_is
