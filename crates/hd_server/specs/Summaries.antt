-- The summary of a journal when its hall is closed.
use Rattle.std.specs.Prelude.{◌≡◌, List, length}
use Rattle.hd_rules.specs.Journal.{Turn, state_after}
use Rattle.hd_catalogue.specs.Contents.{Contents, facts_of}
use Rattle.hd_journal.specs.Books.{IsLegalBook}
use Rattle.hd_server.specs.declared.summary.ClosedJournal.{ClosedJournal}
use Rattle.hd_server.specs.declared.summary.Summary.{Summary}

-- the numbers are those of these turns, and of the survivors that they leave
pub record IsSummary (k : Contents) (turns : List Turn) (summary : Summary) : Type 0 where
  pub counted : summary.turns ≡ length turns
  pub survive : summary.survivors ≡ length (state_after (facts_of k) turns).survivors

-- the journal is a legal one of this library, and the numbers are its own
abbrev pub HasSummary : Contents → ClosedJournal → Type 0
HasSummary k closed =
    (closed.journal.contents ≡ k) × IsLegalBook closed.journal.contents closed.journal.turns
    × IsSummary closed.journal.contents closed.journal.turns closed.summary
