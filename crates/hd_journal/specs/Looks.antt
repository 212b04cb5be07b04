-- What a look is shown.
use Rattle.std.specs.Prelude.{◌≡◌, List, ◌++◌}
use Rattle.hd_rules.specs.Journal.{Turn}
use Rattle.hd_catalogue.specs.Contents.{Contents}
use Rattle.hd_journal.specs.Books.{Book, IsLegalBook}
use Rattle.hd_journal.specs.Openings.{Opening}

-- a legal journal of the catalogue
pub record IsJournalOf (told : Contents) (book : Book) : Type 0 where
  pub contents : book.contents ≡ told
  pub legal : IsLegalBook told book.turns

-- the journal of the catalogue that has gone on by just these turns
pub record HasGoneOn (o : Opening) (since : List Turn) (book : Book) : Type 0 where
  pub contents : book.contents ≡ o.contents
  pub turns : book.turns ≡ o.begun ++ since
