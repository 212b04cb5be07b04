-- What a look sees.
use Rattle.std.specs.Prelude.{◌≡◌, ◌<◌, ◌≤◌, All, IsSome, Some, length}
use Rattle.hd_catalogue.specs.Contents.{Contents, facts_of, patron_name}
use Rattle.hd_journal.specs.Books.{Book, state}
use Rattle.hd_exchange.specs.PatronInformation.{IsItemOf, items_seen, view_seen}
use Rattle.hd_exchange.specs.declared.patron_message.PatronValues.{PatronValues}
use Rattle.hd_exchange.specs.declared.patron_reader.PatronReader.{PatronReader}

-- A reader has read, at this journal's desk, how much its patron has and the items that are wanted.
pub record HasSeen (old : PatronReader) (book : Book) (new : PatronReader) : Type 0 where
  pub same : new.look ≡ old.look
  pub view : new.view ≡ Some (view_seen book.contents (state book).desk old.look)
  pub items : new.items.items ≡ items_seen book.contents (state book).desk old.look

-- It has looked at the patron of the library whom these values name, and the items are of the library.
pub record HasLooked (k : Contents) (values : PatronValues) (reader : PatronReader) : Type 0 where
  pub known : reader.look.patron < (facts_of k).patrons
  pub named : patron_name k reader.look.patron ≡ Some values.patron.now
  pub looked : IsSome reader.view
  pub items : All (IsItemOf (facts_of k)) reader.items.items
  pub few : length reader.items.items ≤ 512
