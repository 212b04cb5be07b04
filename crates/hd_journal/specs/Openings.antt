-- What a journal has when a hall is opened round it.
use Rattle.std.specs.Prelude.{List, [], ◌++◌}
use Rattle.hd_rules.specs.Journal.{Turn}
use Rattle.hd_catalogue.specs.Contents.{Contents}
use Rattle.hd_journal.specs.Books.{IsLegalBook}

-- What the library's catalogue says, and the turns that its journal has already. (The desk that the journal
-- itself began with is the catalogue's own `opening`.)
pub record Opening : Type 0 where
  pub contents : Contents
  pub begun : List Turn

-- a journal without turns
abbrev pub fresh : Contents → Opening
fresh contents = record { contents = contents; begun = [] }

-- the journal has gone on by these turns, and all that it has are legal
abbrev pub IsLegalSince : Opening → List Turn → Type 0
IsLegalSince o turns = IsLegalBook o.contents (o.begun ++ turns)
