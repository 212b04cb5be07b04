-- What a look at a hall is shown.
use Rattle.std.specs.Prelude.{◌≡◌, List, map}
use Rattle.hd_rules.specs.Journal.{Turn}
use Rattle.hd_journal.specs.Books.{Book}
use Rattle.hd_journal.specs.Looks.{HasGoneOn}
use Rattle.hd_journal.specs.Openings.{Opening, IsLegalSince}
use Rattle.hd_hall.specs.Receipts.{Receipted, HoldsLast}

-- The journal of the catalogue has gone on legally since the hall was opened, by turns of which the last of
-- these receipts, if there is one, has its own at its number.
pub record IsShownTo (o : Opening) (receipts : List Receipted) (book : Book) : Type 0 where
  pub since : List Turn
  pub gone_on : HasGoneOn o since book
  pub legal : IsLegalSince o since
  pub holds : HoldsLast since receipts

-- the same of receipts of these turns
abbrev pub IsShownWith : Opening → List Turn → Book → Type 0
IsShownWith o turns book =
    (receipts : List Receipted)
    × (map (λ (r : Receipted). r.turn) receipts ≡ turns)
    × IsShownTo o receipts book
