-- What an office does for a session, deed by deed.
use Rattle.std.specs.Prelude.{◌≡◌, ⊤, List, [], ◌∷◌, ◌++◌, Option, Some, None, map}
use Rattle.hd_rules.specs.Journal.{Turn}
use Rattle.hd_rules.specs.Messages.{SeatMessage}
use Rattle.hd_catalogue.specs.Contents.{Contents}
use Rattle.hd_journal.specs.Books.{Book}
use Rattle.hd_journal.specs.Looks.{IsJournalOf}

-- An office makes a turn, or shows a look the journal that has these turns.
pub data Deed : Type 0 where
  Made : (turn : Turn) → Deed
  Looked : (shown : List Turn) → Deed

-- the turns that some deeds make, in order
abbrev pub turns_in : List Deed → List Turn
turns_in [] = []
turns_in (Made turn ∷ did) = turn ∷ turns_in did
turns_in (Looked shown ∷ did) = turns_in did

-- what an office is asked for a deed: a turn by a seat's message, or a look by none
abbrev pub message_for : Deed → Option SeatMessage
message_for (Made turn) = Some (record { seat = turn.seat; message = turn.message })
message_for (Looked shown) = None

-- and for some deeds, in order
abbrev pub messages_of : List Deed → List (Option SeatMessage)
messages_of did = map message_for did

-- there is no look among some deeds
abbrev pub AreTurns : List Deed → Type 0
AreTurns [] = ⊤
AreTurns (Made turn ∷ did) = AreTurns did
AreTurns (Looked shown ∷ did) = ⊥

-- Of a library, at an office that may show a look these journals after some turns.
module _ (k : Contents) (shows : List Turn → Book → Type 0) where
  -- After these turns a look is shown a legal journal of the library, of those turns, which the office may
  -- show then.
  pub record IsShown (turns shown : List Turn) : Type 0 where
    pub book : Book
    pub turns_are : book.turns ≡ shown
    pub legal : IsJournalOf k book
    pub may_show : shows turns book

  -- each look of some deeds, after the turns before it
  abbrev pub AreShown : List Turn → List Deed → Type 0
  AreShown turns [] = ⊤
  AreShown turns (Made turn ∷ did) = AreShown (turns ++ turn ∷ []) did
  AreShown turns (Looked shown ∷ did) = IsShown turns shown × AreShown turns did
