-- What a call leaves of an office and of an out.
use Rattle.std.specs.Prelude.{◌≡◌, ℕ, ◌+◌, ◌≤◌, List, ◌++◌, Vec, length, vec_capacity, vec_len}
use Rattle.hd_journal.specs.declared.office.Office.{Ghosts}
use Rattle.hd_exchange.specs.Deeds.{AreShown, Deed, turns_in}

-- An office has done these deeds, and no others: it has made their turns, and has shown each look a journal
-- that it may show after the turns before. It keeps what it kept, and what held of it still holds.
pub record Works {A O : Type 0} (office : Ghosts O A) (old new : O) (did : List Deed) : Type 0 where
  pub turns : office.turns new ≡ office.turns old ++ turns_in did
  pub shown : AreShown (office.keeps old).contents office.shows (office.turns old) did
  pub same : office.keeps new ≡ office.keeps old
  pub holds : office.holds old → office.holds new

-- This text, and nothing else, is appended to an out, which has at least the room that it had.
pub record Extends {A : Type 0} (old new : Vec ℕ A) (text : List ℕ) : Type 0 where
  pub items : new.items ≡ old.items ++ text
  pub len : vec_len new ≡ vec_len old + length text
  pub capacity : vec_capacity old ≤ vec_capacity new
