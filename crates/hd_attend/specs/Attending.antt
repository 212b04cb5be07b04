-- Attending to a connection: its session is fed what the reader gives, and the writer is given the replies.
use Rattle.std.specs.Prelude.{◌≡◌, ℕ, ◌<◌, ◌≤◌, ⊤, List, All, Option, Some, Result, Err, OnOk, length}
use Rattle.std.specs.Io.KnownBytes.{Appends, Consumes, IsAtEnd}
use Rattle.hd_date.specs.Stamps.{Stamp}
use Rattle.hd_exchange.specs.Deeds.{Deed}
use Rattle.hd_connection.specs.Streams.{IsCutShort, Streams}
use Rattle.hd_catalogue.specs.Contents.{Contents}
use Rattle.hd_journal.specs.declared.fault.TurnFault.{TurnFault}
use Rattle.hd_session.specs.Logs.{Entry, Logs, said_in}
use Rattle.hd_session.specs.Sessions.{AreFedTo, Hearing, Piece, StaysKnown, any_room, stream}
use Rattle.hd_session.specs.declared.ended.Ended.{Ended}
use Rattle.hd_attend.specs.declared.fault.AttendFault.{AttendFault}
use Rattle.hd_attend.specs.declared.fault.AttendFault.TheVariants as fault

-- how it ends: well, at the end of the input, or by a fault
abbrev pub End : Type 0
End = Result (Unit {0}) AttendFault

-- A piece as it is read: of 1 to 512 bytes, at a present that the clock may tell.
pub record IsReadPiece (Tells : Stamp → Type 0) (piece : Piece) : Type 0 where
  pub some : 0 < length piece.bytes
  pub short : length piece.bytes ≤ 512
  pub present : Tells piece.now

-- what is written of the replies: all of them, or where a write fails a beginning
abbrev pub IsWritten : End → List ℕ → List ℕ → Type 0
IsWritten (Err fault.Write) replies put = IsCutShort replies put
IsWritten end replies put = put ≡ replies

-- whether the session has ended then, and why: by the fault that says so for its reason, and else as before.
-- Where a write fails, either may be.
abbrev pub Leaves : End → Option Ended → Option Ended → Type 0
Leaves (Err (fault.Ended why)) before after = after ≡ Some why
Leaves (Err fault.Write) before after = ⊤
Leaves end before after = after ≡ before

-- Entries with these replies are added to a log.
pub record LogsReplies (log log' : Option (List Entry)) (replies : List ℕ) : Type 0 where
  pub entries : List Entry
  pub logged : Logs log log' entries
  pub said : said_in entries ≡ replies

-- A session is attended to, at a seat of a library whose office can give these faults, by a clock that may
-- give these presents: what was read is fed to it in pieces, each at its own present, with no bytes left out;
-- this is done, the replies are written, and the session's log has them.
pub record Attends (k : Contents) (seat : ℕ) (faults : TurnFault → Type 0) (Tells : Stamp → Type 0)
    (log log' : Option (List Entry)) (bytes : Streams) (did : List Deed) (h h' : Hearing) (end : End)
    : Type 0 where
  pub pieces : List Piece
  pub are_read : All (IsReadPiece Tells) pieces
  pub read : Consumes bytes.from bytes.from' (stream pieces)
  pub all : OnOk end (IsAtEnd bytes.from')
  pub replies : List ℕ
  pub fed : AreFedTo k seat faults any_room pieces h did h' replies
  pub logged : LogsReplies log log' replies
  pub known : StaysKnown k h.state h'.state
  pub put : List ℕ
  pub written : IsWritten end replies put
  pub wrote : Appends bytes.to bytes.to' put
  pub leaves : Leaves end h.ended h'.ended
