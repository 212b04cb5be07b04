-- A session that is fed what is read, and whose replies are written.
use Rattle.std.proofs.Common.{◌≡◌, ℕ, ◌+◌, ◌≤◌, ◌<◌, List, [], ◌∷◌, ◌++◌, Option, None, Some, Ok, Err, OnOk}
use Rattle.std.proofs.Common.{IsErr, IsErrAnd, length, length-append, arith, refl, sym, ap, ap₂, ◌∙◌, subst}
use Rattle.std.proofs.Common.{append-nil}
use Rattle.std.proofs.KnownBytes.{Appends-nil, Appends-trans, Consumes-nil, Consumes-trans}
use Rattle.std.proofs.Math.Seq.{drop-append_seam, take-add, take-append_seam}
use Rattle.std.proofs.lemmas.Bool.{false≢true}
use Rattle.std.proofs.lemmas.Grind.{flat_map-append}
use Rattle.std.proofs.lemmas.List.Elements.{All-append, All-cons, All-nil, All-weaker}
use Rattle.std.specs.Io.KnownBytes.{Appends, Consumes, IsAtEnd}
use Rattle.hd_date.specs.Stamps.{Stamp}
use Rattle.hd_exchange.specs.Deeds.{Deed}
use Rattle.hd_catalogue.specs.Contents.{Contents}
use Rattle.hd_connection.specs.Streams.{IsCutShort, Streams, streams}
use Rattle.hd_journal.specs.declared.fault.TurnFault.{TurnFault}
use Rattle.hd_session.specs.Logs.{Entry}
use Rattle.hd_session.specs.Sessions.{Hearing, IsFed, Piece, Room, StaysKnown, stream}
use Rattle.hd_session.specs.declared.ended.Ended.{Ended}
use Rattle.hd_attend.specs.Attending.{Attends, End, IsReadPiece, IsWritten, Leaves, LogsReplies}
use Rattle.hd_attend.specs.declared.fault.AttendFault.{AttendFault}
use Rattle.hd_attend.specs.declared.fault.AttendFault.TheVariants as fault
use Rattle.hd_attend.proofs.Feeding.{fed_once, fed_then, piece_at, replies_append, replies_none, went_on}

-- nothing is left of a piece that is fed
nothing_left : (end : End) → OnOk end (IsAtEnd (Some []))
nothing_left (Ok done) = refl
nothing_left (Err fault) = tt

-- what one clock may tell, another may
told : (Now Tells : Stamp → Type 0) → ((now : Stamp) → Now now → Tells now) → (piece : Piece)
    → IsReadPiece Now piece → IsReadPiece Tells piece
told Now Tells tells piece read =
    record { some = read.some; short = read.short; present = tells piece.now read.present }

-- a beginning of what stands behind a text
cut_behind : (text more part : List ℕ) → IsCutShort more part → IsCutShort (text ++ more) (text ++ part)
cut_behind text more part cut = (
  length text + cut.0,
  (let less = cut.1 in let whole = length-append text more in omega (arith, less, whole)),
  ap (λ (p : List ℕ). text ++ p) cut.2
      ∙ sym (take-add (length text) cut.0 (text ++ more) ∙ rw (take-append_seam, drop-append_seam) refl),
)

-- what is written behind replies that are written
written_behind : (end : AttendFault) (replies more put part : List ℕ) → put ≡ replies
    → IsWritten (Err end) more part
    → IsWritten (Err end) (replies ++ more) (put ++ part)
written_behind fault.Read replies more put part all is = ap₂ (λ (a b : List ℕ). a ++ b) all is
written_behind fault.Write replies more put part all is =
    subst (λ (p : List ℕ). IsCutShort (replies ++ more) (p ++ part)) (sym all)
    (cut_behind replies more part is)
written_behind (fault.Ended why) replies more put part all is = ap₂ (λ (a b : List ℕ). a ++ b) all is

-- how a session is left that went on until then
leaves_behind : (end : AttendFault) (first between last : Option Ended) → between ≡ first
    → Leaves (Err end) between last
    → Leaves (Err end) first last
leaves_behind fault.Read first between last same is = is ∙ same
leaves_behind fault.Write first between last same is = tt
leaves_behind (fault.Ended why) first between last same is = is

module _ (k : Contents) (seat : ℕ) (faults : TurnFault → Type 0) where
  module _ (now : Stamp) (room : Room) (bytes : List ℕ) (h h' : Hearing) (did : List Deed) (text : List ℕ)
      (fed : IsFed k seat faults now room h bytes did h' text) where
    -- a session that goes on after a piece went on before it
    pub on_after : h'.ended ≡ None → h'.ended ≡ h.ended
    on_after on = went_on k seat faults now room h.ended h bytes did h' text refl fed on

    -- one piece is fed, and of its replies that is written which the end says
    pub attends_piece : (log log' : Option (List Entry)) (to to' : Option (List ℕ)) (end : End)
        (out out' sent put : List ℕ) → 0 < length bytes
        → length bytes ≤ 512 → LogsReplies log log' text
        → StaysKnown k h.state h'.state → out ≡ [] → out' ≡ out ++ text → sent ≡ out' → IsWritten end sent put
        → Appends to to' put
        → Leaves end h.ended h'.ended
        → Attends k seat faults (λ present. present ≡ now) log log'
        (streams (Some bytes) (Some []) to to') did h h' end
    attends_piece log log' to to' end out out' sent put some short logged known empty is same written wrote
        leaves =
        let all : text ≡ sent = sym (same ∙ (is ∙ ap (λ (o : List ℕ). o ++ text) empty)) in
        let is_read : IsReadPiece (λ present. present ≡ now) (piece_at now bytes) =
        record { some = some; short = short; present = refl } in
        record {
          pieces = piece_at now bytes ∷ [];
          are_read = All-cons (IsReadPiece (λ present. present ≡ now)) (piece_at now bytes) [] is_read
              (All-nil _);
          read = sym (append-nil (bytes ++ []) ∙ append-nil bytes);
          all = nothing_left end;
          replies = text;
          fed = fed_once k seat faults now room h bytes did h' text fed;
          logged = logged;
          known = known;
          put = put;
          written = subst (λ (t : List ℕ). IsWritten end t put) (sym all) written;
          wrote = wrote;
          leaves = leaves;
        }

  module _ (Tells : Stamp → Type 0) where
    -- nothing is read yet
    pub attends_none : (log : Option (List Entry)) (from to : Option (List ℕ)) (h : Hearing)
        → Attends k seat faults Tells log log (streams from from to to) [] h h (Err fault.Read)
    attends_none log from to h = record {
      pieces = [];
      are_read = All-nil _;
      read = Consumes-nil from;
      all = tt;
      replies = [];
      fed = (refl, refl, refl);
      logged = replies_none log;
      known = λ known. known;
      put = [];
      written = refl;
      wrote = Appends-nil to;
      leaves = refl;
    }

    module _ (log log' : Option (List Entry)) (from from' from'' to to' : Option (List ℕ)) (did : List Deed)
        (h h' : Hearing)
        (far : Attends k seat faults Tells log log' (streams from from' to to') did h h' (Err fault.Read)) where
      -- a piece more is read and fed
      pub attends_more : (log'' : Option (List Entry)) (bytes : List ℕ) (Now : Stamp → Type 0)
          (to'' : Option (List ℕ)) (more : List Deed) (last : Hearing) (end : AttendFault)
          → Consumes from' from'' bytes → ((now : Stamp) → Now now → Tells now)
          → Attends k seat faults Now log' log'' (streams (Some bytes) (Some []) to' to'') more h' last (Err end)
          → Attends k seat faults Tells log log'' (streams from from'' to to'') (did ++ more) h last (Err end)
      attends_more log'' bytes Now to'' more last end read tells next =
          let whole : bytes ≡ stream next.pieces = next.read ∙ append-nil (stream next.pieces) in
          let two : stream (far.pieces ++ next.pieces) ≡ stream far.pieces ++ stream next.pieces =
          flat_map-append (λ (piece : Piece). piece.bytes) far.pieces next.pieces in
          record {
            pieces = far.pieces ++ next.pieces;
            are_read = All-append (IsReadPiece Tells) far.pieces next.pieces far.are_read
                (All-weaker (IsReadPiece Now) (IsReadPiece Tells)
                (told Now Tells tells) next.pieces next.are_read);
            read = subst (λ (all : List ℕ). Consumes from from'' all)
                (ap (λ (b : List ℕ). stream far.pieces ++ b) whole ∙ sym two)
                (Consumes-trans from from' from'' (stream far.pieces) bytes far.read read);
            all = tt;
            replies = far.replies ++ next.replies;
            fed = fed_then k seat faults far.pieces next.pieces h h' last did more far.replies next.replies
                far.fed next.fed;
            logged = replies_append log log' log'' far.replies next.replies far.logged next.logged;
            known = λ known. next.known (far.known known);
            put = far.put ++ next.put;
            written = written_behind end far.replies next.replies far.put next.put far.written next.written;
            wrote = Appends-trans to to' to'' far.put next.put far.wrote next.wrote;
            leaves = leaves_behind end h.ended h'.ended last.ended far.leaves next.leaves;
          }

  -- a fault is passed on
  pub attends_passed : (Tells : Stamp → Type 0) (log log' : Option (List Entry)) (bytes : Streams)
      (did : List Deed) (h h' : Hearing) (end : End)
      (fault : AttendFault) → IsErr end → IsErrAnd end (λ what. what ≡ fault)
      → Attends k seat faults Tells log log' bytes did h h' (Err fault)
      → Attends k seat faults Tells log log' bytes did h h' end
  attends_passed Tells log log' bytes did h h' (Ok done) fault err is attends = absurd (false≢true err)
  attends_passed Tells log log' bytes did h h' (Err what) fault err is attends =
      subst (λ (f : AttendFault). Attends k seat faults Tells log log' bytes did h h' (Err f)) (sym is) attends

  -- a piece is answered, and the session goes on: as where a read fails then
  pub goes_on : (Tells : Stamp → Type 0) (log log' : Option (List Entry)) (bytes : Streams) (did : List Deed)
      (h h' : Hearing)
      → Attends k seat faults Tells log log' bytes did h h' (Ok tt)
      → Attends k seat faults Tells log log' bytes did h h' (Err fault.Read)
  goes_on Tells log log' bytes did h h' done = record {
    pieces = done.pieces;
    are_read = done.are_read;
    read = done.read;
    all = tt;
    replies = done.replies;
    fed = done.fed;
    logged = done.logged;
    known = done.known;
    put = done.put;
    written = done.written;
    wrote = done.wrote;
    leaves = done.leaves;
  }
