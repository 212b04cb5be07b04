-- A session that is fed one piece after another.
use Rattle.std.proofs.Common.{◌≡◌, inl, inr, ℕ, List, [], ◌∷◌, ◌++◌, Option, None, Some, length}
use Rattle.std.proofs.Common.{arith, refl, sym, ap, ap₂, ◌∙◌, subst, append_assoc, append-nil, Vec, IfNone, OnSome}
use Rattle.std.proofs.lemmas.Grind.{flat_map-append}
use Rattle.hd_date.specs.Stamps.{Stamp}
use Rattle.hd_exchange.specs.Deeds.{Deed}
use Rattle.hd_catalogue.specs.Contents.{Contents}
use Rattle.hd_journal.specs.declared.fault.TurnFault.{TurnFault}
use Rattle.hd_session.specs.Sessions.{AreFedTo, Hearing, IsCause, IsFed, IsFedAt, Piece, Room, any_room}
use Rattle.hd_session.specs.Logs.{Entry, Logs, LogsPiece, reply_of, said_in, unended_in}
use Rattle.hd_session.specs.States.{State}
use Rattle.hd_session.specs.declared.ended.Ended.{Ended}
use Rattle.hd_session.specs.declared.ended.Ended.TheVariants.{TooLong, Turn}
use Rattle.hd_attend.specs.Attending.{LogsReplies}

-- a piece of a stream
abbrev pub piece_at : Stamp → List ℕ → Piece
piece_at now bytes = record { now = now; bytes = bytes }

module _ (k : Contents) (seat : ℕ) (faults : TurnFault → Type 0) where
  -- a cause with some room is one with any
  cause_without : (room : Room) (s : State) (earlier : ℕ) (line : List ℕ) (why : TurnFault)
      → IsCause k faults room s earlier line why
      → IsCause k faults any_room s earlier line why
  cause_without room s earlier line why (inl turn) = inl turn
  cause_without room s earlier line why (inr (memory, some, before, after)) =
      inr (memory, some, omega (arith, before), omega (arith, after))

  -- and so is a piece that is fed
  fed_without : (now : Stamp) (room : Room) (ended : Option Ended) (h : Hearing) (piece : List ℕ)
      (did : List Deed) (h' : Hearing)
      (text : List ℕ) → IsFedAt k seat faults ended now room h piece did h' text
      → IsFedAt k seat faults ended now any_room h piece did h' text
  fed_without now room (Some why) h piece did h' text fed = fed
  fed_without now room None h piece did h' text (inl all) = inl all
  fed_without now room None h piece did h' text (inr ends) = inr (record {
    before = ends.before;
    line = ends.line;
    later = ends.later;
    split = ends.split;
    heard = ends.heard;
    why = ends.why;
    cause = cause_without room h'.state (length ends.before) ends.line ends.why ends.cause;
    begun = ends.begun;
    ended = ends.ended;
  })

  -- a session that goes on after a piece went on before it
  pub went_on : (now : Stamp) (room : Room) (ended : Option Ended) (h : Hearing) (piece : List ℕ)
      (did : List Deed) (h' : Hearing)
      (text : List ℕ) → h.ended ≡ ended → IsFedAt k seat faults ended now room h piece did h' text
      → h'.ended ≡ None → h'.ended ≡ h.ended
  went_on now room (Some why) h piece did h' text is fed on = ap (λ (s : Hearing). s.ended) fed.1
  went_on now room None h piece did h' text is fed on = on ∙ sym is

  -- one piece is fed
  pub fed_once : (now : Stamp) (room : Room) (h : Hearing) (bytes : List ℕ) (did : List Deed) (h' : Hearing)
      (text : List ℕ)
      → IsFed k seat faults now room h bytes did h' text
      → AreFedTo k seat faults any_room (piece_at now bytes ∷ []) h did h' text
  fed_once now room h bytes did h' text fed = record {
    first_did = did;
    then_did = [];
    between = h';
    first_text = text;
    then_text = [];
    first = fed_without now room h.ended h bytes did h' text fed;
    rest = (refl, refl, refl);
    all_did = sym (append-nil did);
    all_text = sym (append-nil text);
  }

  -- pieces are fed after others
  pub fed_then : (pieces more : List Piece) (h between h' : Hearing) (did did' : List Deed)
      (text text' : List ℕ)
      → AreFedTo k seat faults any_room pieces h did between text
      → AreFedTo k seat faults any_room more between did' h' text'
      → AreFedTo k seat faults any_room (pieces ++ more) h (did ++ did') h' (text ++ text')
  fed_then [] more h between h' did did' text text' first then' =
      let from : AreFedTo k seat faults any_room more h did' h' text' =
      subst (λ (s : Hearing). AreFedTo k seat faults any_room more s did' h' text') first.1 then' in
      subst (λ (t : List ℕ). AreFedTo k seat faults any_room more h (did ++ did') h' (t ++ text'))
      (sym first.2)
      (subst (λ (ts : List Deed). AreFedTo k seat faults any_room more h (ts ++ did') h' text')
      (sym first.0) from)
  fed_then (piece ∷ pieces) more h between h' did did' text text' first then' = record {
    first_did = first.first_did;
    then_did = first.then_did ++ did';
    between = first.between;
    first_text = first.first_text;
    then_text = first.then_text ++ text';
    first = first.first;
    rest = fed_then pieces more first.between between h' first.then_did did' first.then_text text'
        first.rest then';
    all_did = ap (λ (ts : List Deed). ts ++ did') first.all_did
        ∙ append_assoc first.first_did first.then_did did';
    all_text = ap (λ (t : List ℕ). t ++ text') first.all_text
        ∙ append_assoc first.first_text first.then_text text';
  }

-- no reply yet
pub replies_none : (log : Option (List Entry)) → LogsReplies log log []
replies_none None = record { entries = []; logged = tt; said = refl }
replies_none (Some before) = record { entries = []; logged = sym (append-nil before); said = refl }

-- some entries, and then some more
logs_append : (a b c : Option (List Entry)) (first next : List Entry) → Logs a b first → Logs b c next
    → Logs a c (first ++ next)
logs_append None b c first next p q = tt
logs_append (Some x) None c first next p q = absurd p
logs_append (Some x) (Some y) None first next p q = absurd q
logs_append (Some x) (Some y) (Some z) first next p q =
    q ∙ (ap (λ (l : List Entry). l ++ next) p ∙ append_assoc x first next)

-- and some replies
pub replies_append : (a b c : Option (List Entry)) (text more : List ℕ) → LogsReplies a b text
    → LogsReplies b c more
    → LogsReplies a c (text ++ more)
replies_append a b c text more first next = record {
  entries = first.entries ++ next.entries;
  logged = logs_append a b c first.entries next.entries first.logged next.logged;
  said = flat_map-append reply_of first.entries next.entries
      ∙ ap₂ (λ (x y : List ℕ). x ++ y) first.said next.said;
}

-- the entry of a line that hasn't ended has no reply
no_reply : (e : Option Ended) (line : List ℕ) → said_in (unended_in e line) ≡ []
no_reply (Some (Turn why)) line = refl
no_reply (Some TooLong) line = refl
no_reply None line = refl

-- the replies to a piece
pub piece_logged : {A : Type 0} (k : Contents) (seat : ℕ) (faults : TurnFault → Type 0) (now : Stamp)
    (room : Room) (e : Option Ended) (o p : Vec ℕ A) (a b : Option (List Entry)) (h : Hearing)
    (piece : List ℕ) (did : List Deed) (h' : Hearing) (text : List ℕ)
    → IsFedAt k seat faults e now room h piece did h' text → IfNone e (LogsPiece o p a b h piece h')
    → OnSome e (Logs a b []) → o.items ≡ [] → p.items ≡ o.items ++ text
    → LogsReplies a b text
piece_logged k seat faults now room (Some why) o p a b h piece did h' text fed none silent empty is =
    record { entries = []; logged = silent; said = sym fed.2 }
piece_logged k seat faults now room None o p a b h piece did h' text fed logs silent empty is = record {
  entries = logs.entries ++ unended_in h'.ended h'.begun.text;
  logged = logs.logged;
  said = flat_map-append reply_of logs.entries (unended_in h'.ended h'.begun.text)
      ∙ (ap (λ (t : List ℕ). said_in logs.entries ++ t) (no_reply h'.ended h'.begun.text)
      ∙ (append-nil (said_in logs.entries)
      ∙ (ap (λ (t : List ℕ). t ++ said_in logs.entries) (sym empty)
      ∙ (sym logs.appended ∙ (is ∙ ap (λ (t : List ℕ). t ++ text) empty)))));
}
