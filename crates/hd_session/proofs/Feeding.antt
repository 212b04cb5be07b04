-- Pieces that are fed one after the other.
use Rattle.std.proofs.Common.{◌≡◌, ◌⊎◌, inl, inr, ℕ, ◌+◌, ◌*◌, ◌≤◌, Bool, true, false, Option, None, Some}
use Rattle.std.proofs.Common.{List, [], ◌∷◌, ◌++◌, length}
use Rattle.std.proofs.Common.{Vec, if◌then◌else◌, arith, refl, sym, ap, ap₂, ◌∙◌, subst, append_assoc}
use Rattle.std.proofs.Common.{append-nil, length-append}
use Rattle.std.proofs.lemmas.Option.{none-some}
use Rattle.hd_date.specs.Stamps.{Stamp}
use Rattle.hd_catalogue.specs.Contents.{Contents}
use Rattle.hd_exchange.specs.Deeds.{Deed}
use Rattle.hd_field.specs.Streams.{Begun, begun_after, after_return, lines_in}
use Rattle.hd_journal.specs.declared.fault.TurnFault.{TurnFault}
use Rattle.hd_journal.specs.declared.office.Office.{Ghosts}
use Rattle.hd_session.specs.declared.ended.Ended.{Ended}
use Rattle.hd_session.specs.declared.ended.Ended.TheVariants as end
use Rattle.hd_session.specs.States.{State}
use Rattle.hd_session.specs.Sessions.{Answers, AreHeard, EndsAtLine, Feeds, Hearing, HearsAll, IsCause, IsFed}
use Rattle.hd_session.specs.Sessions.{IsFedAt, Room, room_of}
use Rattle.hd_session.proofs.Hearing.{answers_append, heard_append}

-- a session ends where its line has grown too long
abbrev pub end_of : Bool → Option Ended
end_of long = if long then Some end.TooLong else None

pub long_where_ended : (long : Bool) (why : Ended) → end_of long ≡ Some why → long ≡ true
long_where_ended true why is = refl
long_where_ended false why is = absurd (none-some why is)

pub short_where_open : (long : Bool) → end_of long ≡ None → long ≡ false
short_where_open true is = absurd (none-some end.TooLong (sym is))
short_where_open false is = refl

-- a session that hasn't ended has no line that is too long
abbrev pub IsSettled : Hearing → Type 0
IsSettled h = h.ended ≡ None → h.begun.too_long ≡ false

-- the lines of two pieces, and what has come of the next line after them
pub record Cuts : Type 0 where
  pub lines : (b : Begun) (first second : List ℕ) → lines_in b (first ++ second)
      ≡ lines_in b first ++ lines_in (begun_after b first) second
  pub rest : (b : Begun) (first second : List ℕ) → begun_after b (first ++ second)
      ≡ begun_after (begun_after b first) second

-- nothing is heard of a stream whose line is too long
nothing_heard : (b : Begun) (bytes : List ℕ) → b.too_long ≡ true
    → (lines_in b bytes ≡ []) × (b ≡ begun_after b bytes)
nothing_heard b [] long = (refl, refl)
nothing_heard b (byte ∷ bytes) long = rw long (refl, refl)

-- a cause at a line that more lines come before, with more room by what the replies to these take
pub cause_later : (k : Contents) (faults : TurnFault → Type 0) (room left : Room) (s : State)
    (more earlier all : ℕ) (line : List ℕ)
    (why : TurnFault) → all ≡ more + earlier → room.before ≤ left.before + 2048 * more
    → room.after ≤ left.after
    → IsCause k faults left s earlier line why → IsCause k faults room s all line why
cause_later k faults room left s more earlier all line why is fits leaves (inl turn) = inl turn
cause_later k faults room left s more earlier all line why is fits leaves (inr (memory, some, before, after))
    =
    inr (memory, some, omega (arith, is, fits, before), omega (arith, leaves, after))

module _ (cuts : Cuts) (k : Contents) (seat : ℕ) (faults : TurnFault → Type 0) (now : Stamp) where
  -- a piece that is heard whole, after another
  pub all_after_all : (first second : List ℕ) (did did' : List Deed) (h between h' : Hearing)
      (text text' : List ℕ)
      → HearsAll k seat now h first did between text → HearsAll k seat now between second did' h' text'
      → HearsAll k seat now h (first ++ second) (did ++ did') h' (text ++ text')
  all_after_all first second did did' h between h' text text' a b =
      let lines : lines_in h.begun (first ++ second)
      ≡ lines_in h.begun first ++ lines_in between.begun second =
      cuts.lines h.begun first second
      ∙ ap (λ (x : Begun). lines_in h.begun first ++ lines_in x second) (sym a.begun) in
      record {
        heard = subst (λ (ls : List (List ℕ)). AreHeard k seat now ls h.state (did ++ did') h'.state
            (text ++ text')) (sym lines)
            (heard_append k seat now (lines_in h.begun first) (lines_in between.begun second) h.state
            between.state h'.state
            did did' text text' a.heard b.heard);
        begun = b.begun ∙ (ap (λ (x : Begun). begun_after x second) a.begun
            ∙ sym (cuts.rest h.begun first second));
        ended = b.ended;
      }

  -- one that ends the session, after another
  pub end_after_all : (room left : Room) (first second : List ℕ) (did did' : List Deed)
      (h between h' : Hearing) (text text' : List ℕ)
      → room.before ≤ left.before + 2048 * length (lines_in h.begun first) → room.after ≤ left.after
      → HearsAll k seat now h first did between text
      → EndsAtLine k seat faults now left between second did' h' text'
      → EndsAtLine k seat faults now room h (first ++ second) (did ++ did') h' (text ++ text')
  end_after_all room left first second did did' h between h' text text' fits leaves a b =
      let lines : lines_in h.begun (first ++ second)
      ≡ lines_in h.begun first ++ lines_in between.begun second =
      cuts.lines h.begun first second
      ∙ ap (λ (x : Begun). lines_in h.begun first ++ lines_in x second) (sym a.begun) in
      record {
        before = lines_in h.begun first ++ b.before;
        line = b.line;
        later = b.later;
        split = lines ∙ (ap (λ (ls : List (List ℕ)). lines_in h.begun first ++ ls) b.split
            ∙ sym (append_assoc (lines_in h.begun first) b.before (b.line ∷ b.later)));
        heard = heard_append k seat now (lines_in h.begun first) b.before h.state between.state h'.state did
            did' text text'
            a.heard b.heard;
        why = b.why;
        cause = cause_later k faults room left h'.state (length (lines_in h.begun first)) (length b.before)
            (length (lines_in h.begun first ++ b.before)) b.line b.why
            (length-append (lines_in h.begun first) b.before) fits leaves b.cause;
        begun = b.begun;
        ended = b.ended;
      }

  -- what comes after the end of a session
  pub long_then_more : (first second : List ℕ) (did : List Deed) (h between : Hearing) (text : List ℕ)
      → between.begun.too_long ≡ true → HearsAll k seat now h first did between text
      → HearsAll k seat now h (first ++ second) did between text
  long_then_more first second did h between text long a =
      let dead = nothing_heard between.begun second long in
      let lines : lines_in h.begun (first ++ second) ≡ lines_in h.begun first =
      cuts.lines h.begun first second
      ∙ (ap (λ (x : Begun). lines_in h.begun first ++ lines_in x second) (sym a.begun)
      ∙ (ap (λ (ls : List (List ℕ)). lines_in h.begun first ++ ls) dead.0
      ∙ append-nil (lines_in h.begun first))) in
      record {
        heard = subst (λ (ls : List (List ℕ)). AreHeard k seat now ls h.state did between.state text)
            (sym lines) a.heard;
        begun = dead.1 ∙ (ap (λ (x : Begun). begun_after x second) a.begun
            ∙ sym (cuts.rest h.begun first second));
        ended = a.ended;
      }

  pub end_then_more : (room : Room) (first second : List ℕ) (did : List Deed) (h between : Hearing)
      (text : List ℕ)
      → EndsAtLine k seat faults now room h first did between text
      → EndsAtLine k seat faults now room h (first ++ second) did between text
  end_then_more room first second did h between text a = record {
    before = a.before;
    line = a.line;
    later = a.later ++ lines_in (begun_after h.begun first) second;
    split = cuts.lines h.begun first second
        ∙ (ap (λ (ls : List (List ℕ)). ls ++ lines_in (begun_after h.begun first) second) a.split
        ∙ append_assoc a.before (a.line ∷ a.later) (lines_in (begun_after h.begun first) second));
    heard = a.heard;
    why = a.why;
    cause = a.cause;
    begun = a.begun;
    ended = a.ended;
  }

  -- a piece after another, where the session had ended before the first, or between them, or not
  pub one_after_other : (e e' : Option Ended) (room left : Room) (first second : List ℕ)
      (did did' : List Deed) (h between h' : Hearing)
      (text text' : List ℕ) → room.before ≤ left.before + 2048 * length (lines_in h.begun first)
      → room.after ≤ left.after
      → h.ended ≡ e → between.ended ≡ e'
      → IsFedAt k seat faults e now room h first did between text
      → IsFedAt k seat faults e' now left between second did' h' text'
      → IsFedAt k seat faults e now room h (first ++ second) (did ++ did') h' (text ++ text')
  one_after_other (Some why) (Some then_why) room left first second did did' h between h' text text' fits
      leaves is next a b =
      (ap₂ (λ (x y : List Deed). x ++ y) a.0 b.0, b.1 ∙ a.1, ap₂ (λ (x y : List ℕ). x ++ y) a.2 b.2)
  one_after_other (Some why) None room left first second did did' h between h' text text' fits leaves
      is next a b =
      absurd (none-some why (sym next ∙ (ap (λ (x : Hearing). x.ended) a.1 ∙ is)))
  one_after_other None (Some why) room left first second did did' h between h' text text' fits leaves is
      next (inl a) b =
      inl (rw (b.0, b.1, b.2, append-nil did, append-nil text)
      (long_then_more first second did h between text
      (long_where_ended between.begun.too_long why (sym a.ended ∙ next)) a))
  one_after_other None (Some why) room left first second did did' h between h' text text' fits leaves is
      next (inr a) b =
      inr (rw (b.0, b.1, b.2, append-nil did, append-nil text)
      (end_then_more room first second did h between text a))
  one_after_other None None room left first second did did' h between h' text text' fits leaves is next
      (inl a) (inl b) =
      inl (all_after_all first second did did' h between h' text text' a b)
  one_after_other None None room left first second did did' h between h' text text' fits leaves is next
      (inl a) (inr b) =
      inr (end_after_all room left first second did did' h between h' text text' fits leaves a b)
  one_after_other None None room left first second did did' h between h' text text' fits leaves is
      next (inr a) b =
      absurd (none-some (end.Turn a.why) (sym next ∙ a.ended))

  pub fed_after_fed : (room left : Room) (first second : List ℕ) (did did' : List Deed)
      (h between h' : Hearing) (text text' : List ℕ)
      → room.before ≤ left.before + 2048 * length (lines_in h.begun first) → room.after ≤ left.after
      → IsFed k seat faults now room h first did between text
      → IsFed k seat faults now left between second did' h' text'
      → IsFed k seat faults now room h (first ++ second) (did ++ did') h' (text ++ text')
  fed_after_fed room left first second did did' h between h' text text' fits leaves a b =
      one_after_other h.ended between.ended room left first second did did' h between h' text text' fits
      leaves refl refl a b

module _ (k : Contents) (seat : ℕ) (faults : TurnFault → Type 0) (now : Stamp) where
  -- with less room
  less_room_at : (e : Option Ended) (room less : Room) (piece : List ℕ) (did : List Deed) (h h' : Hearing)
      (text : List ℕ)
      → less.before ≤ room.before → less.after ≤ room.after
      → IsFedAt k seat faults e now room h piece did h' text
      → IsFedAt k seat faults e now less h piece did h' text
  less_room_at (Some why) room less piece did h h' text fits leaves a = a
  less_room_at None room less piece did h h' text fits leaves (inl a) = inl a
  less_room_at None room less piece did h h' text fits leaves (inr a) = inr (record {
    before = a.before;
    line = a.line;
    later = a.later;
    split = a.split;
    heard = a.heard;
    why = a.why;
    cause = cause_later k faults less room h'.state 0 (length a.before) (length a.before) a.line a.why
        (omega arith)
        (omega (arith, fits)) leaves a.cause;
    begun = a.begun;
    ended = a.ended;
  })

  pub less_room : (room less : Room) (piece : List ℕ) (did : List Deed) (h h' : Hearing) (text : List ℕ)
      → less.before ≤ room.before → less.after ≤ room.after
      → IsFed k seat faults now room h piece did h' text → IsFed k seat faults now less h piece did h' text
  less_room room less piece did h h' text fits leaves fed =
      less_room_at h.ended room less piece did h h' text fits leaves fed

  -- a session that has ended hears nothing
  pub fed_ended : (room : Room) (piece : List ℕ) (h : Hearing) (why : Ended) → h.ended ≡ Some why
      → IsFed k seat faults now room h piece [] h []
  fed_ended room piece h why is =
      subst (λ (e : Option Ended). IsFedAt k seat faults e now room h piece [] h []) (sym is)
      (refl, refl, refl)

  -- and one that hasn't, some of it
  pub fed_open : (room : Room) (piece : List ℕ) (did : List Deed) (h h' : Hearing) (text : List ℕ) → h.ended
      ≡ None
      → HearsAll k seat now h piece did h' text ⊎ EndsAtLine k seat faults now room h piece did h' text
      → IsFed k seat faults now room h piece did h' text
  fed_open room piece did h h' text is hears =
      subst (λ (e : Option Ended). IsFedAt k seat faults e now room h piece did h' text) (sym is) hears

  -- nothing is fed
  pub nothing_fed_at : (e : Option Ended) (room : Room) (h : Hearing) → h.ended ≡ e → IsSettled h
      → IsFedAt k seat faults e now room h [] [] h []
  nothing_fed_at (Some why) room h is settled = (refl, refl, refl)
  nothing_fed_at None room h is settled = inl (record {
    heard = (refl, refl, refl);
    begun = refl;
    ended = is ∙ sym (ap end_of (settled is));
  })

  -- a session stays settled
  pub settled_at : (e : Option Ended) (room : Room) (piece : List ℕ) (did : List Deed) (h h' : Hearing)
      (text : List ℕ) → h.ended ≡ e
      → IsFedAt k seat faults e now room h piece did h' text → IsSettled h'
  settled_at (Some why) room piece did h h' text is a none =
      absurd (none-some why (sym none ∙ (ap (λ (x : Hearing). x.ended) a.1 ∙ is)))
  settled_at None room piece did h h' text is (inl a) none =
      short_where_open h'.begun.too_long (sym a.ended ∙ none)
  settled_at None room piece did h h' text is (inr a) none =
      absurd (none-some (end.Turn a.why) (sym none ∙ a.ended))

-- At an office.
module _ {A O : Type 0} (office : Ghosts O A) (now : Stamp) where
  -- a session that has ended hears nothing
  pub feeds_ended : (old : O) (o : Vec ℕ A) (piece : List ℕ) (h : Hearing) (why : Ended) → h.ended ≡ Some why
      → Feeds office old old o o now h piece h
  feeds_ended old o piece h why is = record {
    did = [];
    text = [];
    fed = fed_ended (office.keeps old).contents (office.keeps old).seat office.faults now (room_of o o) piece
        h why is;
    works = record {
      turns = sym (append-nil (office.turns old));
      shown = tt;
      same = refl;
      holds =
          λ held. held;
    };
    extends = record { items = sym (append-nil o.items); len = omega arith; capacity = omega arith };
    short = omega arith;
    known = λ known. known;
  }

  -- the lines of a piece are answered up to one that can't be
  pub feeds_until : (old between new : O) (o p q : Vec ℕ A) (piece : List ℕ) (h h' : Hearing) (s : State)
      (before later : List (List ℕ))
      (line : List ℕ) (why : TurnFault) → h.ended ≡ None → lines_in h.begun piece ≡ before ++ line ∷ later
      → h'.begun ≡ after_return → h'.ended ≡ Some (end.Turn why)
      → Answers office old between o p now before h.state s → Answers office between new p q now [] s h'.state
      → IsCause (office.keeps between).contents office.faults (room_of p q) s 0 line why
      → Feeds office old new o q now h piece h'
  feeds_until old between new o p q piece h h' s before later line why is split begun ended earlier
      none cause =
      let all : Answers office old new o q now before h.state h'.state =
      rw append-nil at (answers_append office now old between new o p q before [] h.state s h'.state earlier
      none) in
      let here : IsCause (office.keeps old).contents office.faults (room_of p q) h'.state 0 line why =
      rw none.heard.1 (rw earlier.works.same at cause) in
      record {
        did = all.did;
        text = all.text;
        fed = fed_open _ _ office.faults now (room_of o q) piece all.did h h' all.text is (inr (record {
          before = before;
          line = line;
          later = later;
          split = split;
          heard = all.heard;
          why = why;
          cause = cause_later _ office.faults (room_of o q) (room_of p q) h'.state (length before) 0
              (length before) line why (omega arith)
              (omega (arith, earlier.short, earlier.extends.len, earlier.extends.capacity)) (omega arith)
              here;
          begun = begun;
          ended = ended;
        }));
        works = all.works;
        extends = all.extends;
        short = omega (
          arith,
          all.short,
          ap (λ (ls : List (List ℕ)). length ls) split,
          length-append before
              (line ∷ later),
        );
        known = all.known;
      }
