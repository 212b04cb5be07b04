-- What a session logs, line by line.
use Rattle.std.proofs.Common.{◌≡◌, ◌==◌, ℕ, suc, Bool, false, Option, None, Some, List, [], ◌∷◌, ◌++◌, Vec, refl, sym, ap, ap₂}
use Rattle.std.proofs.Common.{◌-◌, ◌∙◌, take, subst, append_assoc, append-nil, length, drop, arith, true, eqb-true}
use Rattle.std.proofs.Math.Seq.{drop-append_seam, take-length}
use Rattle.std.proofs.lemmas.List.{length-drop}
use Rattle.std.proofs.lemmas.Grind.{flat_map-append}
use Rattle.hd_date.specs.Stamps.{Stamp}
use Rattle.hd_guard.specs.Reading.{read_line}
use Rattle.hd_exchange.specs.declared.login.Login.{Login}
use Rattle.hd_field.specs.Streams.{lines_in}
use Rattle.hd_journal.specs.declared.fault.TurnFault.{TurnFault}
use Rattle.hd_session.specs.declared.ended.Ended.{Ended}
use Rattle.hd_session.specs.declared.ended.Ended.TheVariants as end
use Rattle.hd_session.specs.States.{State}
use Rattle.hd_session.specs.Sessions.{Hearing, IsSomeLine}
use Rattle.hd_session.specs.Logs.{Answer, AreHeardOf, Entry, Heard, Logs, LogsLine, LogsLines, LogsPiece, Said}
use Rattle.hd_session.specs.Logs.{Unended, body_of, entries_of, heard_in, line_of, reply_of, said_in, unended_in}
use Rattle.hd_session.proofs.Feeding.{end_of}

-- some entries, and then some more
pub logs_append : (a b c : Option (List Entry)) (first next : List Entry) → Logs a b first → Logs b c next
    → Logs a c (first ++ next)
logs_append None b c first next p q = tt
logs_append (Some x) None c first next p q = absurd p
logs_append (Some x) (Some y) None first next p q = absurd q
logs_append (Some x) (Some y) (Some z) first next p q =
    q ∙ (ap (λ (l : List Entry). l ++ next) p ∙ append_assoc x first next)

-- where no text is appended, an out has what it had
pub nothing_appended : {A : Type 0} (p q : Vec ℕ A) (text : List ℕ) → q.items ≡ p.items ++ text → text ≡ []
    → q.items ≡ p.items
nothing_appended p q text is none = is ∙ (ap (λ (t : List ℕ). p.items ++ t) none ∙ append-nil p.items)

-- all that a text has from a place on
pub tail_is : (all text : List ℕ) (from place : ℕ) → all ≡ text → from ≡ place
    → take (length all - from) (drop from all) ≡ drop place text
tail_is all text from place same at =
    ap (λ (n : ℕ). take n (drop from all)) (sym (length-drop from all)) ∙ (take-length (drop from all)
    ∙ ap₂ (λ (n : ℕ) (t : List ℕ). drop n t) at same)

-- the line of a line's entries
one_heard : (now : Stamp) (line : List ℕ) (next : State) (text : List ℕ)
    → heard_in (entries_of now line next text) ≡ line ∷ []
one_heard now [] next text = refl
one_heard now (byte ∷ bytes) next text = refl

-- an answer, from its parts
answer_is : (answer : Answer) (now : Stamp) (body : Option (List ℕ)) (login : Option Login) (reply : List ℕ)
    → answer.present ≡ now → answer.body ≡ body → answer.login ≡ login → answer.reply ≡ reply
    → answer ≡ record { present = now; body = body; login = login; reply = reply }
answer_is answer now body login reply at is whose said = rw (← at, ← is, ← whose, ← said) refl

-- the entries of a line that isn't empty
entries_are : (now : Stamp) (line text : List ℕ) (next : State) (answer : Answer) → IsSomeLine line
    → answer.present ≡ now → answer.body ≡ body_of (read_line line) → answer.login ≡ next.login
    → answer.reply ≡ text
    → Heard line ∷ Said answer ∷ [] ≡ entries_of now line next text
entries_are now [] text next answer some at body login reply = absurd (omega (arith, some))
entries_are now (byte ∷ bytes) text next answer some at body login reply =
    ap (λ (a : Answer). Heard (byte ∷ bytes) ∷ Said a ∷ [])
    (answer_is answer now (body_of (read_line (byte ∷ bytes))) next.login text at body login reply)

-- a session that goes on, or has a line too long, has heard all lines, and the beginning of the next
all_heard : (long : Bool) (lines heard : List (List ℕ)) → heard ≡ lines → AreHeardOf (end_of long) lines heard
all_heard true lines heard same = same
all_heard false lines heard same = same

unended_is : (long : Bool) (line : List ℕ) → unended_in (end_of long) line ≡ Unended line ∷ []
unended_is true line = refl
unended_is false line = refl

module _ {A : Type 0} where
  -- an empty line
  pub empty_logged : (o : Vec ℕ A) (a b : Option (List Entry)) (now : Stamp) (line : List ℕ) (s : State)
      → (length line == 0) ≡ true → Logs a b (Heard line ∷ [])
      → LogsLine o o a b now line s
  empty_logged o a b now [] s none logged =
      record { text = []; logged = logged; appended = sym (append-nil o.items) }
  empty_logged o a b now (byte ∷ bytes) s none logged =
      let no : suc (length bytes) ≡ 0 = eqb-true _ _ none in absurd (omega (arith, no))

  -- and one that isn't: its reply comes after what the out had
  pub line_logged : (o p : Vec ℕ A) (a b c : Option (List Entry)) (now : Stamp) (line : List ℕ) (next : State)
      (text : List ℕ) (answer : Answer) → IsSomeLine line → p.items ≡ o.items ++ text
      → Logs a b (Heard line ∷ []) → Logs b c (Said answer ∷ [])
      → answer.present ≡ now → answer.body ≡ body_of (read_line line) → answer.login ≡ next.login
      → answer.reply ≡ drop (length o.items) p.items
      → LogsLine o p a c now line next
  line_logged o p a b c now line next text answer some appended hears says at body login reply =
      let all : answer.reply ≡ text =
      reply ∙ (ap (λ (t : List ℕ). drop (length o.items) t) appended ∙ drop-append_seam o.items text) in
      let same : Heard line ∷ Said answer ∷ [] ≡ entries_of now line next text =
      entries_are now line text next answer some at body login all in
      record {
        text = text;
        logged = subst (λ (e : List Entry). Logs a c e) same
            (logs_append a b c (Heard line ∷ []) (Said answer ∷ []) hears says);
        appended = appended ∙ ap (λ (t : List ℕ). o.items ++ t)
            (sym (append-nil text) ∙ ap (λ (t : List ℕ). t ++ []) (sym all)
            ∙ ap (λ (e : List Entry). said_in e) same);
      }

  -- no line is logged yet
  pub lines_none : (o : Vec ℕ A) (log : Option (List Entry)) → LogsLines o o log log []
  lines_none o None = record { entries = []; heard = refl; logged = tt; appended = sym (append-nil o.items) }
  lines_none o (Some before) = record {
    entries = [];
    heard = refl;
    logged = sym (append-nil before);
    appended = sym (append-nil o.items);
  }

  -- some lines, and then one more
  pub lines_more : (o p q : Vec ℕ A) (a b c : Option (List Entry)) (lines : List (List ℕ)) (now : Stamp)
      (line : List ℕ) (next : State)
      → LogsLines o p a b lines → LogsLine p q b c now line next
      → LogsLines o q a c (lines ++ line ∷ [])
  lines_more o p q a b c lines now line next first one =
      let more = entries_of now line next one.text in
      record {
        entries = first.entries ++ more;
        heard = flat_map-append line_of first.entries more
            ∙ ap₂ (λ (x y : List (List ℕ)). x ++ y) first.heard (one_heard now line next one.text);
        logged = logs_append a b c first.entries more first.logged one.logged;
        appended = one.appended ∙ (ap (λ (t : List ℕ). t ++ said_in more) first.appended
            ∙ (append_assoc o.items (said_in first.entries) (said_in more)
            ∙ ap (λ (t : List ℕ). o.items ++ t) (sym (flat_map-append reply_of first.entries more))));
      }

  -- a piece that is heard whole
  pub piece_whole : (o p : Vec ℕ A) (a b c : Option (List Entry)) (piece : List ℕ) (h h' : Hearing)
      (lines : List (List ℕ)) (long : Bool) → lines_in h.begun piece ≡ lines ++ [] → h'.ended ≡ end_of long
      → LogsLines o p a b lines → Logs b c (Unended h'.begun.text ∷ [])
      → LogsPiece o p a c h piece h'
  piece_whole o p a b c piece h h' lines long whole ended earlier unended = record {
    entries = earlier.entries;
    heard = subst (λ (e : Option Ended). AreHeardOf e (lines_in h.begun piece) (heard_in earlier.entries))
        (sym ended) (all_heard long (lines_in h.begun piece) (heard_in earlier.entries)
        (earlier.heard ∙ sym (whole ∙ append-nil lines)));
    logged = subst (λ (e : Option Ended). Logs a c (earlier.entries ++ unended_in e h'.begun.text))
        (sym ended) (subst (λ (u : List Entry). Logs a c (earlier.entries ++ u))
        (sym (unended_is long h'.begun.text))
        (logs_append a b c earlier.entries (Unended h'.begun.text ∷ []) earlier.logged unended));
    appended = earlier.appended;
  }

  -- a piece that is heard up to a line at which the session ends
  pub piece_until : (o p q : Vec ℕ A) (a b c : Option (List Entry)) (piece : List ℕ) (h h' : Hearing)
      (before later : List (List ℕ)) (line : List ℕ) (why : TurnFault)
      → lines_in h.begun piece ≡ before ++ line ∷ later → h'.ended ≡ Some (end.Turn why) → q.items ≡ p.items
      → LogsLines o p a b before → Logs b c (Heard line ∷ [])
      → LogsPiece o q a c h piece h'
  piece_until o p q a b c piece h h' before later line why split ended same earlier heard =
      let entries = earlier.entries ++ Heard line ∷ [] in
      let said : said_in entries ≡ said_in earlier.entries =
      flat_map-append reply_of earlier.entries (Heard line ∷ []) ∙ append-nil (said_in earlier.entries) in
      let lines : heard_in entries ≡ before ++ line ∷ [] =
      flat_map-append line_of earlier.entries (Heard line ∷ [])
      ∙ ap (λ (ls : List (List ℕ)). ls ++ line ∷ []) earlier.heard in
      record {
        entries = entries;
        heard = subst (λ (e : Option Ended). AreHeardOf e (lines_in h.begun piece) (heard_in entries))
            (sym ended) (
              later,
              split ∙ (sym (append_assoc before (line ∷ []) later)
                  ∙ ap (λ (ls : List (List ℕ)). ls ++ later) (sym lines)),
            );
        logged = subst (λ (e : Option Ended). Logs a c (entries ++ unended_in e h'.begun.text)) (sym ended)
            (subst (λ (all : List Entry). Logs a c all) (sym (append-nil entries))
            (logs_append a b c earlier.entries (Heard line ∷ []) earlier.logged heard));
        appended = same ∙ (earlier.appended ∙ ap (λ (t : List ℕ). o.items ++ t) (sym said));
      }
