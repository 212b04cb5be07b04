-- Lines that are answered one after the other.
use Rattle.std.proofs.Common.{◌≡◌, ◌==◌, ℕ, suc, Option, List, [], ◌∷◌, ◌++◌, length}
use Rattle.std.proofs.Common.{true, false, true≢false, eqb-true, zero-lt-suc, arith, refl, sym, ap, ◌∙◌}
use Rattle.std.proofs.Common.{subst}
use Rattle.std.proofs.Common.{◌+◌, ◌≤◌, Vec, vec_capacity, append_assoc, append-nil, length-append}
use Rattle.hd_date.specs.Stamps.{Stamp}
use Rattle.hd_rules.specs.Journal.{Turn}
use Rattle.hd_catalogue.specs.Contents.{Contents}
use Rattle.hd_journal.specs.declared.office.Office.{Ghosts}
use Rattle.hd_exchange.specs.Answers.{IsAnswer}
use Rattle.hd_exchange.specs.Deeds.{AreShown, Deed, turns_in}
use Rattle.hd_exchange.specs.Extensions.{Extensions}
use Rattle.hd_exchange.specs.Works.{Extends, Works}
use Rattle.hd_session.proofs.Deeds.{shown_append, turns_append}
use Rattle.hd_session.specs.States.{State, IsHeard, IsReadAndAnswered}
use Rattle.hd_guard.specs.Reading.{Reading, read_line}
use Rattle.hd_exchange.specs.declared.login.Login.{Login}
use Rattle.hd_exchange.specs.declared.reply_kind.ReplyKind.{ReplyKind}
use Rattle.hd_session.specs.Sessions.{AreHeard, Answers, IsSomeLine, StaysKnown}

-- one line alone
pub one_heard : (k : Contents) (seat : ℕ) (now : Stamp) (line : List ℕ) (s : State) (did : List Deed)
    (next : State) (text : List ℕ)
    → IsHeard k seat now s line did next text → AreHeard k seat now (line ∷ []) s did next text
one_heard k seat now line s did next text heard = record {
  first_did = did;
  then_did = [];
  between = next;
  first_text = text;
  then_text = [];
  first = heard;
  rest = (refl, refl, refl);
  all_did = sym (append-nil did);
  all_text = sym (append-nil text);
}

-- some lines, and then some more
pub heard_append : (k : Contents) (seat : ℕ) (now : Stamp) (lines more : List (List ℕ))
    (s between next : State)
    (did then_did : List Deed) (text then_text : List ℕ)
    → AreHeard k seat now lines s did between text → AreHeard k seat now more between then_did next then_text
    → AreHeard k seat now (lines ++ more) s (did ++ then_did) next (text ++ then_text)
heard_append k seat now [] more s between next did then_did text then_text (none, same, nothing) rest =
    let at : AreHeard k seat now more s then_did next then_text = subst
    (λ (b : State). AreHeard k seat now more b then_did next then_text) same rest in
    let turns : AreHeard k seat now more s (did ++ then_did) next then_text = subst
    (λ (m : List Deed). AreHeard k seat now more s (m ++ then_did) next then_text) (sym none) at in
    subst (λ (t : List ℕ). AreHeard k seat now more s (did ++ then_did) next (t ++ then_text)) (sym nothing)
    turns
heard_append k seat now (line ∷ lines) more s between next did then_did text then_text first rest = record {
  first_did = first.first_did;
  then_did = first.then_did ++ then_did;
  between = first.between;
  first_text = first.first_text;
  then_text = first.then_text ++ then_text;
  first = first.first;
  rest = heard_append k seat now lines more first.between between next first.then_did then_did first.then_text
      then_text first.rest rest;
  all_did = ap (λ (m : List Deed). m ++ then_did) first.all_did
      ∙ append_assoc first.first_did first.then_did then_did;
  all_text = ap (λ (t : List ℕ). t ++ then_text) first.all_text
      ∙ append_assoc first.first_text first.then_text then_text;
}

-- an answer, of a session that stands there
pub answer_of : (k : Contents) (e e' : Extensions) (seat : ℕ) (now : Stamp) (login login' : Option Login)
    (line line' : Option (List ℕ)) (body : List ℕ)
    (says : ReplyKind) (reply : List ℕ) (did : List Deed) (next next' : Option Login)
    → e ≡ e' → login ≡ login' → line ≡ line' → next ≡ next'
    → IsAnswer k e seat now login line body says reply did next
    → IsAnswer k e' seat now login' line' body says reply did next'
answer_of k e e' seat now login login' line line' body says reply did next next' on here same there answer =
    subst (λ (n : Option Login). IsAnswer k e' seat now login' line' body says reply did n) there
    (subst (λ (l : Option (List ℕ)). IsAnswer k e' seat now login' l body says reply did next) same
    (subst (λ (p : Option Login). IsAnswer k e' seat now p line body says reply did next) here
    (subst (λ (x : Extensions). IsAnswer k x seat now login line body says reply did next) on answer)))

-- an empty line
pub empty_heard : (k : Contents) (seat : ℕ) (now : Stamp) (s : State) (line : List ℕ) → (length line == 0)
    ≡ true
    → IsHeard k seat now s line [] s []
empty_heard k seat now s [] none = (refl, refl, refl)
empty_heard k seat now s (byte ∷ bytes) none =
    let no : suc (length bytes) ≡ 0 = eqb-true _ _ none in absurd (omega (arith, no))

-- and one that isn't
pub some_line : (line : List ℕ) → (length line == 0) ≡ false → IsSomeLine line
some_line [] some = absurd (true≢false some)
some_line (byte ∷ bytes) some = zero-lt-suc _

-- a line with this trailer
pub read_heard : (k : Contents) (seat : ℕ) (now : Stamp) (s : State) (line : List ℕ) (reading : Reading)
    (did : List Deed)
    (next : State) (text : List ℕ) → IsSomeLine line → reading ≡ read_line line
    → IsReadAndAnswered k seat now s line reading did next text → IsHeard k seat now s line did next text
read_heard k seat now s [] reading did next text some is answered = absurd (omega (arith, some))
read_heard k seat now s (byte ∷ bytes) reading did next text some is answered =
    subst (λ (r : Reading). IsReadAndAnswered k seat now s (byte ∷ bytes) r did next text) is answered

-- a text that is appended where no room is lost
pub extends_by : {A : Type 0} (out out' : Vec ℕ A) (text : List ℕ) → out'.items ≡ out.items ++ text
    → vec_capacity out ≤ vec_capacity out' → Extends out out' text
extends_by out out' text items capacity = record {
  items = items;
  len = out'.ok.0 ∙ (ap (λ (bytes : List ℕ). length bytes) items
      ∙ (length-append out.items text ∙ ap (λ (n : ℕ). n + length text) (sym out.ok.0)));
  capacity = capacity;
}

module _ {A O : Type 0} (office : Ghosts O A) where
  -- what an office does, and then does more
  pub works_append : (old between new : O) (did more : List Deed) → Works office old between did
      → Works office between new more
      → Works office old new (did ++ more)
  works_append old between new did more first rest = record {
    turns = rest.turns ∙ (ap (λ (t : List Turn). t ++ turns_in more) first.turns
        ∙ (append_assoc (office.turns old) (turns_in did) (turns_in more)
        ∙ ap (λ (t : List Turn). office.turns old ++ t) (sym (turns_append did more))));
    shown = shown_append (office.keeps old).contents office.shows (office.turns old) did more first.shown
        (subst (λ (t : List Turn). AreShown (office.keeps old).contents office.shows t more) first.turns
        (rw first.same at rest.shown));
    same = rest.same ∙ first.same;
    holds = λ held. rest.holds (first.holds held);
  }

  -- a text that is appended, and then another
  pub extends_append : (o p q : Vec ℕ A) (text more : List ℕ) → Extends o p text → Extends p q more
      → Extends o q (text ++ more)
  extends_append o p q text more first rest = record {
    items = rest.items ∙ (ap (λ (t : List ℕ). t ++ more) first.items ∙ append_assoc o.items text more);
    len = omega (arith, first.len, rest.len, length-append text more);
    capacity = omega (arith, first.capacity, rest.capacity);
  }

  module _ (now : Stamp) where
    -- nothing is answered yet
    pub answers_none : (old : O) (o : Vec ℕ A) (s : State) → Answers office old old o o now [] s s
    answers_none old o s = record {
      did = [];
      text = [];
      heard = (refl, refl, refl);
      works = record { turns = sym (append-nil _); shown = tt; same = refl; holds = λ held. held };
      extends = record { items = sym (append-nil _); len = omega arith; capacity = omega arith };
      short = omega arith;
      known = λ known. known;
    }

    -- what is answered to some lines, and then to some more
    pub answers_append : (old between new : O) (o p q : Vec ℕ A) (lines more : List (List ℕ))
        (s then next : State)
        → Answers office old between o p now lines s then → Answers office between new p q now more then next
        → Answers office old new o q now (lines ++ more) s next
    answers_append old between new o p q lines more s then next first rest =
        let same = first.works.same in
        record {
          did = first.did ++ rest.did;
          text = first.text ++ rest.text;
          heard = heard_append _ _ now lines more s then next first.did rest.did first.text rest.text
              first.heard (rw same at rest.heard);
          works = works_append old between new first.did rest.did first.works rest.works;
          extends = extends_append o p q first.text rest.text first.extends rest.extends;
          short = omega (
            arith,
            first.short,
            rest.short,
            length-append first.text rest.text,
            length-append
                lines more,
          );
          known = λ known. (rw same at rest.known) (first.known known);
        }

    -- an empty line is answered nothing
    pub answers_empty : (old : O) (o : Vec ℕ A) (line : List ℕ) (s : State) → (length line == 0) ≡ true
        → Answers office old old o o now (line ∷ []) s s
    answers_empty old o line s none = record {
      did = [];
      text = [];
      heard = one_heard _ _ now line s [] s [] (empty_heard _ _ now s line none);
      works = record { turns = sym (append-nil _); shown = tt; same = refl; holds = λ held. held };
      extends = record { items = sym (append-nil _); len = omega arith; capacity = omega arith };
      short = omega arith;
      known = λ known. known;
    }

    -- what is answered to a line with this trailer
    pub answers_read : (old new : O) (o p : Vec ℕ A) (line : List ℕ) (reading : Reading) (s : State)
        (did : List Deed) (next : State)
        (text : List ℕ) → IsSomeLine line → reading ≡ read_line line
        → IsReadAndAnswered (office.keeps old).contents (office.keeps old).seat now s line reading did next
        text
        → Works office old new did → Extends o p text → length text ≤ 2048
        → StaysKnown (office.keeps old).contents s next
        → Answers office old new o p now (line ∷ []) s next
    answers_read old new o p line reading s did next text some is answered works extends short known =
        record {
          did = did;
          text = text;
          heard = one_heard _ _ now line s did next text
              (read_heard _ _ now s line reading did next text some is answered);
          works = works;
          extends = extends;
          short = short;
          known = known;
        }

-- one line less is left
pub line_taken : (all lines left later : List (List ℕ)) (line : List ℕ) → all ≡ lines ++ left → left
    ≡ line ∷ later
    → all ≡ (lines ++ line ∷ []) ++ later
line_taken all lines left later line whole first =
    whole ∙ (ap (λ (l : List (List ℕ)). lines ++ l) first ∙ sym (append_assoc lines (line ∷ []) later))
