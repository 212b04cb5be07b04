-- Lines that are replayed one after the other.
use Rattle.std.proofs.Common.{inl, ◌≡◌, ◌∙◌, ◌+◌, ℕ, zero, suc, List, [], ◌∷◌, ◌++◌, Result, Ok, Err, IsErr}
use Rattle.std.proofs.Common.{IsErrAnd, IfOk, OnOk, map, set}
use Rattle.std.proofs.Common.{arith, refl, sym, ap, subst, append_assoc, append-nil, length-append, take}
use Rattle.std.proofs.Common.{drop, take-append-drop}
use Rattle.std.proofs.lemmas.Bool.{false≢true}
use Rattle.std.proofs.lemmas.List.{map-append}
use Rattle.std.proofs.lemmas.List.Elements.{All-append}
use Rattle.std.specs.List.{All}
use Rattle.hd_date.specs.Stamps.{Stamp}
use Rattle.hd_rules.specs.Journal.{Turn}
use Rattle.hd_catalogue.specs.Contents.{Contents}
use Rattle.hd_exchange.specs.Deeds.{AreShown}
use Rattle.hd_session.specs.Scripts.{AreFed, Event, Step, deeds_of, turns_of}
use Rattle.hd_session.specs.Sessions.{Hearing}
use Rattle.hd_connection.specs.Streams.{IsCutShort}
use Rattle.hd_replay.specs.declared.fault.ReplayFault.{ReplayFault}
use Rattle.hd_replay.specs.declared.fault.ReplayFault.TheVariants.{Catalogue, BadNow, NoSession, InputTooLong}
use Rattle.hd_replay.specs.declared.fault.ReplayFault.TheVariants.{Read, Write, Memory}
use Rattle.hd_replay.specs.Inputs.{HasSession, IsLineOf, InputMessage, line_of}
use Rattle.hd_replay.specs.Printing.{ArePrinted}
use Rattle.hd_replay.specs.Replays.{AllReplayed, AreWellToLast, IsOfLine, IsWell, PartReplayed, Progress}
use Rattle.hd_replay.specs.Replays.{Replayed, ReplayedUpTo, Replays}
use Rattle.hd_replay.specs.Replays.{StoppedAt, faults, shows, step_of}
use Rattle.hd_replay.proofs.Deeds.{shown_of_append, turns_of_append}
use Rattle.hd_replay.proofs.Lining.{all_none}

-- what is printed of some events, and of some more
printed_append : (events then : List Event) (text more : List ℕ) → ArePrinted events text
    → ArePrinted then more →
    ArePrinted (events ++ then) (text ++ more)
printed_append [] then text more none rest =
    subst (λ (t : List ℕ). ArePrinted then (t ++ more)) (sym none) rest
printed_append (event ∷ events) then text more first rest = (
  first.0,
  first.1 ++ more,
  first.2,
  printed_append events then first.1 more first.3 rest,
  ap (λ (t : List ℕ). t ++ more) first.4
      ∙ append_assoc first.0 first.1 more,
)

-- some steps are played, and then some more
fed_append : (k : Contents) (steps more : List Step) (ss between ss' : List Hearing)
    (events then : List Event)
    → AreFed k 0 faults steps ss events between → AreFed k 0 faults more between then ss' →
    AreFed k 0 faults (steps ++ more) ss (events ++ then) ss'
fed_append k [] more ss between ss' events then (none, same) rest =
    subst (λ (es : List Event). AreFed k 0 faults more ss (es ++ then) ss') (sym none)
    (subst (λ (s : List Hearing). AreFed k 0 faults more s then ss') same rest)
fed_append k (step ∷ steps) more ss between ss' [] then none rest = absurd none
fed_append k (step ∷ steps) more ss between ss' (event ∷ events) then first rest = record {
  next = first.next;
  same = first.same;
  fed = first.fed;
  ended = first.ended;
  rest = fed_append k steps more (set ss step.session first.next) between ss' events then first.rest rest;
}

-- well so far, and then up to the last one
well_then : (xs ys : List Event) → All IsWell xs → AreWellToLast ys → AreWellToLast (xs ++ ys)
well_then [] ys all rest = rest
well_then (x ∷ []) [] all rest = inl (all zero x (omega arith))
well_then (x ∷ []) (y ∷ ys) all rest = (all zero x (omega arith), rest)
well_then (x ∷ y ∷ xs) ys all rest = (
  all zero x (omega arith),
  well_then (y ∷ xs) ys (λ i d within. all (suc i) d (omega (arith, within)))
      rest,
)

well_all : (xs : List Event) → All IsWell xs → AreWellToLast xs
well_all xs all = subst AreWellToLast (append-nil xs) (well_then xs [] all tt)

-- no lines
pub replays_none : (Holds : List Event → Type 0) (p : Progress) → Holds [] → Replays Holds p p [] []
replays_none Holds p holds = record {
  messages = [];
  lines_are = refl;
  have_session = all_none HasSession;
  events = [];
  holds = holds;
  fed = (refl, refl);
  printed = refl;
  same = (refl, refl);
  turns_are = sym (append-nil p.turns);
  shown = tt;
  counted = omega arith;
}

pub none_replayed : (p : Progress) → AllReplayed p p [] []
none_replayed p = replays_none (All IsWell) p (all_none IsWell)

module _ (before between after : Progress) (xs ys : List (List ℕ)) (text more : List ℕ) where
  -- some lines, and then some more
  pub replays_append : (Holds : List Event → Type 0)
      → ((es then : List Event) → All IsWell es → Holds then → Holds (es ++ then))
      → AllReplayed before between xs text → Replays Holds between after ys more
      → Replays Holds before after (xs ++ ys) (text ++ more)
  replays_append Holds append first rest = record {
    messages = first.messages ++ rest.messages;
    lines_are = ap (λ (l : List (List ℕ)). l ++ ys) first.lines_are
        ∙ (ap (λ (l : List (List ℕ)). map line_of first.messages ++ l) rest.lines_are
        ∙ sym (map-append line_of first.messages rest.messages));
    have_session = All-append HasSession first.messages rest.messages first.have_session rest.have_session;
    events = first.events ++ rest.events;
    holds = append first.events rest.events first.holds rest.holds;
    fed = subst (λ (steps : List Step). AreFed before.contents 0 faults steps before.sessions
        (first.events ++ rest.events) after.sessions)
        (sym (map-append (step_of before.now) first.messages rest.messages))
        (fed_append before.contents (map (step_of before.now) first.messages)
        (map (step_of before.now) rest.messages) before.sessions
        between.sessions
        after.sessions first.events rest.events first.fed
        (subst (λ (k : Contents). AreFed k 0 faults (map (step_of before.now) rest.messages) between.sessions
        rest.events after.sessions)
        first.same.0
        (subst (λ (now : Stamp). AreFed between.contents 0 faults (map (step_of now) rest.messages)
        between.sessions rest.events
        after.sessions) first.same.1 rest.fed)));
    printed = printed_append first.events rest.events text more first.printed rest.printed;
    same = (rest.same.0 ∙ first.same.0, rest.same.1 ∙ first.same.1);
    turns_are = rest.turns_are ∙ (ap (λ (t : List Turn). t ++ turns_of rest.events) first.turns_are
        ∙ (append_assoc before.turns (turns_of first.events) (turns_of rest.events)
        ∙ ap (λ (t : List Turn). before.turns ++ t) (sym (turns_of_append first.events rest.events))));
    shown = shown_of_append before.contents shows before.turns first.events rest.events first.shown
        (subst (λ (t : List Turn). AreShown before.contents shows t (deeds_of rest.events)) first.turns_are
        (subst (λ (k : Contents). AreShown k shows between.turns (deeds_of rest.events)) first.same.0
        rest.shown));
    counted = let one = first.counted in let two = rest.counted in let both = length-append xs ys in
        omega (arith, one, two, both);
  }

  pub all_after : AllReplayed before between xs text → AllReplayed between after ys more →
      AllReplayed before after (xs ++ ys) (text ++ more)
  all_after first rest = replays_append (All IsWell) (λ es then. All-append IsWell es then) first rest

-- some of those behind
pub part_after : (before between after : Progress) (xs ys : List (List ℕ)) (text put : List ℕ)
    → AllReplayed before between xs text → PartReplayed between after ys put
    → PartReplayed before after (xs ++ ys) (text ++ put)
part_after before between after xs ys text put first rest = record {
  first = xs ++ rest.first;
  later = rest.later;
  split = ap (λ (l : List (List ℕ)). xs ++ l) rest.split ∙ sym (append_assoc xs rest.first rest.later);
  text = text ++ rest.text;
  replays = replays_append before between after xs rest.first text rest.text AreWellToLast well_then first
      rest.replays;
  begins = (
    rest.begins.0,
    ap (λ (t : List ℕ). text ++ t) rest.begins.1
        ∙ sym (append_assoc text put rest.begins.0),
  );
}

-- those behind up to one that names no session
stopped_after : (before between after : Progress) (xs ys : List (List ℕ)) (number : ℕ) (text put : List ℕ)
    → AllReplayed before between xs text → StoppedAt between after ys number put
    → StoppedAt before after (xs ++ ys) number (text ++ put)
stopped_after before between after xs ys number text put first rest = record {
  first = xs ++ rest.first;
  line = rest.line;
  later = rest.later;
  split = ap (λ (l : List (List ℕ)). xs ++ l) rest.split
      ∙ sym (append_assoc xs rest.first (rest.line ∷ rest.later));
  stranger = rest.stranger;
  number_is = let counted = first.counted in let is = rest.number_is in let both =
      length-append xs rest.first in omega (arith, counted, is, both);
  replayed = all_after before between after xs rest.first text put first rest.replayed;
}

-- all of some lines, and some of those behind them
up_to_after : (before between after : Progress) (xs ys : List (List ℕ)) (fault : ReplayFault)
    (text put : List ℕ)
    → AllReplayed before between xs text → ReplayedUpTo fault between after ys put →
    ReplayedUpTo fault before after (xs ++ ys) (text ++ put)
up_to_after before between after xs ys Read text put first rest =
    all_after before between after xs ys text put first rest
up_to_after before between after xs ys InputTooLong text put first rest =
    all_after before between after xs ys text put first rest
up_to_after before between after xs ys (NoSession number) text put first rest =
    stopped_after before between after xs ys number text put first rest
up_to_after before between after xs ys Memory text put first rest =
    part_after before between after xs ys text put first rest
up_to_after before between after xs ys Write text put first rest =
    part_after before between after xs ys text put first rest
up_to_after before between after xs ys (Catalogue bad) text put first rest = absurd rest
up_to_after before between after xs ys BadNow text put first rest = absurd rest

pub replayed_after : {X : Type 0} (before between after : Progress) (xs ys : List (List ℕ))
    (end : Result X ReplayFault) (text put : List ℕ)
    → AllReplayed before between xs text → Replayed between after ys end put
    → Replayed before after (xs ++ ys) end (text ++ put)
replayed_after before between after xs ys (Ok done) text put first rest =
    all_after before between after xs ys text put first rest
replayed_after before between after xs ys (Err fault) text put first rest =
    up_to_after before between after xs ys fault text put first rest

-- what is wrong with a line stops those behind it too
pub stops_more : (fault : ReplayFault) (before after : Progress) (ys more : List (List ℕ)) (put : List ℕ)
    → IsOfLine fault
    → ReplayedUpTo fault before after ys put → ReplayedUpTo fault before after (ys ++ more) put
stops_more (NoSession number) before after ys more put of stopped = record {
  first = stopped.first;
  line = stopped.line;
  later = stopped.later ++ more;
  split = ap (λ (l : List (List ℕ)). l ++ more) stopped.split
      ∙ append_assoc stopped.first (stopped.line ∷ stopped.later) more;
  stranger = stopped.stranger;
  number_is = stopped.number_is;
  replayed = stopped.replayed;
}
stops_more Memory before after ys more put of part = record {
  first = part.first;
  later = part.later ++ more;
  split = ap (λ (l : List (List ℕ)). l ++ more) part.split ∙ append_assoc part.first part.later more;
  text = part.text;
  replays = part.replays;
  begins = part.begins;
}
stops_more Read before after ys more put of replayed = absurd of
stops_more Write before after ys more put of replayed = absurd of
stops_more InputTooLong before after ys more put of replayed = absurd of
stops_more (Catalogue bad) before after ys more put of replayed = absurd of
stops_more BadNow before after ys more put of replayed = absurd of

-- some lines, and one behind them at which it stops
pub stops_after : (fault : ReplayFault) (before between after : Progress) (xs later : List (List ℕ))
    (line text put : List ℕ) →
    IsOfLine fault
    → AllReplayed before between xs text → ReplayedUpTo fault between after (line ∷ []) put →
    ReplayedUpTo fault before after (xs ++ line ∷ later) (text ++ put)
stops_after fault before between after xs later line text put of first rest =
    subst (λ (l : List (List ℕ)). ReplayedUpTo fault before after l (text ++ put))
    (append_assoc xs (line ∷ []) later)
    (stops_more fault before after (xs ++ line ∷ []) later (text ++ put) of
    (up_to_after before between after xs (line ∷ []) fault text put first rest))

-- a line that names no session
pub stopped_here : (p : Progress) (line : List ℕ) (number : ℕ)
    → ((message : InputMessage) → IsLineOf line message → ⊥) → number ≡ p.lines + 1 →
    StoppedAt p p (line ∷ []) number []
stopped_here p line number stranger is = record {
  first = [];
  line = line;
  later = [];
  split = refl;
  stranger = stranger;
  number_is = is ∙ omega arith;
  replayed = none_replayed p;
}

-- a fault that is passed on
pub passed_on : {X : Type 0} (end : Result X ReplayFault) (fault : ReplayFault) (before after : Progress)
    (lines : List (List ℕ))
    (put : List ℕ)
    → IsErr end → IsErrAnd end (λ f. f ≡ fault) → ReplayedUpTo fault before after lines put
    → Replayed before after lines end put
passed_on (Ok done) fault before after lines put err same replayed = absurd (false≢true err)
passed_on (Err other) fault before after lines put err same replayed =
    subst (λ (f : ReplayFault). ReplayedUpTo f before after lines put) (sym same) replayed

-- a fault says nothing of what holds where there is none
pub no_ok : (P : Type 0) (end : Result (Unit {0}) ReplayFault) → IsErr end → OnOk end P
no_ok P (Ok done) err = absurd (false≢true err)
no_ok P (Err fault) err = tt

pub no_if_ok : {X : Type 0} (P : X → Type 0) (end : Result X ReplayFault) → IsErr end → IfOk end P
no_if_ok P (Ok done) err = absurd (false≢true err)
no_if_ok P (Err fault) err = tt

-- however it ends, a beginning of what was put out is part of the text
pub part_of_all : (before after : Progress) (lines : List (List ℕ)) (text : List ℕ) (n : ℕ)
    → AllReplayed before after lines text →
    PartReplayed before after lines (take n text)
part_of_all before after lines text n all = record {
  first = lines;
  later = [];
  split = sym (append-nil lines);
  text = text;
  replays = record {
    messages = all.messages;
    lines_are = all.lines_are;
    have_session = all.have_session;
    events = all.events;
    holds = well_all all.events all.holds;
    fed = all.fed;
    printed = all.printed;
    same = all.same;
    turns_are = all.turns_are;
    shown = all.shown;
    counted = all.counted;
  };
  begins = (drop n text, sym (take-append-drop n text));
}

part_of_part : (before after : Progress) (lines : List (List ℕ)) (put : List ℕ) (n : ℕ)
    → PartReplayed before after lines put →
    PartReplayed before after lines (take n put)
part_of_part before after lines put n part = record {
  first = part.first;
  later = part.later;
  split = part.split;
  text = part.text;
  replays = part.replays;
  begins = (
    drop n put ++ part.begins.0,
    part.begins.1
        ∙ (ap (λ (t : List ℕ). t ++ part.begins.0) (sym (take-append-drop n put))
        ∙ append_assoc (take n put) (drop n put) part.begins.0),
  );
}

part_of_up_to : (fault : ReplayFault) (before after : Progress) (lines : List (List ℕ)) (put : List ℕ) (n : ℕ)
    → ReplayedUpTo fault before after lines put → PartReplayed before after lines (take n put)
unfolding part_of_all
part_of_up_to Read before after lines put n all = part_of_all before after lines put n all
part_of_up_to InputTooLong before after lines put n all = part_of_all before after lines put n all
part_of_up_to (NoSession number) before after lines put n stopped =
    let part = part_of_all before after stopped.first put n stopped.replayed in
    record {
      first = stopped.first;
      later = stopped.line ∷ stopped.later;
      split = stopped.split;
      text = part.text;
      replays = part.replays;
      begins = part.begins;
    }
part_of_up_to Memory before after lines put n part = part_of_part before after lines put n part
part_of_up_to Write before after lines put n part = part_of_part before after lines put n part
part_of_up_to (Catalogue bad) before after lines put n none = absurd none
part_of_up_to BadNow before after lines put n none = absurd none

cut_of : {X : Type 0} (end : Result X ReplayFault) (before after : Progress) (lines : List (List ℕ))
    (put : List ℕ) (n : ℕ)
    → Replayed before after lines end put → PartReplayed before after lines (take n put)
cut_of (Ok done) before after lines put n all = part_of_all before after lines put n all
cut_of (Err fault) before after lines put n replayed = part_of_up_to fault before after lines put n replayed

-- what is put out is cut short
pub part_of_some : {X : Type 0} (end : Result X ReplayFault) (before after : Progress) (lines : List (List ℕ))
    (put part : List ℕ)
    → IsCutShort put part → Replayed before after lines end put → PartReplayed before after lines part
part_of_some end before after lines put part cut replayed =
    subst (λ (t : List ℕ). PartReplayed before after lines t) (sym cut.2)
    (cut_of end before after lines put cut.0 replayed)

-- none of some lines is replayed
pub part_of_none : (p : Progress) (lines : List (List ℕ)) → PartReplayed p p lines []
part_of_none p lines = record {
  first = [];
  later = lines;
  split = refl;
  text = [];
  replays = replays_none AreWellToLast p tt;
  begins = ([], refl);
}
