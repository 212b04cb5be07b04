-- A line that is played.
use Rattle.std.proofs.Common.{⊎_elim, ◌⊎◌, inl, inr, eqb-true, ◌≡◌, ◌==◌, ◌∙◌, ◌+◌, ◌-◌, ◌<◌, ◌≤◌, ℕ, zero}
use Rattle.std.proofs.Common.{suc, true, false, List, [], ◌∷◌}
use Rattle.std.proofs.Common.{◌++◌, Result, Ok, Err, OnOk, IfErr, drop, take, Option, None, Some, length}
use Rattle.std.proofs.Common.{length-append, map, set, get_or}
use Rattle.std.proofs.Common.{flat_map, arith, refl, sym, ap, subst, append-nil}
use Rattle.std.proofs.lemmas.Bool.{cases_lt, eq-eqb, eqb-false, ne_eqb}
use Rattle.std.proofs.lemmas.List.{get_or_past, get_or-set_same, get_or-set_other}
use Rattle.hd_catalogue.specs.Contents.{Contents}
use Rattle.hd_journal.specs.declared.fault.TurnFault.TheVariants as turn_fault
use Rattle.std.proofs.Math.Seq.{take-append_seam}
use Rattle.hd_session.specs.Endings.{EndsWell}
use Rattle.hd_journal.specs.declared.office.Office.{Ghosts}
use Rattle.hd_exchange.specs.Deeds.{AreShown}
use Rattle.hd_exchange.specs.Extensions.{no_extensions}
use Rattle.hd_session.specs.Scripts.{AreFed, Event, IsFaultOf, Plays, Step, played, session_at}
use Rattle.hd_session.specs.Scripts.{replies_written, deeds_of, turns_of}
use Rattle.hd_session.specs.Sessions.{Hearing, new_session}
use Rattle.hd_session.specs.declared.ended.Ended.{Ended}
use Rattle.hd_session.specs.declared.ended.Ended.TheVariants as ended
use Rattle.hd_session.specs.declared.script.ScriptFault.{ScriptFault}
use Rattle.hd_session.specs.declared.script.ScriptFault.TheVariants.{Stranger}
use Rattle.std.specs.List.{All}
use Rattle.std.proofs.lemmas.List.Elements.{All-cons, All-nil}
use Rattle.hd_replay.specs.declared.fault.ReplayFault.{ReplayFault}
use Rattle.hd_replay.specs.declared.fault.ReplayFault.TheVariants as fault
use Rattle.hd_replay.specs.Inputs.{AreLines, HasSession, InputMessage, line_of}
use Rattle.hd_replay.specs.Printing.{ArePrinted, IsEventText, PrintsBehind, end_text, printed_line}
use Rattle.hd_replay.specs.Replays.{AreEmpty, AreWellToLast, IsOfOffice, IsWell, PartReplayed, Progress}
use Rattle.hd_replay.specs.Replays.{ReplayedOnto, ReplayedUpTo, Replays, faults, shows}

-- a buffer after a change to the whole of it
pub written_back : {A : Type 0} (n : ℕ) (new old : List A) → n ≡ length new
    → take n (new ++ drop (length new) old) ≡ new
written_back n new old whole = rw (whole, take-append_seam) refl

-- what one of some outs says
pub said_at : {V : Type 0} (items : V → List ℕ) (outs : List V) (i : ℕ) (d : V) → i < length outs →
    get_or (map items outs) i [] ≡ items (get_or outs i d)
said_at items [] i d within = absurd (omega (arith, within))
said_at items (out ∷ outs) zero d within = refl
said_at items (out ∷ outs) (suc i) d within = said_at items outs i d (omega (arith, within))

-- what stands at a place that there is
pub at_place : (ss : List Hearing) (i : ℕ) (d : Hearing) → i < length ss → get_or ss i d ≡ session_at ss i
at_place [] i d within = absurd (omega (arith, within))
at_place (s ∷ ss) zero d within = refl
at_place (s ∷ ss) (suc i) d within = at_place ss i d (omega (arith, within))

-- One step is played: one event comes of it.
pub record OneFed (step : Step) (ss : List Hearing) (events : List Event) (ss' : List Hearing) : Type 0 where
  pub event : Event
  pub next : Hearing
  pub events_are : events ≡ event ∷ []
  pub session_is : event.session ≡ step.session
  pub ended_is : event.ended ≡ next.ended
  pub ss_are : ss' ≡ set ss step.session next

pub one_fed : (k : Contents) (step : Step) (ss ss' : List Hearing) (events : List Event)
    → AreFed k 0 faults (step ∷ []) ss events ss' →
    OneFed step ss events ss'
one_fed k step ss ss' [] none = absurd none
one_fed k step ss ss' (event ∷ events) fed = record {
  event = event;
  next = fed.next;
  events_are = ap (λ (es : List Event). event ∷ es) fed.rest.0;
  session_is = fed.same;
  ended_is = fed.ended;
  ss_are = fed.rest.1;
}

-- what is written in one event: to its session its text, and nothing to others
written_here : (event : Event) (i : ℕ) → event.session ≡ i → replies_written i (event ∷ []) ≡ event.text
written_here event i is = let own : (event.session == i)
    ≡ true = eq-eqb _ _ is in rw own (append-nil event.text)

written_elsewhere : (event : Event) (i : ℕ) → (event.session ≡ i → ⊥) → replies_written i (event ∷ []) ≡ []
written_elsewhere event i other = let own : (event.session == i) ≡ false = ne_eqb event.session i other in
    rw own refl

-- a piece for one of the sessions is no stranger's, so it is played
pub plays_it : {A O : Type 0} {office : Ghosts O A} {old new : O} {steps : List Step} {ss ss' : List Hearing}
    {outs outs' : List (List ℕ)} (r : Result (Unit {0}) ScriptFault) (sessions at : ℕ) → at < sessions →
    IfErr r (IsFaultOf sessions (at ∷ [])) → Plays office old new (played r steps) ss ss' outs outs' →
    Plays office old new steps ss ss' outs outs'
plays_it (Ok tt) sessions at within fault plays = plays
plays_it (Err (Stranger place)) sessions at within fault plays = absurd (none fault.before fault.split)
  where
    none : (before : List ℕ) → at ∷ [] ≡ before ++ fault.stranger ∷ fault.later → ⊥
    none [] split = let same : at ≡ fault.stranger = ap (λ (l : List ℕ). get_or l 0 at) split in let past =
        fault.none in omega (arith, within, same, past)
    none (first ∷ before) split =
        let long : 1 ≡ suc (length (before ++ fault.stranger ∷ fault.later)) =
        ap (λ (l : List ℕ). length l) split in
        let both = length-append before (fault.stranger ∷ fault.later) in
        omega (arith, long, both)

module _ (number : ℕ) (text bytes rest : List ℕ) (parts : List (List ℕ)) (before after : Progress)
    (outs outs' : List (List ℕ))
    (one : 1 ≤ number) (few : number ≤ 64) (is : bytes ≡ text ++ 13 ∷ []) (empty : AreEmpty outs)
    (sessions : length before.sessions ≡ 64)
    (events : List Event)
    (played : AreFed before.contents 0 faults
    (record { session = number - 1; piece = record { now = before.now; bytes = bytes } } ∷ [])
    before.sessions events after.sessions) (made : after.turns ≡ before.turns ++ turns_of events)
    (shown : AreShown before.contents shows before.turns (deeds_of events))
    (written : (i : ℕ) → i < length before.sessions → get_or outs' i []
    ≡ get_or outs i [] ++ replies_written i events)
    (lines : AreLines 13 (get_or outs' (number - 1) []) parts rest) where
  abbrev pub message : InputMessage
  message = record { session = number; text = text }

  abbrev pub step : Step
  step = record { session = number - 1; piece = record { now = before.now; bytes = bytes } }

  abbrev pub fed : OneFed step before.sessions events after.sessions
  fed = one_fed before.contents step before.sessions after.sessions events played

  -- how the session of the line then has ended, if it has
  abbrev pub ended_so : Option Ended
  ended_so = (session_at after.sessions (number - 1)).ended

  ended_is : fed.event.ended ≡ ended_so
  ended_is =
      let within : number - 1 < length before.sessions = omega (arith, one, few, sessions) in
      fed.ended_is ∙ ap (λ (s : Hearing). s.ended)
      (sym (get_or-set_same before.sessions (number - 1) fed.next (new_session no_extensions) within)
      ∙ ap (λ (l : List Hearing). session_at l (number - 1)) (sym fed.ss_are))

  text_is : get_or outs' (number - 1) [] ≡ fed.event.text
  text_is =
      written (number - 1) (omega (arith, one, few, sessions))
      ∙ (ap (λ (t : List ℕ). t ++ replies_written (number - 1) events) (empty (number - 1))
      ∙ (ap (replies_written (number - 1)) fed.events_are
      ∙ written_here fed.event (number - 1) fed.session_is))

  -- the line is replayed, and its replies and its end are the text
  pub line_replayed : (Holds : List Event → Type 0)
      → ((event : Event) → event.ended ≡ ended_so → Holds (event ∷ []))
      → (after.contents ≡ before.contents) × (after.now ≡ before.now) → after.lines ≡ before.lines + 1
      → Replays Holds before after (line_of message ∷ [])
      (flat_map (printed_line number) parts ++ end_text number ended_so)
  line_replayed Holds holds same counted = record {
    messages = message ∷ [];
    lines_are = refl;
    have_session = All-cons HasSession message [] (one, few) (All-nil HasSession);
    events = events;
    holds = subst Holds (sym fed.events_are) (holds fed.event ended_is);
    fed = subst (λ (b : List ℕ). AreFed before.contents 0 faults
        (record { session = number - 1; piece = record { now = before.now; bytes = b } } ∷ []) before.sessions
        events after.sessions)
        is played;
    printed = subst (λ (es : List Event). ArePrinted es
        (flat_map (printed_line number) parts ++ end_text number ended_so)) (sym fed.events_are) (
          flat_map (printed_line number) parts ++ end_text number ended_so,
          [],
          prints,
          refl,
          sym
              (append-nil _),
        );
    same = same;
    turns_are = made;
    shown = shown;
    counted = counted;
  }
    where
      prints : IsEventText fed.event (flat_map (printed_line number) parts ++ end_text number ended_so)
      prints = record {
        replies = parts;
        rest = rest;
        parts = subst (λ (t : List ℕ). AreLines 13 t parts rest) text_is lines;
        spelled = let back : fed.event.session + 1 ≡ number =
            (let at = fed.session_is in omega (arith, one, at)) in rw (back, ended_is) refl;
      }

  -- what is put out of it, by how it ends
  pub line_put : (end : Result (Unit {0}) ReplayFault) (out out' : List ℕ)
      → (after.contents ≡ before.contents) × (after.now ≡ before.now) →
      after.lines ≡ before.lines + 1
      → IsOfOffice ended_so → IfErr end (λ why. why ≡ fault.Memory) → OnOk end (EndsWell ended_so)
      → PrintsBehind out out' (flat_map (printed_line number) parts ++ end_text number ended_so) end →
      ReplayedOnto before after (line_of message ∷ []) end out out'
  line_put (Ok done) out out' same counted office memory well prints = (
    _,
    line_replayed (All IsWell)
        (λ event is. All-cons IsWell event [] (subst EndsWell (sym is) well) (All-nil IsWell)) same counted,
    prints,
  )
  line_put (Err why) out out' same counted office memory well prints = (
    prints.0,
    subst (λ (f : ReplayFault). ReplayedUpTo f before after (line_of message ∷ []) prints.0)
        (sym memory) part,
    prints.2,
  )
    where
      last : (end : Option Ended) → IsOfOffice end
          → EndsWell end ⊎ (end ≡ Some (ended.Turn turn_fault.Memory))
      last None alone = inl (inl refl)
      last (Some ended.TooLong) alone = inl (inr refl)
      last (Some (ended.Turn turn_fault.Memory)) alone = inr refl
      last (Some (ended.Turn (turn_fault.Estranged front))) alone =
          absurd (alone (turn_fault.Estranged front) (λ same. cc) refl)
      last (Some (ended.Turn (turn_fault.Unwritten why))) alone =
          absurd (alone (turn_fault.Unwritten why) (λ same. cc) refl)

      part : PartReplayed before after (line_of message ∷ []) prints.0
      part = record {
        first = line_of message ∷ [];
        later = [];
        split = refl;
        text = flat_map (printed_line number) parts ++ end_text number ended_so;
        replays =
            line_replayed AreWellToLast
            (λ event is. subst (λ (end : Option Ended). EndsWell end ⊎
            (end ≡ Some (ended.Turn turn_fault.Memory))) (sym is)
            (last ended_so office)) same counted;
        begins = prints.1;
      }

-- nothing is where there is nothing
none_there : (outs : List (List ℕ)) (i : ℕ) → get_or (set outs i []) i [] ≡ []
none_there [] i = refl
none_there (out ∷ outs) zero = refl
none_there (out ∷ outs) (suc i) = none_there outs i

-- once a session's out is cleared, all are empty
pub emptied : (at : ℕ) (outs outs' : List (List ℕ)) (step : Step) (k : Contents) (ss ss' : List Hearing)
    (events : List Event) →
    AreEmpty outs → step.session ≡ at → length ss ≡ 64 → length outs' ≡ 64
    → AreFed k 0 faults (step ∷ []) ss events ss'
    → ((i : ℕ) → i < length ss → get_or outs' i [] ≡ get_or outs i [] ++ replies_written i events)
    → AreEmpty (set outs' at [])
emptied at outs outs' step k ss ss' events empty here sessions size played written i =
    let fed = one_fed k step ss ss' events played in
    elim (i == at) as (λ t. (i == at) ≡ t → get_or (set outs' at []) i [] ≡ []) [
      | true ↦ λ is. let same : i
          ≡ at = eqb-true _ _ is in
          subst (λ (n : ℕ). get_or (set outs' n []) i [] ≡ []) same (none_there outs' i)
      | false ↦ λ is.
          let other : i ≡ at → ⊥ = eqb-false _ _ is in
          get_or-set_other outs' at i [] [] other
          ∙ ⊎_elim
          (λ within. written i (omega (arith, within, sessions))
          ∙ (ap (λ (t : List ℕ). t ++ replies_written i events) (empty i)
          ∙ (ap (replies_written i) fed.events_are
          ∙ written_elsewhere fed.event i (λ same. other (sym same ∙ (fed.session_is ∙ here))))))
          (λ past. get_or_past outs' i [] (omega (arith, past, size)))
          (cases_lt i 64)
    ] refl
