-- Pieces of several streams.
use Rattle.std.proofs.Common.{◌≡◌, ◌==◌, ◌<◌, ℕ, zero, true, false, cond, List, [], ◌∷◌, ◌++◌, Some, length}
use Rattle.std.proofs.Common.{Vec, get_or, set, map, filter, refl, sym, ap, ◌∙◌, subst, arith, append_assoc}
use Rattle.std.proofs.Common.{append-nil, eqb-true, length-set}
use Rattle.std.proofs.lemmas.Bool.{eqb-false}
use Rattle.std.proofs.lemmas.List.{get_or-set_other, get_or-set_same}
use Rattle.std.proofs.lemmas.List.Concat.{flat_map-append}
use Rattle.std.proofs.lemmas.List.Elements.{filter-append, All-cons}
use Rattle.std.specs.List.{All}
use Rattle.hd_date.specs.Stamps.{Stamp}
use Rattle.hd_catalogue.specs.Contents.{Contents}
use Rattle.hd_exchange.specs.Deeds.{Deed}
use Rattle.hd_exchange.specs.Extensions.{Extensions, no_extensions}
use Rattle.hd_journal.specs.declared.fault.TurnFault.{TurnFault}
use Rattle.hd_journal.specs.declared.fault.TurnFault.TheVariants.{Memory}
use Rattle.hd_session.specs.declared.ended.Ended.TheVariants as end
use Rattle.hd_journal.specs.declared.office.Office.{Ghosts}
use Rattle.hd_session.specs.Sessions.{AreFedTo, Feeds, Hearing, IsFed, Piece, Room, any_room, new_session}
use Rattle.hd_session.specs.Sessions.{stream}
use Rattle.hd_session.specs.Scripts.{AreFed, Event, Plays, Step, events_of, deeds_of, pieces_of, session_at}
use Rattle.hd_session.specs.Scripts.{text_of, replies_written}
use Rattle.hd_session.proofs.Causes.{fed_other}
use Rattle.hd_session.proofs.Feeding.{Cuts, IsSettled, fed_after_fed, less_room, nothing_fed_at, settled_at}
use Rattle.hd_session.proofs.Hearing.{works_append}
use Rattle.hd_session.proofs.Knowing.{each_goes_on, one_goes_on}
use Rattle.hd_session.proofs.Strangers.{all_behind}

-- all are at one present
abbrev pub AreAt : Stamp → List Piece → Type 0
AreAt now pieces = All (λ piece. piece.now ≡ now) pieces

-- the pieces of a session in a script at one present
pub pieces_at : (now : Stamp) (steps : List Step) (i : ℕ) → All (λ step. step.piece.now ≡ now) steps
    → AreAt now (pieces_of i steps)
pieces_at now [] i all = λ n d within. absurd (omega (arith, within))
pieces_at now (step ∷ steps) i all =
    let rest : AreAt now (pieces_of i steps) =
    pieces_at now steps i (all_behind (λ (s : Step). s.piece.now ≡ now) step steps all) in
    let first : step.piece.now ≡ now = all zero step (omega arith) in
    elim (step.session == i) as (λ t. AreAt now (map (λ s. s.piece)
    (cond t (step ∷ filter (λ s. s.session == i) steps) (filter (λ s. s.session == i) steps)))) [
      | true ↦ All-cons (λ (p : Piece). p.now ≡ now) step.piece (pieces_of i steps) first rest
      | false ↦ rest
    ]

module _ (k : Contents) (seat : ℕ) (faults : TurnFault → Type 0) where
  -- some steps, and then some more
  pub fed_append : (steps more : List Step) (ss between ss' : List Hearing) (events then : List Event)
      → AreFed k seat faults steps ss events between → AreFed k seat faults more between then ss'
      → AreFed k seat faults (steps ++ more) ss (events ++ then) ss'
  fed_append [] more ss between ss' events then (none, same) rest =
      subst (λ (es : List Event). AreFed k seat faults more ss (es ++ then) ss') (sym none)
      (subst (λ (s : List Hearing). AreFed k seat faults more s then ss') same rest)
  fed_append (step ∷ steps) more ss between ss' [] then none rest = absurd none
  fed_append (step ∷ steps) more ss between ss' (event ∷ events) then first rest = record {
    next = first.next;
    same = first.same;
    fed = first.fed;
    ended = first.ended;
    rest = fed_append steps more (set ss step.session first.next) between ss' events then first.rest rest;
  }

  -- what a session hears of a script are its own pieces
  pub hears_pieces : (steps : List Step) (ss ss' : List Hearing) (events : List Event) (i : ℕ) → i < length ss
      → AreFed k seat faults steps ss events ss'
      → AreFedTo k seat faults any_room (pieces_of i steps) (session_at ss i) (deeds_of (events_of i events))
      (session_at ss' i) (replies_written i events)
  hears_pieces [] ss ss' events i within (none, same) = rw (none, same) (refl, refl, refl)
  hears_pieces (step ∷ steps) ss ss' [] i within none = absurd none
  hears_pieces (step ∷ steps) ss ss' (event ∷ events) i within first =
      let next = first.next in
      let then = set ss step.session next in
      let longer : i < length then = rw (length-set ss step.session next) within in
      let rest = hears_pieces steps then ss' events i longer first.rest in
      elim (step.session == i) as (λ t. (step.session == i) ≡ t
      → AreFedTo k seat faults any_room (pieces_of i (step ∷ steps)) (session_at ss i)
      (deeds_of (events_of i (event ∷ events)))
      (session_at ss' i) (replies_written i (event ∷ events))) [
        | true ↦ λ is.
            let here : step.session ≡ i = eqb-true _ _ is in
            let own : (event.session == i) ≡ true = ap (λ (n : ℕ). n == i) first.same ∙ is in
            let there : session_at then i ≡ next =
            subst (λ (n : ℕ). session_at (set ss n next) i ≡ next) (sym here)
            (get_or-set_same ss i next (new_session no_extensions) within) in
            let heard : IsFed k seat faults step.piece.now any_room (session_at ss i) step.piece.bytes
            event.did next event.text =
            subst (λ (n : ℕ). IsFed k seat faults step.piece.now any_room
            (session_at ss n) step.piece.bytes event.did next event.text) here first.fed in
            rw (is, own) (record {
              first_did = event.did;
              then_did = deeds_of (events_of i events);
              between = next;
              first_text = event.text;
              then_text = replies_written i events;
              first = heard;
              rest = rw there at rest;
              all_did = refl;
              all_text = refl;
            })
        | false ↦ λ is.
            let own : (event.session == i) ≡ false = ap (λ (n : ℕ). n == i) first.same ∙ is in
            let there : session_at then i ≡ session_at ss i =
            get_or-set_other ss step.session i next (new_session no_extensions)
            (λ same. eqb-false step.session i is (sym same)) in
            rw (is, own) (rw there at rest)
      ] refl

  -- pieces at one present are one
  pub one_present : Cuts
      → (now : Stamp) (room : Room) (pieces : List Piece) (h : Hearing) (did : List Deed) (h' : Hearing)
      (text : List ℕ)
      → AreAt now pieces → IsSettled h → AreFedTo k seat faults room pieces h did h' text
      → IsFed k seat faults now room h (stream pieces) did h' text
  one_present cuts now room [] h did h' text all settled (none, same, nothing) =
      rw (none, same, nothing) (nothing_fed_at k seat faults now h.ended room h refl settled)
  one_present cuts now room (piece ∷ pieces) h did h' text all settled more =
      let here : piece.now ≡ now = all zero piece (omega arith) in
      let first : IsFed k seat faults now room h piece.bytes more.first_did more.between more.first_text =
      subst (λ (n : Stamp). IsFed k seat faults n room h piece.bytes more.first_did more.between
      more.first_text) here more.first in
      let goes_on : IsSettled more.between =
      settled_at k seat faults now h.ended room piece.bytes more.first_did h more.between more.first_text refl
      first in
      let rest = one_present cuts now room pieces more.between more.then_did h' more.then_text
      (all_behind (λ (p : Piece). p.now ≡ now) piece pieces all) goes_on more.rest in
      rw (more.all_did, more.all_text) (fed_after_fed cuts k seat faults now room room piece.bytes
      (stream pieces) more.first_did more.then_did
      h more.between h' more.first_text more.then_text (omega arith) (omega arith) first rest)

  -- those of a new session
  pub new_at_one_present : Cuts
      → (e : Extensions) (now : Stamp) (room : Room) (pieces : List Piece) (did : List Deed) (h' : Hearing)
      (text : List ℕ) → AreAt now pieces → AreFedTo k seat faults room pieces (new_session e) did h' text
      → IsFed k seat faults now room (new_session e) (stream pieces) did h' text
  new_at_one_present cuts e now room pieces did h' text all fed =
      one_present cuts now room pieces (new_session e) did h' text all (λ still. refl) fed

  -- a session that was new hears its stream
  pub new_hears_stream : Cuts
      → (e : Extensions) (now : Stamp) (steps : List Step) (ss ss' : List Hearing) (events : List Event)
      (i : ℕ)
      → i < length ss → All (λ step. step.piece.now ≡ now) steps → AreFed k seat faults steps ss events ss'
      → session_at ss i ≡ new_session e
      → IsFed k seat faults now any_room (new_session e) (stream (pieces_of i steps))
      (deeds_of (events_of i events)) (session_at ss' i)
      (replies_written i events)
  new_hears_stream cuts e now steps ss ss' events i within all fed new =
      new_at_one_present cuts e now any_room (pieces_of i steps) _ _ _ (pieces_at now steps i all)
      (subst (λ (h : Hearing). AreFedTo k seat faults any_room (pieces_of i steps) h
      (deeds_of (events_of i events)) (session_at ss' i)
      (replies_written i events))
      new (hears_pieces steps ss ss' events i within fed))

  -- no session ends by a fault that isn't for want of memory and that its office can't give
  pub none_ends_so : (f : TurnFault) → ¬ (f ≡ Memory) → ¬ faults f
      → (steps : List Step) (ss ss' : List Hearing) (events : List Event)
      → AreFed k seat faults steps ss events ss' → ((i : ℕ) → (session_at ss i).ended ≡ Some (end.Turn f) → ⊥)
      → All (λ event. event.ended ≡ Some (end.Turn f) → ⊥) events
      × ((i : ℕ) → (session_at ss' i).ended ≡ Some (end.Turn f) → ⊥)
  none_ends_so f other never [] ss ss' events (none, same) before =
      rw (none, same) (λ i d within. absurd (omega (arith, within)), before)
  none_ends_so f other never (step ∷ steps) ss ss' [] none before = absurd none
  none_ends_so f other never (step ∷ steps) ss ss' (event ∷ events) first before =
      let now_not : first.next.ended ≡ Some (end.Turn f) → ⊥ =
      fed_other k seat faults f other never step.piece.now any_room step.piece.bytes event.did
      (session_at ss step.session) first.next event.text first.fed
      (before step.session) in
      let rest = none_ends_so f other never steps (set ss step.session first.next) ss' events first.rest
      (each_goes_on (λ (h : Hearing). h.ended ≡ Some (end.Turn f) → ⊥) ss step.session first.next before
      now_not) in (
        All-cons (λ (e : Event). e.ended ≡ Some (end.Turn f) → ⊥) event events
            (λ same. now_not (sym first.ended ∙ same)) rest.0,
        rest.1,
      )

-- what is written to a session in some events, and in some more
pub written_append : (i : ℕ) (events then : List Event) → replies_written i (events ++ then)
    ≡ replies_written i events ++ replies_written i then
written_append i events then =
    ap text_of (filter-append (λ (event : Event). event.session == i) events then)
    ∙ flat_map-append (λ (event : Event). event.text) (events_of i events) (events_of i then)

-- what is done in them
pub deeds_append : (events then : List Event) → deeds_of (events ++ then) ≡ deeds_of events ++ deeds_of then
deeds_append events then = flat_map-append (λ (event : Event). event.did) events then

module _ {A O : Type 0} (office : Ghosts O A) where
  -- some steps are played, and then some more
  pub plays_append : (old between new : O) (steps more : List Step) (ss then ss' : List Hearing)
      (o p q : List (List ℕ))
      → Plays office old between steps ss then o p → Plays office between new more then ss' p q
      → Plays office old new (steps ++ more) ss ss' o q
  plays_append old between new steps more ss then ss' o p q first rest =
      let same = first.works.same in
      record {
        events = first.events ++ rest.events;
        fed = fed_append _ _ _ steps more ss then ss' first.events rest.events first.fed
            (rw same at rest.fed);
        works = rw deeds_append
            (works_append office old between new (deeds_of first.events) (deeds_of rest.events) first.works
            rest.works);
        outs_are = λ i within.
            rest.outs_are i (rw first.sizes.0 within)
            ∙ (ap (λ (t : List ℕ). t ++ replies_written i rest.events) (first.outs_are i within)
            ∙ (append_assoc (get_or o i []) (replies_written i first.events) (replies_written i rest.events)
            ∙ ap (λ (t : List ℕ). get_or o i [] ++ t) (sym (written_append i first.events rest.events))));
        sizes = (rest.sizes.0 ∙ first.sizes.0, rest.sizes.1 ∙ first.sizes.1);
        known = λ known. (rw same at rest.known) (first.known known);
      }

  -- one step is played
  pub plays_one : (old new : O) (o p : Vec ℕ A) (step : Step) (ss : List Hearing) (next : Hearing)
      (outs : List (List ℕ))
      → step.session < length ss → length outs ≡ length ss → o.items ≡ get_or outs step.session []
      → Feeds office old new o p step.piece.now (session_at ss step.session) step.piece.bytes next
      → Plays office old new (step ∷ []) ss (set ss step.session next) outs (set outs step.session p.items)
  plays_one old new o p step ss next outs within as_many here feeds =
      let event : Event = record
      { session = step.session; did = feeds.did; text = feeds.text; ended = next.ended } in
      record {
        events = event ∷ [];
        fed = record {
          next = next;
          same = refl;
          fed = less_room _ _ _ step.piece.now _ any_room step.piece.bytes feeds.did
              (session_at ss step.session) next feeds.text
              (omega arith) (omega arith) feeds.fed;
          ended = refl;
          rest = (refl, refl);
        };
        works = rw append-nil feeds.works;
        outs_are = λ i inside.
            elim (step.session == i) as (λ t. (step.session == i) ≡ t
            → get_or (set outs step.session p.items) i []
            ≡ get_or outs i [] ++ text_of (cond t (event ∷ []) [])) [
              | true ↦ λ is.
                  let at : step.session ≡ i = eqb-true _ _ is in
                  let there : get_or (set outs step.session p.items) i [] ≡ p.items =
                  subst (λ (n : ℕ). get_or (set outs step.session p.items) n [] ≡ p.items) at
                  (get_or-set_same outs step.session p.items [] (rw as_many within)) in
                  there ∙ (feeds.extends.items ∙ (ap (λ (t : List ℕ). t ++ feeds.text) here
                  ∙ (ap (λ (n : ℕ). get_or outs n [] ++ feeds.text) at
                  ∙ ap (λ (t : List ℕ). get_or outs i [] ++ t) (sym (append-nil feeds.text)))))
              | false ↦ λ is.
                  get_or-set_other outs step.session i p.items []
                  (λ same. eqb-false step.session i is (sym same))
                  ∙ sym (append-nil (get_or outs i []))
            ] refl;
        sizes = (length-set ss step.session next, length-set outs step.session p.items);
        known = λ known. one_goes_on _ ss step.session next known (feeds.known (known step.session));
      }
