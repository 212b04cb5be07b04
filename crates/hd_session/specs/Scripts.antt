-- Several sessions, and the pieces of their streams in the order in which they come.
use Rattle.std.specs.Prelude.{◌≡◌, ◌==◌, ℕ, ◌<◌, ◌≤◌, List, [], ◌∷◌, ◌++◌, All, Option, length, map}
use Rattle.std.specs.Prelude.{Result, Ok, Err, false, flat_map, filter, slice_index_or, slice_set}
use Rattle.std.specs.Borrow.{Bor}
use Rattle.hd_date.specs.Stamps.{Stamp}
use Rattle.hd_rules.specs.Journal.{Turn}
use Rattle.hd_catalogue.specs.Contents.{Contents}
use Rattle.hd_journal.specs.declared.fault.TurnFault.{TurnFault}
use Rattle.hd_journal.specs.Books.{Book}
use Rattle.hd_journal.specs.declared.office.Office.{Ghosts}
use Rattle.hd_exchange.specs.Deeds.{Deed, turns_in}
use Rattle.hd_exchange.specs.Extensions.{no_extensions}
use Rattle.hd_exchange.specs.Works.{Works}
use Rattle.hd_session.specs.declared.ended.Ended.{Ended}
use Rattle.hd_session.specs.declared.script.ScriptFault.{ScriptFault}
use Rattle.hd_session.specs.declared.script.ScriptFault.TheVariants.{Stranger}
use Rattle.hd_session.specs.States.{IsKnownTo}
use Rattle.hd_session.specs.Sessions.{Hearing, IsFed, Piece, any_room, new_session}

-- One step of a script: a piece of a session's stream. Sessions are counted from 0.
pub record Step : Type 0 where
  pub session : ℕ
  pub piece : Piece

-- What came of a step: what the office did for its session, what that was answered, and whether it then has
-- ended and why.
pub record Event : Type 0 where
  pub session : ℕ
  pub did : List Deed
  pub text : List ℕ
  pub ended : Option Ended

-- the session of a number; behind the last, one that is new and has no extensions
abbrev pub session_at : List Hearing → ℕ → Hearing
session_at sessions i = slice_index_or sessions i (new_session no_extensions)

-- the pieces of a session, in order
abbrev pub pieces_of : ℕ → List Step → List Piece
pieces_of i steps = map (λ step. step.piece) (filter (λ step. step.session == i) steps)

-- the events of a session
abbrev pub events_of : ℕ → List Event → List Event
events_of i events = filter (λ event. event.session == i) events

-- all that the office does in some events, in order
abbrev pub deeds_of : List Event → List Deed
deeds_of events = flat_map (λ event. event.did) events

-- and the turns that it makes
abbrev pub turns_of : List Event → List Turn
turns_of events = turns_in (deeds_of events)

-- all that is answered in some events, in order
abbrev pub text_of : List Event → List ℕ
text_of events = flat_map (λ event. event.text) events

-- what is written to a session: the replies to it, in order
abbrev pub replies_written : ℕ → List Event → List ℕ
replies_written i events = text_of (events_of i events)

-- each stands as a terminal of the catalogue, or as none
abbrev pub AreKnownTo : Contents → List Hearing → Type 0
AreKnownTo k sessions = (i : ℕ) → IsKnownTo k (session_at sessions i).state

-- Scripts at a seat of a library, whose office can give these faults.
module _ (k : Contents) (seat : ℕ) (faults : TurnFault → Type 0) where
  -- One step more is played, by its session.
  pub record FeedsOne (AreFed : List Hearing → List Event → List Hearing → Type 0) (step : Step)
      (ss : List Hearing) (event : Event) (events : List Event) (ss' : List Hearing) : Type 0 where
    pub next : Hearing
    pub same : event.session ≡ step.session
    pub fed : IsFed k seat faults step.piece.now any_room (session_at ss step.session) step.piece.bytes
        event.did next event.text
    pub ended : event.ended ≡ next.ended
    pub rest : AreFed (slice_set ss step.session next) events ss'

  -- some steps are played one after the other, each by its session, and these events come of them
  abbrev pub AreFed : List Step → List Hearing → List Event → List Hearing → Type 0
  AreFed [] ss events ss' = (events ≡ []) × (ss' ≡ ss)
  AreFed (step ∷ steps) ss [] ss' = ⊥
  AreFed (step ∷ steps) ss (event ∷ events) ss' = FeedsOne (AreFed steps) step ss event events ss'

-- A script is played at an office, which does what its events say: to each session is appended what is
-- written to it, and no session comes or goes.
pub record Plays {A O : Type 0} (office : Ghosts O A) (old new : O) (steps : List Step)
    (ss ss' : List Hearing) (outs outs' : List (List ℕ)) : Type 0 where
  pub events : List Event
  pub fed : AreFed (office.keeps old).contents (office.keeps old).seat office.faults steps ss events ss'
  pub works : Works office old new (deeds_of events)
  pub outs_are : (i : ℕ) → i < length ss
      → slice_index_or outs' i [] ≡ slice_index_or outs i [] ++ replies_written i events
  pub sizes : (length ss' ≡ length ss) × (length outs' ≡ length outs)
  pub known : AreKnownTo (office.keeps old).contents ss → AreKnownTo (office.keeps old).contents ss'

-- each session has patron messages off
abbrev pub HaveNoPatronMessages : List Hearing → Type 0
HaveNoPatronMessages sessions =
    (i : ℕ) → (session_at sessions i).state.extensions.profile.patron_messages ≡ false

-- after the same turns a look is shown the same turns: as by a journal alone, which shows those that it has
abbrev pub ShowsTheSame : (List Turn → Book → Type 0) → Type 0
ShowsTheSame shows =
    (turns : List Turn) (book book' : Book) → shows turns book → shows turns book' → book.turns ≡ book'.turns

-- the steps that are played: all of a script, or none where a piece of it names no session
abbrev pub played : Result (Unit {0}) ScriptFault → List Step → List Step
played (Ok _) steps = steps
played (Err _) steps = []

-- pieces as they are handed in, all at one present
abbrev pub steps_of : Stamp → List (ℕ × Bor (List ℕ)) → List Step
steps_of now pieces =
    map (λ piece. record { session = piece.0; piece = record { now = now; bytes = piece.1.now } }) pieces

-- the sessions that some pieces name
abbrev pub named_in : List (ℕ × Bor (List ℕ)) → List ℕ
named_in pieces = map (λ piece. piece.0) pieces

-- The number at a place, counted from 0, is the first that is none of so many sessions'.
pub record IsStrangerAt (sessions : ℕ) (named : List ℕ) (at : ℕ) : Type 0 where
  pub before : List ℕ
  pub stranger : ℕ
  pub later : List ℕ
  pub split : named ≡ before ++ stranger ∷ later
  pub place : at ≡ length before
  pub known : All (λ session. session < sessions) before
  pub none : sessions ≤ stranger

-- why a script isn't played
abbrev pub IsFaultOf : ℕ → List ℕ → ScriptFault → Type 0
IsFaultOf sessions named (Stranger at) = IsStrangerAt sessions named at
