-- Replays: the lines of an input, answered in order.
use Rattle.std.specs.Prelude.{◌≡◌, ◌≢◌, ◌⊎◌, ℕ, ◌+◌, ◌-◌, ⊤, List, [], ◌∷◌, ◌++◌, All, Some, Result, Ok}
use Rattle.std.specs.Prelude.{Err, Option, length, map, replicate, slice_index_or}
use Rattle.hd_date.specs.Stamps.{Stamp}
use Rattle.hd_rules.specs.Journal.{Turn}
use Rattle.hd_catalogue.specs.Contents.{Contents}
use Rattle.hd_journal.specs.Books.{Book, IsLegalBook}
use Rattle.hd_journal.specs.declared.fault.TurnFault.{TurnFault}
use Rattle.hd_journal.specs.declared.fault.TurnFault.TheVariants as fault
use Rattle.hd_exchange.specs.Deeds.{AreShown}
use Rattle.hd_exchange.specs.Extensions.{Extensions}
use Rattle.hd_session.specs.Endings.{EndsWell}
use Rattle.hd_session.specs.Scripts.{AreFed, Event, Step, deeds_of, session_at, turns_of}
use Rattle.hd_session.specs.Sessions.{Hearing, new_session}
use Rattle.hd_session.specs.declared.ended.Ended.{Ended}
use Rattle.hd_session.specs.declared.ended.Ended.TheVariants as ended
use Rattle.hd_replay.specs.declared.fault.ReplayFault.{ReplayFault}
use Rattle.hd_replay.specs.declared.fault.ReplayFault.TheVariants.{Catalogue, BadNow, NoSession, InputTooLong}
use Rattle.hd_replay.specs.declared.fault.ReplayFault.TheVariants.{Read, Write, Memory}
use Rattle.hd_replay.specs.Inputs.{HasSession, IsLineOf, InputMessage, line_of}
use Rattle.hd_replay.specs.Printing.{ArePrinted, BeginsWith}

-- How far a replay has come: the library, the present, the sessions, the turns made, and the number of lines
-- answered.
pub record Progress : Type 0 where
  pub contents : Contents
  pub now : Stamp
  pub sessions : List Hearing
  pub turns : List Turn
  pub lines : ℕ

-- before any line: each session has these extensions
abbrev pub before_any_line : Contents → Extensions → Stamp → Progress
before_any_line k e now =
    record { contents = k; now = now; sessions = replicate 64 (new_session e); turns = []; lines = 0 }

-- all turns are legal, and the headline holds of them
abbrev pub IsLegalReplay : Progress → Type 0
IsLegalReplay p = IsLegalBook p.contents p.turns

-- what a journal alone can give: that it is out of memory, and no other fault
abbrev pub faults : TurnFault → Type 0
faults what = what ≡ fault.Memory

-- what a journal alone shows to a look: the one that has its turns and no others
abbrev pub shows : List Turn → Book → Type 0
shows turns book = book.turns ≡ turns

-- what a message brings to its session at a present: its text, and a carriage return (13)
abbrev pub step_of : Stamp → InputMessage → Step
step_of now message =
    record { session = message.session - 1; piece = record { now = now; bytes = message.text ++ 13 ∷ [] } }

-- a session goes on after an event, or a line too long has ended it then or before
abbrev pub IsWell : Event → Type 0
IsWell event = EndsWell event.ended

-- so it is after all events but the last, at which a session may have ended out of memory
abbrev pub AreWellToLast : List Event → Type 0
AreWellToLast [] = ⊤
AreWellToLast (event ∷ []) = IsWell event ⊎ (event.ended ≡ Some (ended.Turn fault.Memory))
AreWellToLast (event ∷ next ∷ events) = IsWell event × AreWellToLast (next ∷ events)

-- Lines are replayed: they are messages, and are played as a script, of which this text is printed. Each look
-- is shown the turns before it. Of the script's events this holds.
pub record Replays (Holds : List Event → Type 0) (before after : Progress) (lines : List (List ℕ))
    (text : List ℕ) : Type 0 where
  pub messages : List InputMessage
  pub lines_are : lines ≡ map line_of messages
  pub have_session : All HasSession messages
  pub events : List Event
  pub holds : Holds events
  pub fed : AreFed before.contents 0 faults (map (step_of before.now) messages)
      before.sessions events after.sessions
  pub printed : ArePrinted events text
  pub same : (after.contents ≡ before.contents) × (after.now ≡ before.now)
  pub turns_are : after.turns ≡ before.turns ++ turns_of events
  pub shown : AreShown before.contents shows before.turns (deeds_of events)
  pub counted : after.lines ≡ before.lines + length lines

-- All of the lines are replayed, and this text is put out; each end of a session is a line too long.
abbrev pub AllReplayed : Progress → Progress → List (List ℕ) → List ℕ → Type 0
AllReplayed before after lines text = Replays (All IsWell) before after lines text

-- A line names no session: those before it are replayed, and their text is put out.
pub record StoppedAt (before after : Progress) (lines : List (List ℕ)) (number : ℕ) (text : List ℕ)
    : Type 0 where
  pub first : List (List ℕ)
  pub line : List ℕ
  pub later : List (List ℕ)
  pub split : lines ≡ first ++ line ∷ later
  pub stranger : (message : InputMessage) → ¬ IsLineOf line message
  pub number_is : number ≡ before.lines + length first + 1
  pub replayed : AllReplayed before after first text

-- Some of the lines are replayed, the first ones, and their text is put out up to some point. Each end of a
-- session is a line too long; but at the last of them it may be that it was out of memory.
pub record PartReplayed (before after : Progress) (lines : List (List ℕ)) (part : List ℕ) : Type 0 where
  pub first : List (List ℕ)
  pub later : List (List ℕ)
  pub split : lines ≡ first ++ later
  pub text : List ℕ
  pub replays : Replays AreWellToLast before after first text
  pub begins : BeginsWith text part

-- how far some lines are replayed, and what is put out, where this fault is what it ends with: all where
-- nothing is wrong with them; those before one that names no session; or some, where memory is wanting or a
-- write fails
abbrev pub ReplayedUpTo : ReplayFault → Progress → Progress → List (List ℕ) → List ℕ → Type 0
ReplayedUpTo Read before after lines put = AllReplayed before after lines put
ReplayedUpTo InputTooLong before after lines put = AllReplayed before after lines put
ReplayedUpTo (NoSession number) before after lines put = StoppedAt before after lines number put
ReplayedUpTo Memory before after lines put = PartReplayed before after lines put
ReplayedUpTo Write before after lines put = PartReplayed before after lines put
ReplayedUpTo (Catalogue fault) before after lines put = ⊥
ReplayedUpTo BadNow before after lines put = ⊥

-- the same by how it ends: all where it ends well
abbrev pub Replayed : {X : Type 0} → Progress → Progress → List (List ℕ) → Result X ReplayFault → List ℕ
    → Type 0
Replayed before after lines (Ok _) put = AllReplayed before after lines put
Replayed before after lines (Err fault) put = ReplayedUpTo fault before after lines put

-- The same, where what is put out is appended to an out.
abbrev pub ReplayedOnto : {X : Type 0} → Progress → Progress → List (List ℕ) → Result X ReplayFault
    → List ℕ → List ℕ → Type 0
ReplayedOnto before after lines end out out' =
    (put : List ℕ) × Replayed before after lines end put × (out' ≡ out ++ put)

-- nothing is in any of the outs
abbrev pub AreEmpty : List (List ℕ) → Type 0
AreEmpty outs = (i : ℕ) → slice_index_or outs i [] ≡ []

-- no end by a fault that a journal alone doesn't give
abbrev pub IsOfOffice : Option Ended → Type 0
IsOfOffice end = (what : TurnFault) → what ≢ fault.Memory → end ≢ Some (ended.Turn what)

abbrev pub AreOfOffice : List Hearing → Type 0
AreOfOffice sessions = (i : ℕ) → IsOfOffice (session_at sessions i).ended

-- what may be wrong with a line: it names no session, or memory is wanting
abbrev pub IsOfLine : ReplayFault → Type 0
IsOfLine (NoSession number) = Unit {0}
IsOfLine Memory = Unit {0}
IsOfLine fault = ⊥

-- what may stop some lines: what is wrong with one, or a write that fails
abbrev pub IsStop : ReplayFault → Type 0
IsStop (NoSession number) = Unit {0}
IsStop Memory = Unit {0}
IsStop Write = Unit {0}
IsStop fault = ⊥
