-- The laws, each proved. The crates above rest on them, and src/laws.rt has them in plain words.
use Rattle.std.specs.Prelude.{Bool, ◌≡◌, ◌↔◌, IsTrue, MatchOption, Option, ◌+◌, ◌≤◌, length, Ok}
use Rattle.std.specs.Prelude.{Some, None, List, [], ◌∷◌, ◌++◌, All, ◌⊎◌}
use Rattle.hd_rules.specs.Words.{Hold, OpeningRow, Question, ValueOf, Change, Command, Cancel, Survivor}
use Rattle.hd_rules.specs.Words.{TurnReply, TitleHold}
use Rattle.hd_rules.specs.Numbers.{BranchNo, CopyNo, PatronNo, Day, PlaceNo, TerminalNo, CommandNo, HoldStamp}
use Rattle.hd_rules.specs.Facts.{Facts, AreInRange, IsFresh, first_number}
use Rattle.hd_rules.specs.Desk.{Desk, at_home, value, after, take_back}
use Rattle.hd_rules.specs.Choose.{FirstCandidate, LeastFree, loans}
use Rattle.hd_rules.specs.Find.{choice, place}
use Rattle.hd_rules.specs.Ask.{Done, answer, outcome, asks}
use Rattle.hd_rules.specs.Notes.{told_answer}
use Rattle.hd_rules.specs.Same.{same_value, same_answer, same_asked, same_line, same_turn_reply}
use Rattle.hd_rules.specs.Step.{plan}
use Rattle.hd_rules.specs.Run.{IsAmong, outcome_of, run, Rising, next_number, AreChanges, before, less}
use Rattle.hd_rules.specs.Depends.{AnsweredAlike, Depends, NoneDepends, IsLeastDependent}
use Rattle.hd_rules.specs.Target.{Split, NoTarget, IsTarget}
use Rattle.hd_rules.specs.Searches.{depends, first_dependent, first_otherwise, target}
use Rattle.hd_rules.specs.Turns.{Message, State, start, IsTurn}
use Rattle.hd_rules.specs.Machine.{turn_of}
use Rattle.hd_rules.specs.Journal.{Turn, state_after, IsLegal, replied_from, IsRunOfSurvivors}
use Rattle.hd_rules.specs.Headline.{Headline}
use Rattle.hd_rules.specs.Rows.{with_row, with_rows, MayStand, EachMayStand}
use Rattle.hd_rules.specs.Carry.{Renumbering, IsByNames, IsCarriedOver}
use Rattle.hd_rules.specs.Growth.{IsGrownDesk, Grows, ArriveBehind, IsGrownState, AreOfCatalogue}
use Rattle.hd_rules.specs.Record.{Record, IsRecord, IsKeptOf, mended_record}
use Rattle.hd_rules.specs.Replies.{IsReplyTo}
use Rattle.hd_rules.specs.Known.{IsKnownAction, IsKnownDesk, IsKnownDone, IsKnown, IsKnownJournal, IsKnownRow}
use Rattle.hd_rules.specs.Views.{loans_of, holds_of, kept_of, waiting_of, IsLoansOf, IsHoldsOf, IsAtItsPickup}
use Rattle.hd_rules.specs.Sound.{IsFit, Sound, MayOpen, EachBackIsFit, EachOnIsFit}

-- After every legal list of turns, so after every list of the terminals' messages, the headline holds.
abbrev pub TheHeadline : Type 0
TheHeadline = (k : Facts) (turns : List Turn) → IsLegal k turns → Headline k turns

-- What a legal list of turns leads to.
pub record ALegalJournalIsTheRunOfItsSurvivors : Type 0 where
  -- the desk is the run of the survivors, and each reply stands
  pub run : (k : Facts) (turns : List Turn) → IsLegal k turns → IsRunOfSurvivors k turns (state_after k turns)
  -- each survivor has one record
  pub records : (k : Facts) (turns : List Turn) → IsLegal k turns → (s : Survivor) →
      IsAmong s (state_after k turns).survivors → IsKeptOf k turns (state_after k turns).survivors s
  -- each reply is one to its message
  pub replies : (k : Facts) (turns : List Turn) → IsLegal k turns → (turn : Turn) → IsAmong turn turns
      → IsReplyTo turn.message.asked turn.reply
  -- where all that the messages name was given by the catalogue, so was all that the desk has and the replies
  -- name
  pub known : (k : Facts) (turns : List Turn) → AreInRange k → IsKnownDesk k k.opening.desk →
      IsLegal k turns →
      ((turn : Turn) → IsAmong turn turns → IsKnown k turn.message.asked) → IsKnownJournal k turns

-- Which lists of turns are legal.
pub record LegalJournalsGoOn : Type 0 where
  -- one goes on by a turn exactly where that has the machine's reply
  pub goes_on : (k : Facts) (turns : List Turn) (turn : Turn) →
      (IsLegal k (turns ++ turn ∷ [])
      ↔ (IsLegal k turns × (turn.reply ≡ (turn_of k (state_after k turns) turn.message).reply)))
      × (state_after k (turns ++ turn ∷ []) ≡ (turn_of k (state_after k turns) turn.message).state)
  -- whatever the messages are, there is one legal list of turns with them
  pub one : (k : Facts) (turns : List Turn) →
      IsLegal k (replied_from k (start k) turns) × (IsLegal k turns → replied_from k (start k) turns ≡ turns)

-- Each message has one turn: this reply, and this state afterwards.
abbrev pub EachTurnIsDetermined : Type 0
EachTurnIsDetermined =
    (k : Facts) (s : State) (m : Message) (reply : TurnReply) (next : State) →
    Rising (first_number k) s.survivors →
    IsTurn k s m reply next ↔ (turn_of k s m ≡ record { reply = reply; state = next })

-- The target of a cancellation, as it is found.
pub record TheTargetIsTheNewest : Type 0 where
  pub found : (terminal : TerminalNo) (what : Cancel) (survivors : List Survivor) (at : Split) →
      (target terminal what survivors ≡ Some at) ↔ IsTarget terminal what survivors at
  pub none : (terminal : TerminalNo) (what : Cancel) (survivors : List Survivor) →
      (target terminal what survivors ≡ None) ↔ NoTarget terminal what survivors
  -- its number splits the run as it does: into those before it, and all but it
  pub split : (n : CommandNo) (older : List Survivor) (c : Survivor) (newer : List Survivor) →
      Rising n (older ++ c ∷ newer) →
      (before c.number (older ++ c ∷ newer) ≡ older) × (less c.number (older ++ c ∷ newer) ≡ older ++ newer)

-- The first later survivor that depends on a command, as it is found.
pub record TheFirstDependentIsTheLeast : Type 0 where
  -- the search finds none where none depends, else the least number of one that does
  pub least : (k : Facts) (older : List Survivor) (c : Survivor) (newer : List Survivor) →
      Rising (first_number k) (older ++ c ∷ newer) →
      MatchOption (first_dependent k (older ++ c ∷ newer) c newer) (NoneDepends k (older ++ c ∷ newer) c)
      (IsLeastDependent k (older ++ c ∷ newer) c)
  -- the same is found by a walk from the two desks: that with the command and that without it
  pub walk : (k : Facts) (older : List Survivor) (c : Survivor) (newer : List Survivor) →
      Rising (first_number k) (older ++ c ∷ newer) →
      first_dependent k (older ++ c ∷ newer) c newer
      ≡ first_otherwise k (run k (older ++ c ∷ [])) (run k older) newer
  -- the test of dependence is exact
  pub decided : (k : Facts) (survivors : List Survivor) (c d : Survivor) →
      IsTrue (depends k survivors c d) ↔ Depends k survivors c d

-- a command that is accepted in a legal run
pub record IsAcceptedIn (k : Facts) (survivors : List Survivor) (c : Survivor) (done : Done) : Type 0 where
  pub rising : Rising (first_number k) survivors
  pub among : IsAmong c survivors
  pub accepted : outcome_of k (run k (before c.number survivors)) c ≡ Ok done

-- A command on which no later one depends, taken back.
pub record UndoingIsTheRunWithout : Type 0 where
  -- its changes, taken back, lead to the run less it
  pub run_without : (k : Facts) (survivors : List Survivor) (c : Survivor) (done : Done) →
      MayOpen k → IsAcceptedIn k survivors c done → NoneDepends k survivors c
      → take_back done.changes (run k survivors) ≡ run k (less c.number survivors)
  -- through fit desks
  pub fit : (k : Facts) (survivors : List Survivor) (c : Survivor) (done : Done) →
      MayOpen k → IsAcceptedIn k survivors c done → NoneDepends k survivors c
      → EachBackIsFit k done.changes (run k survivors)
  -- each other survivor ends as it did
  pub outcomes : (k : Facts) (survivors : List Survivor) (c : Survivor) →
      Rising (first_number k) survivors → IsAmong c survivors → NoneDepends k survivors c →
      (s : Survivor) → IsAmong s (less c.number survivors) →
      outcome_of k (run k (before s.number (less c.number survivors))) s
      ≡ outcome_of k (run k (before s.number survivors)) s
  -- and its record is the same, but for what is noted
  pub records : (k : Facts) (survivors : List Survivor) (c : Survivor) →
      Rising (first_number k) survivors → IsAmong c survivors → NoneDepends k survivors c →
      (s : Survivor) (r : Record) → IsAmong s (less c.number survivors) → IsRecord k survivors s r →
      IsRecord k (less c.number survivors) s
      (mended_record k (run k (before s.number (less c.number survivors))) r)

-- A command rests on the answers to its questions, and on nothing else.
pub record CommandsRestOnTheirAnswers : Type 0 where
  -- answered alike, it ends alike and asks the same
  pub alike : (k : Facts) (d e : Desk) (n : CommandNo) (command : Command) →
      AnsweredAlike k d e (plan k n command) →
      (outcome k d (plan k n command) ≡ outcome k e (plan k n command))
      × (asks k d (plan k n command) ≡ asks k e (plan k n command))
  -- answers are equal exactly where they are as they are told
  pub told : (k : Facts) (d e : Desk) (q : Question) →
      (told_answer k d q ≡ told_answer k e q) ↔ (answer k d q ≡ answer k e q)
  -- each change is of a cell that it asks for, and begins from what the desk has there
  pub written : (k : Facts) (d : Desk) (n : CommandNo) (command : Command) (done : Done) →
      outcome k d (plan k n command) ≡ Ok done → (change : Change) → IsAmong change done.changes →
      IsAmong (ValueOf change.cell) (asks k d (plan k n command)) × (value d change.cell ≡ change.old)

-- What the changes of a command are, and the desks that they lead to.
pub record CommandsKeepDesksSound : Type 0 where
  -- they are at most four
  pub few : (k : Facts) (d : Desk) (n : CommandNo) (command : Command) (done : Done) →
      outcome k d (plan k n command) ≡ Ok done → length done.changes ≤ 4
  -- at a sound desk they lead through fit desks
  pub fit : (k : Facts) (d : Desk) (n : CommandNo) (command : Command) (done : Done) → Sound k n d →
      outcome k d (plan k n command) ≡ Ok done → EachOnIsFit k done.changes d
  -- they are of distinct cells, each to another value, and the last of those desks is sound
  pub sound : (k : Facts) (d : Desk) (n : CommandNo) (command : Command) (done : Done) → Sound k n d →
      outcome k d (plan k n command) ≡ Ok done →
      AreChanges done.changes × Sound k (n + 1) (after done.changes d)
  -- so every desk that commands lead to is sound
  pub runs : (k : Facts) (survivors : List Survivor) → MayOpen k → Rising (first_number k) survivors →
      Sound k (next_number (first_number k) survivors) (run k survivors)
  -- what a command that names things of the catalogue writes and replies names such again
  pub known : (k : Facts) (d : Desk) (n : CommandNo) (command : Command) (done : Done) →
      AreInRange k → IsKnownDesk k d → IsKnownAction k command.action →
      outcome k d (plan k n command) ≡ Ok done → IsKnownDone k done

-- The first candidate, as it is found.
pub record ChoiceIsTheFirstCandidate : Type 0 where
  pub first : (k : Facts) (d : Desk) (c : CopyNo) (b : BranchNo) (day : Day) →
      FirstCandidate k d c b day (choice k d c b day)
  -- at a fit desk there is no other
  pub only : (k : Facts) (d : Desk) (c : CopyNo) (b : BranchNo) (day : Day) (o : Option Hold) → IsFit k d →
      FirstCandidate k d c b day o ↔ (o ≡ choice k d c b day)

-- the least free place is found, and no other
abbrev pub PlaceIsTheLeastFree : Type 0
PlaceIsTheLeastFree =
    (k : Facts) (d : Desk) (b : BranchNo) (f : PlaceNo) → LeastFree k d b f ↔ (f ≡ place k d b)

-- What is carried over to another catalogue is sound there, with the same stamps, and names things of it. So
-- with its first number above them a journal may open with it.
abbrev pub ACarriedDeskIsSound : Type 0
ACarriedDeskIsSound =
    (k j : Facts) (r : Renumbering) (n : CommandNo) (d e : Desk) → IsByNames k j r → Sound k n d →
    AreInRange j → IsCarriedOver r k j d e → Sound j n e × IsKnownDesk j e

-- A journal goes on under a catalogue that has grown, with all its turns, word for word.
pub record AJournalMayGrow : Type 0 where
  -- a list of turns that ask of the first catalogue's things is legal under both or under neither
  pub legal : (k j : Facts) (turns : List Turn) → Grows k j → AreOfCatalogue k turns →
      IsLegal k turns ↔ IsLegal j turns
  -- it leads to the same state, but for what is new
  pub state : (k j : Facts) (turns : List Turn) → Grows k j → AreOfCatalogue k turns → IsLegal k turns →
      IsGrownState k j (state_after k turns) (state_after j turns)
  -- with the same records
  pub records : (k j : Facts) (turns : List Turn) → Grows k j → AreOfCatalogue k turns → IsLegal k turns →
      (s : Survivor) (r : Record) → IsAmong s (state_after k turns).survivors →
      IsRecord k (state_after k turns).survivors s r → IsRecord j (state_after j turns).survivors s r
  -- such a list asks of the other's things alone, too
  pub asks : (k j : Facts) (turns : List Turn) → Grows k j → AreInRange j → AreOfCatalogue k turns →
      AreOfCatalogue j turns
  -- the other's journal may begin, if it was so
  pub opens : (k j : Facts) → Grows k j → AreInRange k → IsKnownDesk k k.opening.desk → MayOpen k → MayOpen j
  -- it is so where each new copy's arrival stands behind the rows of the opening
  pub arrivals : (k j : Facts) (rows : List OpeningRow) → AreInRange k → AreInRange j → ArriveBehind k j rows →
      Grows k j
  -- one that has grown twice has grown
  pub twice : (k j i : Facts) → Grows k j → Grows j i → Grows k i
  -- a desk has grown to one other, and no more
  pub only : (k j : Facts) (d e f : Desk) → IsGrownDesk k j d e → IsGrownDesk k j d f → e ≡ f

-- The desk with each copy at home is one that a journal may open with.
abbrev pub AFreshDeskMayOpen : Type 0
AFreshDeskMayOpen = (k : Facts) → IsFresh k → MayOpen k

-- Rows that say nothing twice tell a sound desk.
pub record RowsTellASoundDesk : Type 0 where
  -- one that may stand leads from a sound desk to a sound desk
  pub each : (k : Facts) (n : HoldStamp) (d : Desk) (row : OpeningRow) → Sound k n d → MayStand k d n row →
      Sound k n (with_row k.title_of d row)
  -- from the desk with each copy at home on they tell one that a journal may open with
  pub all : (k : Facts) (rows : List OpeningRow) → EachMayStand k (first_number k) (at_home k.home) rows →
      k.opening.desk ≡ with_rows k.title_of (at_home k.home) rows → MayOpen k

-- Rows that name things of the catalogue lead from a desk that does to a desk that does.
pub record KnownRowsTellAKnownDesk : Type 0 where
  pub lead : (k : Facts) (d : Desk) (rows : List OpeningRow) → AreInRange k → IsKnownDesk k d →
      All (IsKnownRow k) rows → IsKnownDesk k (with_rows k.title_of d rows)
  -- so from the desk with each copy at home on
  pub told : (k : Facts) (rows : List OpeningRow) → AreInRange k → All (IsKnownRow k) rows →
      IsKnownDesk k (with_rows k.title_of (at_home k.home) rows)

-- The lists of a patron's loans and holds have each once, in their order, and no other list does.
pub record ListedOnce : Type 0 where
  pub loans : (k : Facts) (d : Desk) (p : PatronNo) (cs : List CopyNo) →
      IsLoansOf k d p cs ↔ (cs ≡ loans_of k d p)
  pub holds : (k : Facts) (d : Desk) (p : PatronNo) (hs : List TitleHold) →
      IsHoldsOf k d p hs ↔ (hs ≡ holds_of k d p)

-- A patron's loans are as many as the desk counts.
abbrev pub ChargedAreCounted : Type 0
ChargedAreCounted = (k : Facts) (d : Desk) (p : PatronNo) → length (loans_of k d p) ≡ loans k d p

-- A patron's holds are the kept ones and the waiting ones.
pub record KeptAndWaitingAreTheHolds : Type 0 where
  -- they are as many
  pub counted : (k : Facts) (d : Desk) (p : PatronNo) →
      length (kept_of k d p) + length (waiting_of k d p) ≡ length (holds_of k d p)
  -- each hold is one of either
  pub either : (k : Facts) (d : Desk) (p : PatronNo) (h : TitleHold) →
      IsAmong h (holds_of k d p) ↔ (IsAmong h (kept_of k d p) ⊎ IsAmong h (waiting_of k d p))
  -- and none is of both
  pub apart : (k : Facts) (d : Desk) (p : PatronNo) (h : TitleHold) →
      IsAmong h (kept_of k d p) → IsAmong h (waiting_of k d p) → ⊥

-- In a sound desk the copy of a kept hold stands at its pickup, for the patron.
abbrev pub AKeptHoldIsAtItsPickup : Type 0
AKeptHoldIsAtItsPickup =
    (k : Facts) (n : HoldStamp) (d : Desk) (p : PatronNo) (h : TitleHold) → Sound k n d →
    IsAmong h (kept_of k d p) → IsAtItsPickup k d p h

-- a test is true exactly where two values are equal
abbrev pub IsExact : {A : Type 0} → (A → A → Bool) → Type 0
IsExact {A} same = (x y : A) → IsTrue (same x y) ↔ (x ≡ y)

-- the tests of what cells have, of answers, of what is asked, of lines, and of the replies of turns
pub record TestsAreExact : Type 0 where
  pub values : IsExact same_value
  pub answers : IsExact same_answer
  pub asked : IsExact same_asked
  pub lines : IsExact same_line
  pub replies : IsExact same_turn_reply
