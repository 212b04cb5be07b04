-- What a look shows of a journal.
use Rattle.std.specs.Prelude.{◌≡◌, ℕ, Option, Some, None, List, [], ◌∷◌}
use Rattle.hd_rules.specs.declared.holds.Hold.{Hold}
use Rattle.hd_rules.specs.declared.commands.Survivor.{Survivor}
use Rattle.hd_rules.specs.Numbers.{CommandNo}
use Rattle.hd_rules.specs.Facts.{Facts}
use Rattle.hd_rules.specs.Record.{Record}
use Rattle.hd_catalogue.specs.Contents.{Contents, facts_of}
use Rattle.hd_desk.specs.Asking.{AreQueuesOf, IsQueueOf}
use Rattle.hd_meter.specs.Meter.{Counts}
use Rattle.hd_journal.specs.Books.{Book, facts, state}
use Rattle.hd_journal.specs.Dependents.{IsFirstDependent}
use Rattle.hd_journal.specs.Stored.{IsRecordOf}
use Rattle.hd_journal.specs.Working.{IsDependenceWork}
use Rattle.hd_lists.specs.declared.question.Question.{Question}
use Rattle.hd_list_rows.specs.declared.reader.PageReader.{PageReader}
use Rattle.hd_list_rows.specs.declared.row.Row.{Row}
use Rattle.hd_list_rows.specs.declared.topic.Topic.{Topic}
use Rattle.hd_list_rows.specs.declared.topic.Topic.TheVariants as topic
use Rattle.hd_list_rows.specs.Expired.{IsExpiredPage}
use Rattle.hd_list_rows.specs.PageValue.{PageValue}
use Rattle.hd_list_rows.specs.Pages.{IsWalk, capped, most_turns, page_behind, page_within}
use Rattle.hd_list_rows.specs.Rows.{command_rows, copy_row, patron_rows, queue_rows, turn_rows}
use Rattle.hd_list_rows.specs.Topics.{topic_of}

-- The rows of the surviving command with a number, if there is one.
abbrev pub IsCommand : Facts → List Survivor → CommandNo → Option Record → List Row → Type 0
IsCommand k survivors n None rows = IsRecordOf k survivors n None × (rows ≡ [])
IsCommand k survivors n (Some r) rows =
    IsRecordOf k survivors n (Some r)
    × (first : Option CommandNo) × IsFirstDependent k survivors n first × (rows ≡ command_rows r first)

-- The page that is asked for, of this topic, in this journal.
abbrev pub IsPageOf : Book → Topic → Question ℕ → PageValue → Type 0
IsPageOf book (topic.Copy copy) asked page =
    page ≡ record { rows = copy_row (state book).desk copy ∷ []; next = None }
IsPageOf book (topic.Queue title) asked page =
    (holds : List Hold) × IsQueueOf (facts book) (state book).desk title holds
    × (page ≡ page_behind (capped asked.after) (queue_rows (facts book) (state book).desk title holds))
IsPageOf book (topic.Patron patron) asked page =
    page ≡ page_behind (capped asked.after) (patron_rows (facts book) (state book).desk patron)
IsPageOf book (topic.Expired day) asked page =
    (queues : ℕ → List Hold) × AreQueuesOf (facts book) (state book).desk queues
    × IsExpiredPage (facts book) (state book).desk queues day asked.after page
IsPageOf book (topic.Turns most) asked page =
    page ≡ page_within asked.after (most_turns most) (turn_rows 1 book.turns)
IsPageOf book (topic.Command number) asked page =
    (found : Option Record) × IsCommand (facts book) (state book).survivors number found page.rows
    × (page.next ≡ None)
IsPageOf book topic.Copies asked page =
    IsWalk (facts book) (state book).desk asked (capped asked.after) page

abbrev pub IsShown : Book → Question ℕ → PageValue → Type 0
IsShown book asked page = IsPageOf book (topic_of asked.list asked.key) asked page

-- The work that is counted under the lock: at a command that of finding what depends on it, and no other.
abbrev pub IsWorkOf : Book → Topic → Counts → Counts → Type 0
IsWorkOf book (topic.Command number) old new =
    IsDependenceWork (facts book) (state book).survivors number old new
IsWorkOf book _ old new = new ≡ old

abbrev pub IsLookWork : Book → Question ℕ → Counts → Counts → Type 0
IsLookWork book asked old new = IsWorkOf book (topic_of asked.list asked.key) old new

-- A reader has taken that down, and counted the work.
pub record HasShown (old : PageReader) (book : Book) (new : PageReader) : Type 0 where
  pub same : new.asked ≡ old.asked
  pub shown : IsShown book old.asked new.page
  pub work : IsLookWork book old.asked old.meter new.meter
