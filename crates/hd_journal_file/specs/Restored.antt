-- A journal that takes the rows of a file again.
use Rattle.std.specs.Prelude.{◌≡◌, ◌≢◌, ℕ, ◌+◌, ◌^◌, ◌<◌, ◌≤◌, true, false, List, [], ◌∷◌, ◌++◌, length}
use Rattle.hd_rules.specs.Journal.{Turn}
use Rattle.hd_rules.specs.Turns.{Message}
use Rattle.hd_rules.specs.declared.replies.TurnReply.{TurnReply}
use Rattle.hd_journal.specs.Books.{Book, facts, state, machine_answer}
use Rattle.hd_journal.specs.Changing.{is_changing, changing}
use Rattle.hd_turn_store.specs.Kept.{KeptTurn, new_format}
use Rattle.hd_turn_store.specs.Faults.{IsReadingFault}
use Rattle.hd_turn_row.specs.Faults.{IsFirstFault}
use Rattle.hd_turn_row.specs.Replies.{outcome_word, number_column, IsReplyColumn}
use Rattle.hd_turn_row.specs.Rows.{AreTurnRows, IsRowOf, IsTurnRow}
use Rattle.hd_journal_file.specs.declared.fault.OutcomeColumn.{OutcomeColumn}
use Rattle.hd_journal_file.specs.declared.fault.OutcomeColumn.TheVariants.{Outcome, Number, Reply}
use Rattle.hd_journal_file.specs.declared.fault.RestoreFault.{RestoreFault}
use Rattle.hd_journal_file.specs.declared.fault.RestoreFault.TheVariants.{Unread, Memory, NoTurn, NoChange}
use Rattle.hd_journal_file.specs.declared.fault.RestoreFault.TheVariants.{Differs, TooMany}

-- It took the turn of a row, which is changing.
pub record TakesRow (format : ℕ) (old new : Book) (row : KeptTurn) : Type 0 where
  pub contents : new.contents ≡ old.contents
  pub turn : Turn
  pub turns : new.turns ≡ old.turns ++ turn ∷ []
  pub is : IsTurnRow old.contents format turn row
  pub changes : is_changing (state old) turn.message ≡ true

-- It took the turns of some rows, each of which is changing.
pub record TakesRows (format : ℕ) (old new : Book) (rows : List KeptTurn) : Type 0 where
  pub contents : new.contents ≡ old.contents
  pub made : List Turn
  pub turns : new.turns ≡ old.turns ++ made
  pub are : AreTurnRows old.contents format made rows
  pub changes : changing (facts old) old.turns ≡ old.turns → changing (facts new) new.turns ≡ new.turns

-- A journal has taken the turns of a whole file: each of them is changing.
pub record HasTaken (old new : Book) : Type 0 where
  pub contents : new.contents ≡ old.contents
  pub changes : changing (facts new) new.turns ≡ new.turns

-- Somebody is told each of these counts, one after the other; `hears` says what a call tells. Each is more
-- than the one before, which at first is `from`, and the last one is `all`.
abbrev pub HearsCounts : {P : Type 0} → (P → ℕ → P → Type 0) → P → ℕ → List ℕ → ℕ → P → Type 0
HearsCounts hears old from [] all new = (new ≡ old) × (from ≡ all)
HearsCounts {P} hears old from (count ∷ counts) all new =
    (from < count) × ((next : P) × hears old count next × HearsCounts hears next count counts all new)

-- Somebody is told how many turns are taken, up to all of them.
abbrev pub HearsUpTo : {P : Type 0} → (P → ℕ → P → Type 0) → ℕ → P → P → Type 0
HearsUpTo hears all old new = (counts : List ℕ) × HearsCounts hears old 0 counts all new

-- The first column of a row that says something else than what a turn came to. In the format before this one
-- that of the reply isn't looked at.
abbrev pub DiffersFirst : ℕ → TurnReply → KeptTurn → OutcomeColumn → Type 0
DiffersFirst format reply row Outcome = row.outcome ≢ outcome_word reply
DiffersFirst format reply row Number = (row.outcome ≡ outcome_word reply) × (row.number ≢ number_column reply)
DiffersFirst format reply row Reply =
    (format ≡ new_format) × (row.outcome ≡ outcome_word reply) × (row.number ≡ number_column reply)
    × ¬ IsReplyColumn reply row.reply

-- what a row asks of a journal
pub record RowAsks (book : Book) (row : KeptTurn) : Type 0 where
  pub seat : ℕ
  pub message : Message
  pub is : IsRowOf book.contents seat message row

-- Why it doesn't take the turn of the row with a number.
abbrev pub RefusesRow : ℕ → Book → KeptTurn → ℕ → RestoreFault → Type 0
RefusesRow format book row number (NoTurn at why) =
    (at ≡ number) × IsFirstFault book.contents row why
RefusesRow format book row number (NoChange at) =
    (at ≡ number) × ((asks : RowAsks book row) × (is_changing (state book) asks.message ≡ false))
RefusesRow format book row number (Differs at column) =
    (at ≡ number)
    × ((asks : RowAsks book row) × DiffersFirst format (machine_answer book asks.message).reply row column)
RefusesRow format book row number Memory = Unit {0}
RefusesRow format book row number (Unread fault) = ⊥
RefusesRow format book row number TooMany = ⊥

-- It took the turns of the first of some rows, which come after `after` others, and not that of the next.
pub record StopsAt (format : ℕ) (old : Book) (rows : List KeptTurn) (after : ℕ) (fault : RestoreFault)
    : Type 0 where
  pub book : Book
  pub before : List KeptTurn
  pub row : KeptTurn
  pub later : List KeptTurn
  pub rows_are : rows ≡ before ++ row ∷ later
  pub took : TakesRows format old book before
  pub refuses : RefusesRow format book row (after + length before + 1) fault

-- Why it doesn't take the turns of all these rows: they can't be read, or there are more than can be counted,
-- or one is refused.
abbrev pub RefusesRows : ℕ → Book → List KeptTurn → ℕ → RestoreFault → Type 0
RefusesRows format old rows after (Unread fault) = IsReadingFault fault
RefusesRows format old rows after TooMany = 2 ^ 32 ≤ after + length rows + 1
RefusesRows format old rows after fault = StopsAt format old rows after fault
