-- A journal that takes rows again, or why it doesn't.
use Rattle.std.proofs.Common.{◌≡◌, refl, sym, ◌∙◌, ap, subst, ◌⊎◌, inl, inr, ℕ, ◌+◌, ◌<◌, ◌≤◌, true, List}
use Rattle.std.proofs.Common.{[], ◌∷◌, ◌++◌, append_assoc, append-nil, length-append, take, drop, get_or}
use Rattle.std.proofs.Common.{length, map, arith}
use Rattle.std.proofs.lemmas.List.{drop_more, get_or-map, length-drop, length-map, length-take}
use Rattle.std.proofs.lemmas.List.{take-append-drop, take_all, take_more}
use Rattle.std.proofs.Math.Seq.{take-append_seam}
use Rattle.hd_rules.specs.Turns.{Message}
use Rattle.hd_rules.specs.declared.replies.TurnReply.{TurnReply}
use Rattle.hd_journal.specs.declared.turn.Turn.{Turn as Made}
use Rattle.hd_journal.specs.Books.{Book, AddsTurn, facts, machine_answer, next_turn, state}
use Rattle.hd_journal.specs.Changing.{is_changing}
use Rattle.hd_durable.specs.Laws.{ATurnMoreIsKeptWhereItChanges}
use Rattle.hd_turn_row.specs.Rows.{AreTurnRows, HasOutcome, IsRowOf}
use Rattle.hd_turn_store.specs.Holds.{OnlyReads}
use Rattle.hd_turn_store.specs.Kept.{KeptTurn, piece}
use Rattle.hd_turn_store.specs.Rows.{read_cells}
use Rattle.sqlite.specs.Order.{Row}
use Rattle.sqlite.specs.State.{State}
use Rattle.hd_journal_file.specs.Restored.{DiffersFirst, RefusesRow, RefusesRows, RowAsks, TakesRow}
use Rattle.hd_journal_file.specs.Restored.{HearsCounts, TakesRows}
use Rattle.hd_journal_file.specs.declared.fault.OutcomeColumn.{OutcomeColumn}
use Rattle.hd_journal_file.specs.declared.fault.RestoreFault.{RestoreFault}
use Rattle.hd_journal_file.specs.declared.fault.RestoreFault.TheVariants.{Unread, Memory, Differs}
use Rattle.hd_journal_file.specs.declared.fault.RestoreFault.TheVariants.{TooMany}
use Rattle.hd_journal_file.proofs.Held.{rows_join}

-- ---- one row

pub takes_row : {f : ℕ} {old new : Book} {seat : ℕ} {message : Message} {made : Made} {row : KeptTurn}
    → AddsTurn old new seat message made → IsRowOf old.contents seat message row
    → is_changing (state old) message ≡ true → HasOutcome f made.reply row → TakesRow f old new row
takes_row {old} {seat} {message} adds is changes came = record {
  contents = adds.contents;
  turn = next_turn old seat message;
  turns = adds.turns;
  is = record { asked = is; came = rw (← adds.reply) came };
  changes = changes;
}

-- it came to something else
pub refuses_came : {f : ℕ} {book : Book} {reply : TurnReply} {row : KeptTurn} {at : ℕ}
    (asks : RowAsks book row) → reply ≡ (machine_answer book asks.message).reply → (fault : RestoreFault)
    → (fault ≡ Memory) ⊎ ((column : OutcomeColumn) × (fault ≡ Differs at column)
    × DiffersFirst f reply row column) → RefusesRow f book row at fault
refuses_came asks same fault (inl memory) = rw memory tt
refuses_came {f} {row} asks same fault (inr it) =
    rw it.1 (refl, (asks, subst (λ (r : TurnReply). DiffersFirst f r row it.0) same it.2))

-- ---- some rows: none, one, and some behind others

pub takes_none : {f : ℕ} {old : Book} → TakesRows f old old []
takes_none = record { contents = refl; made = []; turns = sym (append-nil _); are = tt; changes = λ all. all }

takes_one : ATurnMoreIsKeptWhereItChanges → {f : ℕ} {old new : Book} {row : KeptTurn} → TakesRow f old new row
    → TakesRows f old new (row ∷ [])
takes_one law {old} {new} one = record {
  contents = one.contents;
  made = one.turn ∷ [];
  turns = one.turns;
  are = (one.is, tt);
  changes = λ all. rw (one.contents, one.turns, law (facts old) old.turns one.turn, one.changes, all) refl;
}

pub takes_then : {f : ℕ} {old mid new : Book} {rows more : List KeptTurn} → TakesRows f old mid rows
    → TakesRows f mid new more → TakesRows f old new (rows ++ more)
takes_then {f} {old} {rows} {more} some next = record {
  contents = next.contents ∙ some.contents;
  made = some.made ++ next.made;
  turns = rw (next.turns, some.turns) (append_assoc old.turns some.made next.made);
  are = rows_join old.contents f some.made next.made rows more some.are (rw (← some.contents) next.are);
  changes = λ all. next.changes (some.changes all);
}

pub one_longer : {f : ℕ} {old new : Book} {row : KeptTurn} → TakesRow f old new row
    → length new.turns ≡ length old.turns + 1
one_longer {old} one = rw one.turns (length-append old.turns (one.turn ∷ []))

-- somebody who was told counts is told one more
pub hears_then : {P : Type 0} (hears : P → ℕ → P → Type 0) (counts : List ℕ) (from all next : ℕ)
    (old mid new : P) → HearsCounts hears old from counts all mid → all < next → hears mid next new
    → HearsCounts hears old from (counts ++ next ∷ []) next new
hears_then hears [] from all next old mid new it more heard =
    let low : from < next = rw it.1 more in
    let told : hears old next new = rw (← it.0) heard in
    (low, (new, told, (refl, refl)))
hears_then hears (count ∷ counts) from all next old mid new it more heard =
    (it.0, (it.1.0, it.1.1, hears_then hears counts count all next it.1.0 mid new it.1.2 more heard))

-- the rows of a journal that had no turn
pub all_rows : {f : ℕ} {old new : Book} {rows : List KeptTurn} → old.turns ≡ [] → TakesRows f old new rows
    → AreTurnRows new.contents f new.turns rows
all_rows none took = rw (took.contents, took.turns, none) took.are

-- the row of a number among stored rows
module _ (items : List Row) (i : ℕ) (item : Row) (row : KeptTurn) (low : i < length items)
    (is : item ≡ get_or items i item) (told : row ≡ read_cells item) where
  abbrev rows : List KeptTurn
  rows = map read_cells items

  within : i < length rows
  within = omega (arith, length-map items read_cells)

  here : row ≡ get_or rows i row
  here = told ∙ ap read_cells is ∙ sym (get_or-map read_cells items i item row low)

  pub takes_next : ATurnMoreIsKeptWhereItChanges → {f : ℕ} {old mid new : Book}
      → TakesRows f old mid (take i rows) → TakesRow f mid new row → TakesRows f old new (take (i + 1) rows)
  takes_next law some one =
      rw (take_more rows i row within, ← here) (takes_then some (takes_one law one))

  -- it isn't taken
  pub refuses_next : {f : ℕ} {old mid : Book} (after at : ℕ) (fault : RestoreFault) → at ≡ after + i + 1
      → TakesRows f old mid (take i rows) → RefusesRow f mid row at fault → RefusesRows f old rows after fault
  refuses_next after at (Unread why) number took refuses = absurd refuses
  refuses_next after at TooMany number took refuses = absurd refuses
  refuses_next {f} {mid} after at fault number took refuses =
      let same : at ≡ after + length (take i rows) + 1 =
      omega (arith, number, within, length-take i rows) in
      record {
        book = mid;
        before = take i rows;
        row = row;
        later = drop (i + 1) rows;
        rows_are = rw (here, ← drop_more rows i row within, take-append-drop) refl;
        took = took;
        refuses = subst (λ (n : ℕ). RefusesRow f mid row n fault) same refuses;
      }

-- the rows of a piece, after others
module _ (rows : List KeptTurn) (at : ℕ) (low : at ≤ length rows) where
  abbrev next : List KeptTurn
  next = take piece (drop at rows)

  pub fits : at + length next ≤ length rows
  fits = omega (arith, length-take piece (drop at rows), length-drop at rows)

  parts : (take at rows ++ next) ++ drop piece (drop at rows) ≡ rows
  parts = rw (append_assoc, take-append-drop, take-append-drop) refl

  pub joined : take at rows ++ next ≡ take (at + length next) rows
  joined =
      let count : length (take at rows ++ next) ≡ at + length next =
      omega (arith, length-append (take at rows) next, length-take at rows) in
      sym (rw (parts, count) at (take-append_seam (take at rows ++ next) (drop piece (drop at rows))))

  pub refuses_piece : {f : ℕ} {old mid : Book} (fault : RestoreFault) → TakesRows f old mid (take at rows)
      → RefusesRows f mid next at fault → RefusesRows f old rows 0 fault
  refuses_piece (Unread why) took is = is
  refuses_piece TooMany took is = omega (arith, fits, is)
  refuses_piece {f} fault took is =
      let number : at + length is.before + 1 ≡ 0 + length (take at rows ++ is.before) + 1 =
      omega (arith, length-append (take at rows) is.before, length-take at rows) in
      record {
        book = is.book;
        before = take at rows ++ is.before;
        row = is.row;
        later = is.later ++ drop piece (drop at rows);
        rows_are = sym parts ∙ rw is.rows_are (simp append_assoc);
        took = takes_then took is.took;
        refuses = subst (λ (n : ℕ). RefusesRow f is.book is.row n fault) number is.refuses;
      }

  -- after the last
  pub all_taken : length next ≡ 0 → take at rows ++ next ≡ rows
  unfolding piece
  all_taken none =
      joined
      ∙ take_all (at + length next) rows
      (omega (arith, none, length-take piece (drop at rows), length-drop at rows))

-- ---- what a connection sees meanwhile

pub reads_then : {P Q R : Type 0} {old mid new : State} → P → (R → Q) → OnlyReads P old mid
    → OnlyReads Q mid new → OnlyReads R old new
reads_then done then first next = record {
  clean = λ clean. first.clean (next.clean clean);
  same = λ all clean head rows holds.
      next.same (then all) clean head rows (first.same done (next.clean clean) head rows holds);
  crash = λ clean head rows holds db may.
      let early = next.clean clean in
      first.crash early head rows holds db
      (next.crash clean head rows (first.same done early head rows holds) db may);
}
