-- What the two queries show of a journal, which stays as it was.
use Rattle.std.proofs.Common.{MatchOption, ◌≢◌, ◌≡◌, ℕ, List, [], ◌∷◌, Option, Some, None, map, refl, ap, ◌∙◌}
use Rattle.std.proofs.Common.{zero, suc, ◌+◌, ◌-◌, ◌<◌, pos, true, false, flat_map, take, drop, sym, subst}
use Rattle.std.proofs.Common.{arith, Less, inl, inr, length, nat_le, nat_lt}
use Rattle.std.proofs.lemmas.Cmp.{on_total}
use Rattle.std.proofs.Math.Seq.{take-nil}
use Rattle.std.proofs.lemmas.Bool.Decides.{nat_tests}
use Rattle.std.proofs.lemmas.Int.{ints}
use Rattle.std.specs.List.{AllByRecursion}
use Rattle.std.specs.List.Sorted.{IsPermutation}
use Rattle.std.proofs.lemmas.List.{drop-map, take-map}
use Rattle.sqlite_value.proofs.OrderLemmas.{value_cmp-Int}
use Rattle.sqlite.specs.Ops.{binary, is_true}
use Rattle.sqlite_sql.proofs.QueryLemmas.{key_cmp_total}
use Rattle.sqlite_keyed.proofs.SortLemmas.{sorted_unique}
use Rattle.sqlite.specs.Clock.{timed}
use Rattle.sqlite.specs.State.{Shown}
use Rattle.sqlite.proofs.Callers.{IsPlain, reads_as, never_commits}
use Rattle.hd_turn_store.specs.Words.{Binary, Blob, CommitsShowing, Compare, Env, Gt, HasCleanDisk, Int}
use Rattle.hd_turn_store.specs.Words.{IsAnswer, IsAscending, Le, Null, Output, Query, Row, Select, ShowsRows}
use Rattle.hd_turn_store.specs.Words.{State, Survives, Text, Trees, end, eval_all, matches_as, or_null}
use Rattle.hd_turn_store.specs.Words.{output, output_cmp, overlay, page, understood}
use Rattle.sqlite.specs.declared.types.Value.{Value}
use Rattle.hd_turn_store.specs.Kept.{Head, KeptTurn, head_cells, number_cell, cells, piece}
use Rattle.hd_turn_store.specs.Holds.{Holds, OnlyReads}
use Rattle.hd_turn_store.specs.Tables.{head_columns, numbered_from, turn_columns}
use Rattle.hd_turn_store.specs.Texts.{select_head_text, select_turns_text}
use Rattle.hd_turn_store.specs.Rows.{bytes_if, number_if, read_cells, text_if}
use Rattle.hd_turn_store.proofs.Writing.{cmp_less}
use Rattle.hd_turn_store.proofs.Texts.{MeansIn, between, columns_from, piece_query, select_head_means}
use Rattle.hd_turn_store.proofs.Texts.{select_turns_means}

-- ---- what is read of a turn's values is the turn

back : {X : Type 0} (put : X → Value) (read : Value → Option X) → read Null ≡ None
    → ((x : X) → read (put x) ≡ Some x) → (o : Option X) → read (or_null put o) ≡ o
back put read none some None = none
back put read none some (Some x) = some x

-- a number that may be missing, as it is read
pub number_read : (v : Value) (n : Option ℕ)
    → MatchOption n (v ≡ Null) (λ x. (v ≢ Null) × (v ≡ Int (pos x))) → number_if v ≡ n
number_read v None is = rw is
number_read v (Some x) is = rw is.1

pub read_back : (k : KeptTurn) → read_cells (cells k) ≡ k
unfolding cells read_cells
read_back k = simp (
  back Text text_if refl (λ t. refl),
  back Blob bytes_if refl (λ b. refl),
  back number_cell number_if refl (λ n. refl),
)

pub all_back : (ks : List KeptTurn) → map read_cells (map cells ks) ≡ ks
all_back [] = refl
all_back (k ∷ ks) = rw (read_back k, all_back ks)

-- ---- which of a table's rows pass, of those between two numbers

is_above : (at low : ℕ) → is_true (binary (Compare Gt Binary) (Int (pos at)) (Int (pos low))) ≡ nat_lt low at
unfolding binary
is_above at low = rw value_cmp-Int (grind (arith, ints, nat_tests))

is_within : (at high : ℕ)
    → is_true (binary (Compare Le Binary) (Int (pos at)) (Int (pos high))) ≡ nat_le at high
unfolding binary
is_within at high = rw value_cmp-Int (grind (arith, ints, nat_tests))

-- the rows with numbers from `low + 1` to `high`
module _ (low high : ℕ) (trees : Trees) where
  abbrev given : Row
  given = Int (pos low) ∷ Int (pos high) ∷ []

  abbrev passing : Row → List Env
  passing r = matches_as Null trees between end (given ∷ r ∷ [])

  abbrev envs : ℕ → List Row → List Env
  envs at [] = []
  envs at (row ∷ rows) = (given ∷ (Int (pos at) ∷ Null ∷ row) ∷ []) ∷ envs (at + 1) rows

  pieces : (from d n at : ℕ) (rows : List Row) → from ≡ at + d → d ≡ low + 1 - at → n ≡ high + 1 - from
      → flat_map passing (numbered_from at rows) ≡ envs from (take n (drop d rows))
  pieces from zero n at [] is early late = let none = take-nil {A = Row} n in rw none
  pieces from (suc d) n at [] is early late = let none = take-nil {A = Row} n in rw none
  pieces from (suc d) n at (row ∷ rows) is early late =
      let a : nat_lt low at ≡ false = grind (arith, nat_tests) in
      rw (is_above at low, a) (pieces from d n (at + 1) rows (omega arith) (omega arith) late)
  pieces from zero zero at (row ∷ rows) is early late =
      let a : nat_lt low at ≡ true = grind (arith, nat_tests) in
      let p : nat_le at high ≡ false = grind (arith, nat_tests) in
      rw (is_above at low, a, is_within at high, p)
      (pieces (at + 1) zero zero (at + 1) rows (omega arith) (omega arith) (omega arith))
  pieces from zero (suc n) at (row ∷ rows) is early late =
      let a : nat_lt low at ≡ true = grind (arith, nat_tests) in
      let p : nat_le at high ≡ true = grind (arith, nat_tests) in
      let same : from ≡ at = omega arith in
      rw (same, is_above at low, a, is_within at high, p)
      (ap (λ l. (given ∷ (Int (pos at) ∷ Null ∷ row) ∷ []) ∷ l)
      (pieces (at + 1) zero n (at + 1) rows (omega arith) (omega arith) (omega arith)))

-- ---- what is shown of them

-- the values of this many columns are shown as they are
abbrev AreShown : ℕ → List Row → Type 0
AreShown width = AllByRecursion (λ row. (params : Row) (at : ℕ)
    → eval_all (columns_from 1 2 width) (params ∷ (Int (pos at) ∷ Null ∷ row) ∷ []) ≡ row)

module _ (table width low high : ℕ) (trees : Trees) where
  abbrev query : Query
  query = piece_query table width

  abbrev outs : ℕ → List Row → List Output
  outs at rows = map (output query) (envs low high trees at rows)

  later : (at m : ℕ) (r : Row) (rows : List Row) → at < m
      → AllByRecursion (λ o. output_cmp query (Int (pos at) ∷ [], r) o ≡ Less) (outs m rows)
  later at m r [] less = tt
  later at m r (row ∷ rows) less = let l = cmp_less at m less in (rw l, later at (m + 1) r rows (omega arith))

  rising : (at : ℕ) (rows : List Row) → IsAscending (λ a b. output_cmp query a b ≡ Less) (outs at rows)
  rising at [] = tt
  rising at (row ∷ rows) =
      let r = (output query (given low high trees ∷ (Int (pos at) ∷ Null ∷ row) ∷ [])).1 in
      (later at (at + 1) r rows (omega arith), rising (at + 1) rows)

  shown_are : (at : ℕ) (rows : List Row) → AreShown width rows
      → map (λ (o : Output). o.1) (outs at rows) ≡ rows
  shown_are at [] shown = refl
  shown_are at (row ∷ rows) shown =
      rw (shown.0 (given low high trees) at, shown_are (at + 1) rows shown.1)

  -- the rows of a table whose numbers begin with 1
  piece_answer : (n : ℕ) (rows found : List Row) → low + n ≡ high → trees table ≡ numbered_from 1 rows
      → AreShown width (take n (drop low rows)) → IsAnswer query trees (given low high trees) found
      → found ≡ take n (drop low rows)
  piece_answer n rows found is stored are a =
      let few = take n (drop low rows) in
      let staged : a.staged ≡ envs low high trees (low + 1) few =
      a.grouped ∙ ap (flat_map (passing low high trees)) stored
      ∙ pieces low high trees (low + 1) low n 1 rows (omega arith) (omega arith) (omega arith) in
      let kept : a.kept ≡ outs (low + 1) few = a.distinct ∙ ap (map (output query)) staged in
      let total = on_total (λ (o : Output). o.0) (key_cmp_total (map (λ k. k.1) query.order) 0) in
      let ordered : a.ordered ≡ outs (low + 1) few =
      sorted_unique (output_cmp query) total (outs (low + 1) few) a.ordered (rising (low + 1) few)
      (subst (λ k. IsPermutation k a.ordered) kept a.same) a.sorted in
      a.shown ∙ ap (λ xs. page query (given low high trees) (map (λ (p : Output). p.1) xs)) ordered
      ∙ shown_are (low + 1) few are

-- ---- a query leaves the journal as it was, and commits nothing

module _ (text : List ℕ) (query : Query) (names : List (List ℕ))
    (is : MeansIn text (Select (record { lets = []; body = query }) names)) (params : Row)
    (old new : State) where
  plain : (h : Head) (ks : List KeptTurn) → Holds old h ks → IsPlain (understood old.now.schema text)
  plain h ks holds = (is old.now.schema holds.schema).plain

  answer : (rows : List Row) (h : Head) (ks : List KeptTurn) → Holds old h ks → Shown text params old new rows
      → IsAnswer query (overlay old.now.trees []) params rows
  answer rows h ks holds shown =
      let it = is old.now.schema holds.schema in
      (reads_as text params old new old.now.schema refl _ it.is it.plain it.unlisted rows shown).answer Null

  stays : (rows : List Row) → Shown text params old new rows → (h : Head) (ks : List KeptTurn)
      → Holds old h ks → Holds new h ks
  unfolding Shown
  stays rows shown h ks holds =
      let none = (subst IsPlain shown.1.is (plain h ks holds)).0 in
      let full = timed params shown.0.formats shown.1.now in
      let same = (subst (ShowsRows old new text shown.0 full rows) none shown.2).3 in
      let now = same.0.now_is in
      record {
        schema = rw now holds.schema;
        rows = rw now holds.rows;
        settled = same.0.committed_is ∙ holds.settled ∙ sym now;
        outside = same.0.mode ∙ holds.outside;
        is_open = same.0.is_open;
      }

  pub only_reads : {is_done : Type 0}
      → (is_done → HasCleanDisk new → (rows : List Row) × Shown text params old new rows)
      → Survives old new (CommitsShowing text params old) → OnlyReads is_done old new
  only_reads shown survives = record {
    clean = λ clean. omega (arith, survives.clean);
    same = λ done clean. let it = shown done clean in stays it.0 it.1;
    crash = λ clean h ks holds db may. elim (survives.crash clean db may) [
      | inl was ↦ was
      | inr it ↦ absurd (never_commits text params old db (plain h ks holds) it)
    ];
  }

-- ---- the turns

cells_shown : (ks : List KeptTurn) → AreShown (length turn_columns) (map cells ks)
unfolding cells
cells_shown [] = tt
cells_shown (k ∷ ks) = (λ params at. refl, cells_shown ks)

-- the turns behind the first `low`
pub finds_piece : (old new : State) (low : ℕ) (rows : List Row)
    → Shown select_turns_text (Int (pos low) ∷ Int (pos (low + 1024)) ∷ []) old new rows
    → (h : Head) (ks : List KeptTurn) → Holds old h ks → rows ≡ map cells (take piece (drop low ks))
unfolding piece
finds_piece old new low rows shown h ks holds =
    let few : take piece (drop low (map cells ks)) ≡ map cells (take piece (drop low ks)) =
    ap (take piece) (drop-map cells low ks) ∙ take-map cells piece (drop low ks) in
    piece_answer 1 (length turn_columns) low (low + 1024) (overlay old.now.trees []) piece (map cells ks) rows
    refl holds.rows.turns (subst (AreShown (length turn_columns)) (sym few) (cells_shown _))
    (answer _ _ _ select_turns_means _ old new rows h ks holds shown) ∙ few

pub finds_head : (old new : State) (rows : List Row)
    → Shown select_head_text (Int (pos 0) ∷ Int (pos 1) ∷ []) old new rows
    → (h : Head) (ks : List KeptTurn) → Holds old h ks → rows ≡ head_cells h ∷ []
finds_head old new rows shown h ks holds =
    piece_answer 0 (length head_columns) 0 1 (overlay old.now.trees []) 1 (head_cells h ∷ []) rows refl
    holds.rows.head (λ params at. refl, tt)
    (answer _ _ _ select_head_means _ old new rows h ks holds shown)
