use Rattle.std.proofs.Common.{◌≡◌, ◌≢◌, ◌⊎◌, ℕ, false, IsTrue, List, arith, inl, inr, ne_eqb, refl}
use Rattle.std.proofs.lemmas.Bool.{both_ways, true_from_ne_false}
use Rattle.std.proofs.lemmas.Result.{on_ok_weaker}
use Rattle.sqlite_trees.specs.View.{Commits}
use Rattle.sqlite_trees.proofs.Doubt.{no_doubt}
use Rattle.sqlite_trees.specs.Tree.{with_tree}
use Rattle.hd_turn_store.specs.Words.{FileStore, Ghosts, IsClean, Row, SetsTree, Trees, View, recovers}
use Rattle.hd_turn_store.specs.Words.{shut_if_dirty_at, shut_is_broken, version_rows, version_tree, view}
use Rattle.hd_turn_store.specs.Marks.{GetsMark, MayGetMark, MayHaveMark}
use Rattle.hd_turn_store.proofs.mark.commit_mark.Goals as goal

beside : (db : Trees) (rows : List Row) (tree : ℕ) → tree ≢ version_tree
    → with_tree db version_tree rows tree ≡ db tree
beside db rows tree other = rw (ne_eqb tree version_tree other) refl

-- what is set is committed
gets_mark : (mark : ℕ) (old middle new : View)
    → SetsTree old middle version_tree (λ _. version_rows mark) → Commits middle new → GetsMark mark old new
gets_mark mark old middle new set done = rw (done.is, set.is) (record {
  mark_is = refl;
  others = beside old.trees (version_rows mark);
  settled = λ _. refl;
  numbered = refl;
  is_open = refl;
})

-- what is set is what the store had, but for the mark
set_alone : (old middle : View) (rows : List Row) (db : Trees) → SetsTree old middle version_tree (λ _. rows)
    → db ≡ middle.trees → IsTrue middle.is_open → MayHaveMark old db
set_alone old middle rows db set is is_open =
    (rw set.is at is_open, λ tree other. rw (is, set.is) (beside old.trees rows tree other))

-- a crash in the commit leaves what could be left before, or what is set
left_of : {D : Type 0} {g : Ghosts D} (old middle : FileStore D g) (rows : List Row)
    → (IsClean (view middle) → SetsTree (view old) (view middle) version_tree (λ _. rows))
    → ((db : Trees) → recovers middle db → recovers old db) → (db : Trees)
    → (((view middle).is_broken ≡ false) × (db ≡ (view middle).trees)) ⊎ recovers middle db
    → MayGetMark old db
left_of old middle rows set quiet db (inl did) =
    let is_open : IsTrue (view middle).is_open =
    true_from_ne_false _ (λ shut. both_ways _ did.0 (shut_is_broken middle shut)) in
    let is_clean : IsTrue (view middle).is_clean =
    true_from_ne_false _ (λ dirty. both_ways _ (shut_if_dirty_at middle dirty) is_open) in
    inl (set_alone (view old) (view middle) rows db (set (no_doubt _ is_clean)) did.1 is_open)
left_of old middle rows set quiet db (inr before) = inr (quiet db before)

pub returns-in_err-set_version-clause-crash : goal.returns-in_err-set_version-clause-crash
returns-in_err-set_version-clause-crash g c db may = inr (c.set_version.ensures.quiet.outcomes db may)

pub returns-clause-ok : goal.returns-clause-ok
returns-clause-ok g c clean =
    on_ok_weaker c.commit.result (λ commits is_open.
    let middle : IsClean (view c.set_version.new.self) = omega (arith, c.commit.ensures.clean) in
    gets_mark c.args.mark (view c.args.store.now) (view c.set_version.new.self) _
    (c.in_ok-set_version.ensures.ok middle) (commits clean)) c.commit.ensures.ok

pub returns-clause-crash : goal.returns-clause-crash
returns-clause-crash g c db may =
    left_of c.args.store.now c.set_version.new.self (version_rows c.args.mark) c.in_ok-set_version.ensures.ok
    c.set_version.ensures.quiet.outcomes db (c.commit.ensures.crash db may)
