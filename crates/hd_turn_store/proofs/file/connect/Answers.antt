use Rattle.std.proofs.Common.{◌≡◌, ◌∙◌, sym, ap, refl, ℕ, ◌+◌, Bool, true, false, not, ◌||◌, List, [], ◌∷◌}
use Rattle.std.proofs.Common.{◌++◌, filter, subst}
use Rattle.std.specs.List.{AllZip}
use Rattle.std.proofs.Math.Logic.{∥∥₁_elim}
use Rattle.std.proofs.lemmas.Option.{IfSome_then}
use Rattle.sqlite_trees.specs.declared.store.Shape.{Shape}
use Rattle.sqlite_trees.specs.declared.store.Shape.TheVariants.{Absent}
use Rattle.sqlite_store.specs.declared.catalog.Wanted.{Wanted}
use Rattle.sqlite_store.specs.Catalog.{shape_at}
use Rattle.sqlite_store.specs.Db.{trees_in}
use Rattle.sqlite_store.specs.Listing.{all_trees, listed, listed_from}
use Rattle.sqlite_trees.specs.Props.{rows_set}
use Rattle.hd_turn_store.specs.Words.{AreListed, HoldsDatabase, Image, IsSound, Row, Trees, catalog_tree}
use Rattle.hd_turn_store.specs.Words.{is_table_row, is_view_row, Database, HasCleanDisk, IsLive, Opens, Schema}
use Rattle.hd_turn_store.specs.Words.{State}
use Rattle.hd_turn_store.specs.Crashes.{FindsJournal}
use Rattle.sqlite.specs.Start.{FindsIn}
use Rattle.hd_turn_store.specs.Kept.{Head, KeptTurn}
use Rattle.hd_turn_store.specs.Tables.{Stores, no_schema}
use Rattle.hd_turn_store.proofs.file.connect.Goals as goal

-- rows of which none passes either test, or fails both
none_of_three : {A B C : Type 0} (p q : Row → Bool) (P : Row → A → Type 0) (Q : Row → B → Type 0)
    (R : Row → C → Type 0) (rows : List Row)
    → AllZip P (filter p rows) [] → AllZip Q (filter q rows) []
    → AllZip R (filter (λ r. not (p r || q r)) rows) [] → rows ≡ []
none_of_three p q P Q R [] a b c = refl
none_of_three p q P Q R (row ∷ rows) a b c = absurd (go (p row) (q row) refl refl)
  where
    go : (one other : Bool) → p row ≡ one → q row ≡ other → ⊥
    go true other is is-other = rw is at a
    go false true is is-other = rw is-other at b
    go false false is is-other = rw (is, is-other) at c

none_listed : (rows : List Row) → AreListed rows no_schema → rows ≡ []
none_listed rows all = none_of_three is_table_row is_view_row _ _ _ rows all.tables all.views all.indexes

-- the first place of a list without rows has no tree
first_gap : (from : ℕ) (places : List Wanted) → listed_from from places ≡ [] → shape_at places 0 ≡ Absent
first_gap from [] none = refl
first_gap from (place ∷ places) none = go place.shape refl none
  where
    go : (shape : Shape) → place.shape ≡ shape → listed from place shape ++ listed_from (from + 1) places ≡ []
        → place.shape ≡ Absent
    go Absent is none = is
    go shape is none = absurd (cc)

blank_holds_none : (image : Image) (head : Head) (ks : List KeptTurn) (db : Trees)
    → HoldsDatabase image db → Stores head ks db → IsSound no_schema db → ⊥
unfolding all_trees trees_in
blank_holds_none image head ks db holds stores sound =
    let it = holds.2 in
    let listed : listed_from 0 it.wanted ≡ [] =
    ap (λ (t : Trees). t catalog_tree) (sym it.reads) ∙ none_listed (db catalog_tree) sound.lists.listed in
    let gap = first_gap 0 it.wanted listed in
    let first : db 0 ≡ [] = ap (λ (t : Trees). t 0) it.reads ∙ rw gap refl in
    let row = stores.head in
    cc

-- what SQLite finds in files, in the words of a journal
finds : (image : Image) (s : State) → (HasCleanDisk s → Opens s × IsLive s) → (HasCleanDisk s → FindsIn image s)
    → FindsJournal image s
finds image s opened found = record {
  held = λ clean head ks held schema.
      let o = (opened clean).0 in
      record {
        schema = schema;
        rows = record {
          head = ap (λ (d : Database). d.trees 0) o.clean ∙ ∥∥₁_elim held (rows_set _ _)
              (λ x. ap (λ (t : Trees). t 0) ((found clean).holds x.0 x.1) ∙ x.2.head);
          turns = ap (λ (d : Database). d.trees 1) o.clean ∙ ∥∥₁_elim held (rows_set _ _)
              (λ x. ap (λ (t : Trees). t 1) ((found clean).holds x.0 x.1) ∙ x.2.turns);
        };
        settled = sym o.clean;
        outside = o.autocommit;
        is_open = o.is_open;
      };
  blank = λ clean schema head ks held.
      let o = (opened clean).0 in
      let sound : IsSound s.now.schema s.now.trees = ((opened clean).1 o.is_open).0 in
      ∥∥₁_elim held (λ x y. absurd x) (λ x.
      let trees = ap (λ (d : Database). d.trees) o.clean ∙ (found clean).holds x.0 x.1 in
      blank_holds_none _ head ks x.0 x.1 x.2
      (subst (λ (s : Schema). IsSound s x.0) schema
      (subst (λ (t : Trees). IsSound s.now.schema t) trees sound)));
}

pub returns-in-Ok-clause-found : goal.returns-in-Ok-clause-found
returns-in-Ok-clause-found g c = finds _ _ c.in-Ok.ensures.opened c.in-Ok.ensures.found

pub invariant_of-result : goal.invariant_of-result
invariant_of-result g c = record { found = ∣ finds _ _ c.in-Ok.ensures.opened c.in-Ok.ensures.found ∣₁ }

pub returns-in-Err-clause-why : goal.returns-in-Err-clause-why
returns-in-Err-clause-why g c =
    IfSome_then c.in-Err.left c.in-Err.ensures.cause (λ left it. (it.0, it.3))
