-- What columns say, and their first fault.
use Rattle.std.proofs.Common.{◌≡◌, ℕ, ◌⊎◌, Option, None, Some, List, [], ◌∷◌, refl, sym, ap, ◌∙◌, inl}
use Rattle.std.proofs.Common.{inr, rules}
use Rattle.std.specs.Prelude.{IfSome, is_some}
use Rattle.std.specs.List.{AllByRecursion}
use Rattle.std.proofs.lemmas.Option.{same_Some}
use Rattle.hd_catalogue.specs.Contents.{Contents, branch_number, copy_number, facts_of, patron_number}
use Rattle.hd_catalogue.specs.Contents.{title_number}
use Rattle.hd_day_text.specs.Days.{IsDayText}
use Rattle.hd_ask_parts.specs.Acts.{act_named, admits_named}
use Rattle.hd_turn_row.specs.Columns.{AreKnownParts, AreShown, IsKnownIn, IsShown, Said, Says, asked_columns}
use Rattle.hd_turn_row.specs.Columns.{day_of, part, text}
use Rattle.hd_turn_row.specs.Faults.{IsFirst, IsFirstMisfit, IsReadText, misfit}
use Rattle.hd_turn_row.specs.Grown.{OnlyGrew}
use Rattle.hd_turn_row.specs.Rows.{text_or_empty}
use Rattle.hd_turn_row.specs.declared.fault.Column.{Column}
use Rattle.hd_turn_row.specs.declared.fault.Column.TheVariants as columns
use Rattle.hd_turn_row.specs.declared.fault.RowFault.{RowFault}
use Rattle.hd_ask_parts.specs.declared.parts.Parts.{Parts}
use Rattle.hd_turn_store.specs.Kept.{KeptTurn}
use Rattle.hd_turn_row.proofs.ActLemmas.{act_back, admits_back}
use Rattle.hd_turn_row.proofs.NumberLemmas.{number_kept, number_known}

-- of each column, from what holds of it
both : (P Q R : Column → Type 0) → ((c : Column) → P c → Q c → R c) → (cs : List Column) → AllByRecursion P cs
    → AllByRecursion Q cs → AllByRecursion R cs
both P Q R all [] h g = tt
both P Q R all (c ∷ cs) h g = (all c h.0 g.0, both P Q R all cs h.1 g.1)

each : (P Q : Column → Type 0) → ((c : Column) → P c → Q c) → (cs : List Column) → AllByRecursion P cs
    → AllByRecursion Q cs
each P Q all cs h = both P P Q (λ c x y. all c x) cs h h

-- a column that holds isn't the first fault
pub past : {A B C : Type 0} → B → C → A ⊎ (B × C)
past holds later = inr (holds, later)

-- what holds of each has no first fault
pub none_first : (P : Column → Type 0) (fault_of : Column → RowFault) (cs : List Column) (fault : RowFault)
    → AllByRecursion P cs → IsFirst P fault_of cs fault → ⊥
none_first P fault_of [] fault all first = first
none_first P fault_of (c ∷ cs) fault all (inl here) = here.0 all.0
none_first P fault_of (c ∷ cs) fault all (inr later) = none_first P fault_of cs fault all.1 later.1

-- parts are those that they are
pub fits_self : (p : Parts) (fault : RowFault) → IsFirstMisfit p p fault → ⊥
fits_self p fault first =
    let all : AllByRecursion (λ c. part p c ≡ part p c) asked_columns = search rules depth 20 in
    none_first (λ c. part p c ≡ part p c) (λ c. misfit (is_some (part p c)) c) asked_columns fault all first

-- a column shows nothing of none, and of a part a text that says it
by_cases : {V : Type 0} (Says : V → List ℕ → Type 0) (P : Option V → Option (List ℕ) → Type 0) → P None None
    → ((x : V) (t : List ℕ) → Says x t → P (Some x) (Some t)) → (part : Option V) (text : Option (List ℕ))
    → IsShown Says part text → P part text
by_cases Says P none some None None h = none
by_cases Says P none some (Some x) (Some t) h = some x t h
by_cases Says P none some part text h = absurd h

-- it shows one part, where a text says one thing
shown_once : {V : Type 0} (Says : V → List ℕ → Type 0) (part other : Option V) (text : Option (List ℕ))
    → ((x y : V) (t : List ℕ) → Says x t → Says y t → x ≡ y) → IsShown Says part text
    → IsShown Says other text → part ≡ other
shown_once Says None None None once h g = refl
shown_once Says (Some x) (Some y) (Some text) once h g = ap (λ v. Some v) (once x y text h g)
shown_once Says None (Some y) None once h g = absurd g
shown_once Says (Some x) None (Some text) once h g = absurd g
shown_once Says part other text once h g = absurd h

-- the text of a day isn't empty
day_filled : (day : ℕ) (text : List ℕ) → IsDayText day text → IsShown IsDayText (Some day) (day_of text)
day_filled day [] shown = absurd (let spelled = shown.spelled in cc)
day_filled day (byte ∷ bytes) shown = shown

pub day_column : (day : Option ℕ) (text : Option (List ℕ)) (column : List ℕ) → column ≡ text_or_empty text
    → IsShown IsDayText day text → IsShown IsDayText day (day_of column)
day_column day text column is shown =
    rw is (by_cases IsDayText (λ d t. IsShown IsDayText d (day_of (text_or_empty t))) tt day_filled day text
    shown)

-- the same text is of one day
abbrev pub OneDay : Type 0
OneDay = (text : List ℕ) (day other : ℕ) → IsDayText day text → IsDayText other text → day ≡ other

-- a text says one thing
says_once : (one : OneDay) (k : Contents) (c : Column) (x y : Said c) (t : List ℕ) → Says k c x t
    → Says k c y t → x ≡ y
says_once one k columns.Day x y t h g = one t x y h g
says_once one k columns.Until x y t h g = one t x y h g
says_once one k columns.Act x y t h g =
    same_Some _ _ (sym (act_back x) ∙ ap act_named (sym h ∙ g) ∙ act_back y)
says_once one k columns.Admits x y t h g =
    same_Some _ _ (sym (admits_back x) ∙ ap admits_named (sym h ∙ g) ∙ admits_back y)
says_once one k c x y t h g = same_Some _ _ (sym h ∙ g)

-- of a number that is known
says_known : (k : Contents) (c : Column) (x : Said c) (t : List ℕ) → Says k c x t → IsKnownIn (facts_of k) c x
unfolding facts_of patron_number copy_number title_number branch_number
says_known k columns.Patron x t h = number_known k.patrons t x h
says_known k columns.Copy x t h = number_known k.copies t x h
says_known k columns.Title x t h = number_known k.titles t x h
says_known k columns.Branch x t h = number_known k.branches t x h
says_known k c x t h = tt

-- and the same where the catalogue grew
says_still : (old new : Contents) → OnlyGrew old new → (c : Column) (x : Said c) (t : List ℕ) → Says old c x t
    → Says new c x t
unfolding patron_number copy_number title_number branch_number
says_still old new more columns.Terminal x t h = number_kept old.terminals new.terminals t x more.terminals h
says_still old new more columns.Patron x t h = number_kept old.patrons new.patrons t x more.patrons h
says_still old new more columns.Copy x t h = number_kept old.copies new.copies t x more.copies h
says_still old new more columns.Title x t h = number_kept old.titles new.titles t x more.titles h
says_still old new more columns.Branch x t h = number_kept old.branches new.branches t x more.branches h
says_still old new more c x t h = h

-- parts that are the same, column by column
pub same_parts : (p q : Parts)
    → AllByRecursion (λ column. part p column ≡ part q column) asked_columns → p ≡ q
same_parts p q (day, (act, (patron, (copy, (title, (branch, (admits, (until, _)))))))) =
    let does : p.act ≡ q.act = same_Some _ _ act in λ i. record {
      act = does i;
      day = day i;
      patron = patron i;
      copy = copy i;
      title = title i;
      branch = branch i;
      admits = admits i;
      until = until i;
    }

-- the columns show one thing at most
pub parts_once : (one : OneDay) (k : Contents) (row : KeptTurn) (p q : Parts) → AreShown k p row
    → AreShown k q row → p ≡ q
parts_once one k row p q h g =
    same_parts p q
    (both _ _ _ (λ c. shown_once (Says k c) (part p c) (part q c) (text row c) (says_once one k c))
    asked_columns h g)

-- each is read, and what it shows is known
pub shown_read_all : (k : Contents) (row : KeptTurn) (p : Parts) → AreShown k p row
    → AllByRecursion (λ c. IsReadText (Says k c) (text row c)) asked_columns
shown_read_all k row p =
    each _ _ (λ c. by_cases (Says k c) (λ _ t. IsReadText (Says k c) t) tt (λ x t h. (x, h)) (part p c)
    (text row c)) asked_columns

pub shown_known : (k : Contents) (row : KeptTurn) (p : Parts) → AreShown k p row
    → AreKnownParts (facts_of k) p
shown_known k row p h =
    let all : AllByRecursion (λ c. IfSome (part p c) (IsKnownIn (facts_of k) c)) asked_columns =
    each _ _ (λ c. by_cases (Says k c) (λ x _. IfSome x (IsKnownIn (facts_of k) c)) tt (says_known k c)
    (part p c) (text row c)) asked_columns h in
    assumption

-- what a catalogue's columns show those of one that grew show
pub shown_grown : (old new : Contents) (p : Parts) (row : KeptTurn) → OnlyGrew old new → AreShown old p row
    → AreShown new p row
shown_grown old new p row more =
    each _ _ (λ c. by_cases (Says old c) (IsShown (Says new c)) tt (says_still old new more c) (part p c)
    (text row c)) asked_columns
