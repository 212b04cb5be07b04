-- The whole of carrying over: from the noted copies to the listed ones, and from no obstacle to the law.
use Rattle.std.proofs.Common.{◌≡◌, ◌≢◌, ◌∙◌, ℕ, ◌+◌, ◌<◌, ◌≤◌, zero, suc, Bool, true, false, cond, inl, inr}
use Rattle.std.proofs.Common.{List, [], ◌∷◌, ◌++◌, Option, Some, ap, length, sym, subst, refl, arith, nat_lt}
use Rattle.std.specs.Prelude.{Result, Ok, Err, IfOk, OnOk}
use Rattle.std.proofs.Math.Dec.{eqb}
use Rattle.std.proofs.lemmas.Bool.{cases_Bool, eqb-true, ltb-false, ltb-true}
use Rattle.hd_rules.specs.declared.holds.Hold.{Hold}
use Rattle.hd_rules.specs.declared.rows.OpeningRow.{OpeningRow}
use Rattle.hd_rules.specs.declared.limits.TheConstants.{MOST_GIVEN}
use Rattle.hd_rules.specs.Facts.{Facts, AreInRange}
use Rattle.hd_rules.specs.Desk.{Desk}
use Rattle.hd_rules.specs.Known.{IsKnownDesk}
use Rattle.hd_rules.specs.Sound.{AreNamed, Sound}
use Rattle.hd_queue.specs.Holds.{hold_of}
use Rattle.hd_rules.specs.Carry.{Renumbering}
use Rattle.hd_catalogue.specs.Contents.{Contents, facts_of}
use Rattle.hd_desk.specs.Asking.{AreQueuesOf}
use Rattle.hd_carry.specs.declared.obstacle.Obstacle.{Obstacle}
use Rattle.hd_carry.specs.declared.obstacle.Obstacle.TheVariants.{NumbersUsedUp}
use Rattle.hd_carry.specs.ByNames.{by_names, HasDistinctNames}
use Rattle.hd_carry.specs.CarriedRows.{carried_rows, copy_row, copy_rows, hold_rows, row_or_none}
use Rattle.hd_carry.specs.Faults.{all_obstacles}
use Rattle.hd_carry.specs.Laws.{CarryOver, NamesKeepToThemselves, RowsCarryADeskOver}
use Rattle.hd_carry.specs.Numbers.{AreCopiesOf}
use Rattle.hd_carry.specs.Obstacles.{copies_obstacles, copy_obstacles, number_obstacles, obstacles}
use Rattle.hd_carry.specs.Obstacles.{titles_obstacles}
use Rattle.hd_carry.specs.WriteOffs.{AreNoted, is_listed, is_noted, without_loans, written_off, written_state}

-- what is in the way at the copies below a number, and their rows, are told by where these are
obstacles_alike : (r : Renumbering) (d e : Desk) (n : ℕ) → ((c : ℕ) → c < n → d.copy c ≡ e.copy c) →
    copies_obstacles r d n ≡ copies_obstacles r e n
obstacles_alike r d e zero same = refl
obstacles_alike r d e (suc n) same =
    ap (λ l. l ++ copy_obstacles r n (d.copy n)) (obstacles_alike r d e n (λ c l. same c (omega arith)))
    ∙ ap (λ s. copies_obstacles r e n ++ copy_obstacles r n s) (same n (omega arith))

rows_alike : (r : Renumbering) (j : Facts) (d e : Desk) (n : ℕ) → ((c : ℕ) → c < n → d.copy c ≡ e.copy c) →
    copy_rows r j d n ≡ copy_rows r j e n
rows_alike r j d e zero same = refl
rows_alike r j d e (suc n) same =
    ap (λ l. l ++ row_or_none (copy_row r j n (d.copy n)))
    (rows_alike r j d e n (λ c l. same c (omega arith)))
    ∙ ap (λ s. copy_rows r j e n ++ row_or_none (copy_row r j n s)) (same n (omega arith))

-- where the listed copies are noted, their loans end
pub ended_alike : (k : Facts) (d : Desk) (listed : List ℕ) (notes : List Bool)
    → AreNoted k.copies listed notes → (c : ℕ) → c < k.copies
    → (without_loans k (is_noted notes) d).copy c ≡ (written_off k listed d).copy c
unfolding without_loans
ended_alike k d listed notes noted c l = ap (λ b. written_state b (k.home c) (d.copy c)) (noted.each c l)

listed_obstacles : (r : Renumbering) (k : Facts) (d : Desk) (listed : List ℕ) (notes : List Bool)
    (queues : ℕ → List Hold) →
    AreNoted k.copies listed notes →
    obstacles r k (without_loans k (is_noted notes) d) queues ≡ obstacles r k (written_off k listed d) queues
listed_obstacles r k d listed notes queues noted =
    ap (λ l. l ++ titles_obstacles r queues k.titles)
    (obstacles_alike r (without_loans k (is_noted notes) d) (written_off k listed d) k.copies
    (ended_alike k d listed notes noted))

listed_rows : (r : Renumbering) (k j : Facts) (d : Desk) (listed : List ℕ) (notes : List Bool)
    (queues : ℕ → List Hold) →
    AreNoted k.copies listed notes →
    carried_rows r k j (without_loans k (is_noted notes) d) queues
    ≡ carried_rows r k j (written_off k listed d) queues
listed_rows r k j d listed notes queues noted =
    ap (λ l. hold_rows r queues k.titles ++ l)
    (rows_alike r j (without_loans k (is_noted notes) d) (written_off k listed d) k.copies
    (ended_alike k d listed notes noted))

front_none : (xs ys : List Obstacle) → xs ++ ys ≡ [] → xs ≡ []
front_none [] ys e = refl
front_none (x ∷ xs) ys e = absurd cc

back_none : (xs ys : List Obstacle) → xs ++ ys ≡ [] → ys ≡ []
back_none [] ys e = e
back_none (x ∷ xs) ys e = absurd cc

few_numbers : (b : Bool) (last : ℕ) (j : Facts) → nat_lt MOST_GIVEN (last + j.command_limit) ≡ b →
    number_obstacles last j ≡ [] → last + j.command_limit ≤ MOST_GIVEN
few_numbers true last j is none = absurd (let e : NumbersUsedUp ∷ [] ≡ [] = rw is at none in cc)
few_numbers false last j is none = ltb-false MOST_GIVEN (last + j.command_limit) is

-- what was told, by the noted copies, is all that is in the way, by the listed ones
pub told_all : (old new : Contents) (last : ℕ) (d : Desk) (listed : List ℕ) (notes : List Bool)
    (queues : ℕ → List Hold)
    (r : Renumbering) (told : List Obstacle) (many : ℕ) → many ≡ (facts_of old).copies → r
    ≡ by_names old new →
    AreNoted many listed notes →
    told ≡ obstacles r (facts_of old) (without_loans (facts_of old) (is_noted notes) d)
    queues ++ number_obstacles last (facts_of new) →
    told ≡ all_obstacles old new last (written_off (facts_of old) listed d) queues
told_all old new last d listed notes queues r told many count names noted is =
    is
    ∙ ap (λ l. l ++ number_obstacles last (facts_of new))
    (listed_obstacles r (facts_of old) d listed notes queues
    (subst (λ n. AreNoted n listed notes) count noted))
    ∙ ap (λ s. obstacles s (facts_of old) (written_off (facts_of old) listed d) queues ++ number_obstacles
    last (facts_of new)) names

-- with none of them there are numbers left
pub numbers_left : (old new : Contents) (last : ℕ) (d : Desk) (queues : ℕ → List Hold)
    → all_obstacles old new last d queues ≡ [] →
    last + (facts_of new).command_limit ≤ MOST_GIVEN
numbers_left old new last d queues none =
    few_numbers (nat_lt MOST_GIVEN (last + (facts_of new).command_limit)) last (facts_of new) refl
    (back_none (obstacles (by_names old new) (facts_of old) d queues) (number_obstacles last (facts_of new))
    none)

-- and the rows carry the desk over
pub carried_over : (old new : Contents) (last : ℕ) (d : Desk) (listed : List ℕ) (notes : List Bool)
    (queues : ℕ → List Hold)
    (r : Renumbering) (rows : List OpeningRow) (many : ℕ) → RowsCarryADeskOver → HasDistinctNames old →
    AreInRange (facts_of old) →
    IsKnownDesk (facts_of old) d → AreQueuesOf (facts_of old) d queues → many ≡ (facts_of old).copies →
    r ≡ by_names old new → AreNoted many listed notes →
    rows ≡ carried_rows r (facts_of old) (facts_of new) (without_loans (facts_of old) (is_noted notes) d)
    queues →
    all_obstacles old new last (written_off (facts_of old) listed d) queues ≡ [] →
    (n : ℕ) → Sound (facts_of old) n d →
    CarryOver (facts_of old) (facts_of new) (by_names old new) n (written_off (facts_of old) listed d) rows
carried_over old new last d listed notes queues r rows many law distinct range known kept count names noted is
    none n sound =
    subst (CarryOver (facts_of old) (facts_of new) (by_names old new) n (written_off (facts_of old) listed d))
    (sym (is
    ∙ listed_rows r (facts_of old) (facts_of new) d listed notes queues
    (subst (λ n. AreNoted n listed notes) count noted)
    ∙ ap (λ s. carried_rows s (facts_of old) (facts_of new) (written_off (facts_of old) listed d) queues)
    names))
    (law old new n (is_listed listed) d queues distinct range sound known kept
    (front_none (obstacles (by_names old new) (facts_of old) (written_off (facts_of old) listed d) queues)
    (number_obstacles last (facts_of new)) none))

-- each new number of a copy is one of the new catalogue
pub copies_of_names : (old new : Contents) (r : Renumbering) → NamesKeepToThemselves → HasDistinctNames old
    → r ≡ by_names old new →
    AreCopiesOf (facts_of new) r
copies_of_names old new r law distinct names =
    subst (AreCopiesOf (facts_of new)) (sym names) (law old new distinct).names.new_copy

-- what follows of a result
pub when_ok : {A E : Type 0} (o : Result A E) (P : A → Type 0) (Q : Type 0) (R : A → Type 0) → IfOk o P
    → OnOk o Q → ((a : A) → P a → Q → R a) → IfOk o R
when_ok (Ok a) P Q R p q all = all a p q
when_ok (Err e) P Q R p q all = tt

-- a list is empty where its length is 0
pub none_there : (xs : List Obstacle) (b : Bool) → b ≡ eqb (length xs) 0 → b ≡ true → xs ≡ []
none_there [] b is e = refl
none_there (x ∷ xs) b is e =
    absurd (let z : length (x ∷ xs) ≡ 0 = eqb-true (length (x ∷ xs)) 0 (sym is ∙ e) in omega arith)

pub some_there : (xs : List Obstacle) (b : Bool) → b ≡ eqb (length xs) 0 → b ≡ false → xs ≢ []
some_there [] b is e = λ none. (let t : b ≡ true = is in cc)
some_there (x ∷ xs) b is e = λ none. cc

-- each hold of a queue stands under its own patron
named_first : (b : Bool) (g : Hold) (o : Option Hold) (p : ℕ) (h : Hold) → eqb g.patron p ≡ b
    → cond b (Some g) o ≡ Some h →
    (o ≡ Some h → h.patron ≡ p) → h.patron ≡ p
named_first true g o p h e found rest = (let q = eqb-true g.patron p e in cc)
named_first false g o p h e found rest = rest found

found_named : (holds : List Hold) (p : ℕ) (h : Hold) → hold_of holds p ≡ Some h → h.patron ≡ p
found_named [] p h is = absurd cc
found_named (g ∷ holds) p h is =
    named_first (eqb g.patron p) g (hold_of holds p) p h refl is (λ found. found_named holds p h found)

pub named : (k : Facts) (d : Desk) (queues : ℕ → List Hold) → AreQueuesOf k d queues → AreNamed d.hold
named k d queues its = λ t p h is. elim (cases_Bool (nat_lt t k.titles)) [
  | inl b ↦ found_named (queues t) p h (sym ((its.queue t (ltb-true t k.titles b)).each p) ∙ is)
  | inr b ↦ absurd (let none = its.past t p (ltb-false t k.titles b) in cc)
]
