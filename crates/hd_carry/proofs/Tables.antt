-- Numbers past the last name of a kind, and whole tables.
use Rattle.std.proofs.Common.{◌≡◌, ◌∙◌, ℕ, ◌<◌, ◌≤◌, List, [], Option, None, Some, length, ap, refl, sym}
use Rattle.std.proofs.Common.{arith, nat_lt, inl, inr}
use Rattle.std.specs.Option.{option_and_then, option_map, unwrap_or}
use Rattle.std.proofs.lemmas.List.{get_or_past}
use Rattle.std.proofs.lemmas.Option.{slice_get_past}
use Rattle.std.proofs.lemmas.Bool.{cases_Bool, ltb-true, ltb-false}
use Rattle.hd_catalogue.specs.Names.{AreDistinct, name_at, number_of}
use Rattle.hd_catalogue.specs.Contents.{Contents, facts_of, branch_name, title_name, copy_name, patron_name}
use Rattle.hd_carry.specs.ByNames.{by_names, new_copy}
use Rattle.hd_carry.specs.Numbers.{NumberTables, IsFoundAgain, IsTable, in_table, renumbering}
use Rattle.hd_carry.specs.Telling.{branch_text, title_text, copy_text, patron_text}

nameless : {F : Type 0} (names : List (List ℕ × F)) (n : ℕ) → length names ≤ n → name_at names n ≡ None
nameless names n l = ap (option_map (λ e. e.0)) (slice_get_past names n l)

pub no_branch : (old : Contents) (n : ℕ) → (facts_of old).branches ≤ n → [] ≡ branch_text old n
unfolding facts_of branch_name
no_branch old n l = sym (ap (λ o. unwrap_or o []) (nameless old.branches n l))

pub no_title : (old : Contents) (n : ℕ) → (facts_of old).titles ≤ n → [] ≡ title_text old n
unfolding facts_of title_name
no_title old n l = sym (ap (λ o. unwrap_or o []) (nameless old.titles n l))

pub no_copy : (old : Contents) (n : ℕ) → (facts_of old).copies ≤ n → [] ≡ copy_text old n
unfolding facts_of copy_name
no_copy old n l = sym (ap (λ o. unwrap_or o []) (nameless old.copies n l))

pub no_patron : (old : Contents) (n : ℕ) → (facts_of old).patrons ≤ n → [] ≡ patron_text old n
unfolding facts_of patron_name
no_patron old n l = sym (ap (λ o. unwrap_or o []) (nameless old.patrons n l))

-- what a table has at any number
whole : (to : ℕ → Option ℕ) (many : ℕ) (table : List (Option ℕ)) → IsTable to many table →
    ((n : ℕ) → many ≤ n → to n ≡ None) → (n : ℕ) → in_table table n ≡ to n
whole to many table is past n = elim (cases_Bool (nat_lt n many)) [
  | inl b ↦ is.each n (ltb-true n many b)
  | inr b ↦ (let l : many ≤ n = ltb-false n many b in get_or_past table n None (omega (arith, is.count))
      ∙ sym (past n l))
]

no_new_copy : (old new : Contents) (n : ℕ) → length old.copies ≤ n → new_copy old new n ≡ None
unfolding copy_name
no_new_copy old new n l = rw (nameless old.copies n l) refl

-- the tables of all names
pub tables-are : (old new : Contents) (t : NumberTables)
    → IsTable (by_names old new).branch (facts_of old).branches t.branches →
    IsTable (by_names old new).title (facts_of old).titles t.titles →
    IsTable (by_names old new).copy (facts_of old).copies t.copies →
    IsTable (by_names old new).patron (facts_of old).patrons t.patrons → renumbering t ≡ by_names old new
unfolding by_names renumbering facts_of branch_name title_name copy_name patron_name
tables-are old new t branches titles copies patrons = λ i. record {
  branch = λ n. whole _ _ _ branches (λ m l. ap (option_and_then _) (nameless old.branches m l)) n i;
  title = λ n. whole _ _ _ titles (λ m l. ap (option_and_then _) (nameless old.titles m l)) n i;
  copy = λ n. whole _ _ _ copies (no_new_copy old new) n i;
  patron = λ n. whole _ _ _ patrons (λ m l. ap (option_and_then _) (nameless old.patrons m l)) n i;
}

-- a name that was found again is the number's
pub found_again : {F : Type 0} (names : List (List ℕ × F)) (n : ℕ) (x : List ℕ) → name_at names n ≡ Some x →
    number_of names x ≡ Some n → IsFoundAgain names n
found_again names n x named found = λ name is. cc

-- no two names are equal, where each is found again
pub distinct_all : {F : Type 0} (names : List (List ℕ × F))
    → ((n : ℕ) → n < length names → IsFoundAgain names n) → AreDistinct names
distinct_all names found = λ n name is. elim (cases_Bool (nat_lt n (length names))) [
  | inl b ↦ found n (ltb-true n (length names) b) name is
  | inr b ↦ (let none = nameless names n (ltb-false n (length names) b) in cc)
]
