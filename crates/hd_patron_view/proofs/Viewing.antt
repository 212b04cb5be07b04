-- What is listed of a patron's loans and holds, one after another.
use Rattle.std.proofs.Common.{arith, ◌≡◌, refl, ap, ℕ, ◌+◌, ◌<◌, ◌≤◌, zero, suc, Bool, true, false, not}
use Rattle.std.proofs.Common.{cond, is_some, All, filter, filter_map, length, map, List, [], ◌∷◌, Option}
use Rattle.std.proofs.Common.{Some, None}
use Rattle.std.specs.Prelude.{option_and_then, option_map}
use Rattle.std.specs.List.{cons_option, range_with_len}
use Rattle.std.proofs.lemmas.List.Elements.{All-cons, All-nil}
use Rattle.hd_rules.specs.declared.holds.Hold.{Hold}
use Rattle.hd_rules.specs.declared.views.TitleHold.{TitleHold}
use Rattle.hd_rules.specs.declared.views.ListItem.{ListItem}
use Rattle.hd_rules.specs.declared.views.ListItem.TheVariants.{Copy as CopyItem, Title as TitleItem}
use Rattle.hd_rules.specs.Facts.{Facts}
use Rattle.hd_rules.specs.Desk.{Desk}
use Rattle.hd_rules.specs.Views.{is_kept, is_overdue, is_shelved}
use Rattle.hd_holds.specs.declared.held_title.HeldTitle.{HeldTitle}
use Rattle.hd_patron_view.specs.Held.{held_by, kept_copy, overdue_copy, waiting_title}

-- the holds of these titles, where the first is held, and where it isn't
pub held_first : (d : Desk) (p : ℕ) (e : HeldTitle) (rest : List HeldTitle) (g : Hold) →
    d.hold e.title p ≡ Some g → held_by d p (e ∷ rest)
    ≡ record { title = e.title; hold = g } ∷ held_by d p rest
held_first d p e rest g is = rw is refl

pub not_held_first : (d : Desk) (p : ℕ) (e : HeldTitle) (rest : List HeldTitle) →
    d.hold e.title p ≡ None → held_by d p (e ∷ rest) ≡ held_by d p rest
not_held_first d p e rest is = rw is refl

-- the copies of holds, and their titles
abbrev pub copies_of : List TitleHold → List ListItem
copies_of holds = filter_map (λ (h : TitleHold). option_map CopyItem h.hold.copy) holds

abbrev pub titles_of : List TitleHold → List ListItem
titles_of holds = map (λ (h : TitleHold). TitleItem h.title) holds

-- the copies of the kept holds of these titles
pub kept_are : (d : Desk) (p : ℕ) (es : List HeldTitle) →
    filter_map (kept_copy d p) es ≡ copies_of (filter (is_kept d) (held_by d p es))
kept_are d p [] = refl
kept_are d p (e ∷ es) = by_hold (d.hold e.title p) (kept_are d p es)
  where
    by_test : (h : Hold) (b : Bool) →
        filter_map (kept_copy d p) es ≡ copies_of (filter (is_kept d) (held_by d p es)) →
        cons_option (cond b (option_map CopyItem h.copy) None) (filter_map (kept_copy d p) es)
        ≡ copies_of (cond b (record { title = e.title; hold = h } ∷ filter (is_kept d) (held_by d p es))
        (filter (is_kept d) (held_by d p es)))
    by_test h true more = ap (λ (xs : List ListItem). cons_option (option_map CopyItem h.copy) xs) more
    by_test h false more = more

    by_hold : (o : Option Hold) →
        filter_map (kept_copy d p) es ≡ copies_of (filter (is_kept d) (held_by d p es)) →
        cons_option (option_and_then
        (λ (h : Hold). cond (is_shelved d h.copy) (option_map CopyItem h.copy) None) o)
        (filter_map (kept_copy d p) es)
        ≡ copies_of (filter (is_kept d)
        (cons_option (option_map (λ (h : Hold). record { title = e.title; hold = h }) o) (held_by d p es)))
    by_hold None more = more
    by_hold (Some h) more = by_test h (is_shelved d h.copy) more

-- the titles of the waiting ones
pub waiting_are : (d : Desk) (p : ℕ) (es : List HeldTitle) →
    filter_map (waiting_title d p) es ≡ titles_of (filter (λ h. not (is_kept d h)) (held_by d p es))
waiting_are d p [] = refl
waiting_are d p (e ∷ es) = by_hold (d.hold e.title p) (waiting_are d p es)
  where
    by_test : (h : Hold) (b : Bool) →
        filter_map (waiting_title d p) es ≡ titles_of (filter (λ g. not (is_kept d g)) (held_by d p es)) →
        cons_option (cond b None (Some (TitleItem e.title))) (filter_map (waiting_title d p) es)
        ≡ titles_of (cond (not b)
        (record { title = e.title; hold = h } ∷ filter (λ g. not (is_kept d g)) (held_by d p es))
        (filter (λ g. not (is_kept d g)) (held_by d p es)))
    by_test h true more = more
    by_test h false more = ap (λ (xs : List ListItem). TitleItem e.title ∷ xs) more

    by_hold : (o : Option Hold) →
        filter_map (waiting_title d p) es ≡ titles_of (filter (λ g. not (is_kept d g)) (held_by d p es)) →
        cons_option (option_and_then
        (λ (h : Hold). cond (is_shelved d h.copy) None (Some (TitleItem e.title))) o)
        (filter_map (waiting_title d p) es)
        ≡ titles_of (filter (λ g. not (is_kept d g))
        (cons_option (option_map (λ (h : Hold). record { title = e.title; hold = h }) o) (held_by d p es)))
    by_hold None more = more
    by_hold (Some h) more = by_test h (is_shelved d h.copy) more

-- the overdue ones of these copies
pub overdue_are : (d : Desk) (day : ℕ) (cs : List ℕ) →
    filter_map (overdue_copy d day) cs ≡ map CopyItem (filter (λ c. is_overdue day (d.copy c)) cs)
overdue_are d day [] = refl
overdue_are d day (c ∷ cs) = by_test (is_overdue day (d.copy c)) (overdue_are d day cs)
  where
    by_test : (b : Bool) →
        filter_map (overdue_copy d day) cs ≡ map CopyItem (filter (λ x. is_overdue day (d.copy x)) cs) →
        cons_option (cond b (Some (CopyItem c)) None) (filter_map (overdue_copy d day) cs)
        ≡ map CopyItem (cond b (c ∷ filter (λ x. is_overdue day (d.copy x)) cs)
        (filter (λ x. is_overdue day (d.copy x)) cs))
    by_test true more = ap (λ (xs : List ListItem). CopyItem c ∷ xs) more
    by_test false more = more

-- each kept hold has a copy
pub as_many_copies : (d : Desk) (hs : List TitleHold) →
    length (copies_of (filter (is_kept d) hs)) ≡ length (filter (is_kept d) hs)
as_many_copies d [] = refl
as_many_copies d (h ∷ hs) = by_test (is_shelved d h.hold.copy) refl (as_many_copies d hs)
  where
    by_copy : (o : Option ℕ) → is_shelved d o ≡ true → (xs : List ListItem) →
        length (cons_option (option_map CopyItem o) xs) ≡ suc (length xs)
    by_copy None is xs = cc
    by_copy (Some c) is xs = refl

    by_test : (b : Bool) → is_shelved d h.hold.copy ≡ b →
        length (copies_of (filter (is_kept d) hs)) ≡ length (filter (is_kept d) hs) →
        length (copies_of (cond b (h ∷ filter (is_kept d) hs) (filter (is_kept d) hs)))
        ≡ length (cond b (h ∷ filter (is_kept d) hs) (filter (is_kept d) hs))
    by_test true is more =
        let one : length (copies_of (h ∷ filter (is_kept d) hs))
        ≡ suc (length (copies_of (filter (is_kept d) hs))) =
        by_copy h.hold.copy is (copies_of (filter (is_kept d) hs)) in
        omega arith
    by_test false is more = more

-- copies of a range are copies of the catalogue
pub known_copies : (k : Facts) (test : ℕ → Bool) (a n : ℕ) → a + n ≤ k.copies →
    All (λ (c : ℕ). c < k.copies) (filter test (range_with_len a n))
known_copies k test a zero le = All-nil (λ (c : ℕ). c < k.copies)
known_copies k test a (suc n) le =
    by_test (test a) (known_copies k test (a + 1) n (let rest : (a + 1) + n ≤ k.copies = omega arith in rest))
  where
    by_test : (b : Bool) → All (λ (c : ℕ). c < k.copies) (filter test (range_with_len (a + 1) n)) →
        All (λ (c : ℕ). c < k.copies) (cond b (a ∷ filter test (range_with_len (a + 1) n))
        (filter test (range_with_len (a + 1) n)))
    by_test true rest = All-cons (λ (c : ℕ). c < k.copies) a (filter test (range_with_len (a + 1) n))
        (let low : a < k.copies = omega arith in low) rest
    by_test false rest = rest

pub few_copies : (test : ℕ → Bool) (a n : ℕ) → length (filter test (range_with_len a n)) ≤ n
few_copies test a zero = omega arith
few_copies test a (suc n) = by_test (test a) (few_copies test (a + 1) n)
  where
    by_test : (b : Bool) → length (filter test (range_with_len (a + 1) n)) ≤ n →
        length (cond b (a ∷ filter test (range_with_len (a + 1) n)) (filter test (range_with_len (a + 1) n)))
        ≤ suc n
    by_test true le = omega arith
    by_test false le = omega arith

-- one more is found in a list, or none
pub counted_one : {A B : Type 0} (f : A → Option B) (x : A) (xs : List A) → is_some (f x) ≡ true →
    length (filter_map f (x ∷ xs)) ≡ length (filter_map f xs) + 1
counted_one {A} {B} f x xs is = by_value (f x) is
  where
    by_value : (o : Option B) → is_some o ≡ true →
        length (cons_option o (filter_map f xs)) ≡ length (filter_map f xs) + 1
    by_value None none = cc
    by_value (Some y) some = omega arith

pub counted_none : {A B : Type 0} (f : A → Option B) (x : A) (xs : List A) → is_some (f x) ≡ false →
    length (filter_map f (x ∷ xs)) ≡ length (filter_map f xs)
counted_none {A} {B} f x xs is = by_value (f x) is
  where
    by_value : (o : Option B) → is_some o ≡ false →
        length (cons_option o (filter_map f xs)) ≡ length (filter_map f xs)
    by_value None none = refl
    by_value (Some y) some = cc

pub fewer_found : {A B : Type 0} (f : A → Option B) (xs : List A) → length (filter_map f xs) ≤ length xs
fewer_found f [] = omega arith
fewer_found {A} {B} f (x ∷ xs) = by_value (f x) (fewer_found f xs)
  where
    by_value : (o : Option B) → length (filter_map f xs) ≤ length xs →
        length (cons_option o (filter_map f xs)) ≤ length (x ∷ xs)
    by_value None fewer = omega arith
    by_value (Some y) fewer = omega arith

pub overdue_counted : (d : Desk) (day : ℕ) (cs : List ℕ) →
    length (filter_map (overdue_copy d day) cs) ≡ length (filter (λ c. is_overdue day (d.copy c)) cs)
overdue_counted d day [] = refl
overdue_counted d day (c ∷ cs) = by_test (is_overdue day (d.copy c)) (overdue_counted d day cs)
  where
    by_test : (b : Bool) →
        length (filter_map (overdue_copy d day) cs) ≡ length (filter (λ x. is_overdue day (d.copy x)) cs) →
        length (cons_option (cond b (Some (CopyItem c)) None) (filter_map (overdue_copy d day) cs))
        ≡ length (cond b (c ∷ filter (λ x. is_overdue day (d.copy x)) cs)
        (filter (λ x. is_overdue day (d.copy x)) cs))
    by_test true more = ap suc more
    by_test false more = more
