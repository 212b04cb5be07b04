-- The titles that a patron holds, in their order, tell the list of their holds.
use Rattle.std.proofs.Common.{arith, ◌≡◌, refl, sym, ◌∙◌, ap, subst, ℕ, ◌+◌, ◌<◌, ◌≤◌, ◌⊎◌, inl, inr, zero}
use Rattle.std.proofs.Common.{suc}
use Rattle.std.proofs.Common.{Bool, true, false, cond, ◌==◌, Option, Some, None, List, [], ◌∷◌, length}
use Rattle.std.proofs.Common.{All, filter_map, option_map}
use Rattle.std.specs.Prelude.{nat_lt}
use Rattle.std.specs.List.{AllByRecursion, Contains, cons_option}
use Rattle.std.proofs.lemmas.Bool.{eqb-true, eqb-false, ltb-true}
use Rattle.std.proofs.lemmas.List.Elements.{Contains-append_cases, Contains-append_left}
use Rattle.std.proofs.lemmas.List.Elements.{Contains-append_right}
use Rattle.std.proofs.lemmas.List.Elements.{All-from_recursion, Contains-push, Contains-push_cases}
use Rattle.hd_rules.specs.declared.holds.Hold.{Hold}
use Rattle.hd_rules.specs.declared.views.TitleHold.{TitleHold}
use Rattle.hd_rules.specs.Facts.{Facts}
use Rattle.hd_rules.specs.Desk.{Desk}
use Rattle.hd_rules.specs.Run.{IsAmong}
use Rattle.hd_rules.specs.Views.{AreInOrder, ComesBefore, IsHoldsOf, holds_below, insert_hold, with_hold_of}
use Rattle.hd_holds.specs.declared.held_title.HeldTitle.{HeldTitle}
use Rattle.hd_holds.specs.HeldTitles.{AreHeldBy, IsHeld, IsRising, is_before}
use Rattle.hd_patron_view.specs.Held.{hold_at, held_by}
use Rattle.hd_patron_view.proofs.Viewing.{held_first, not_held_first}

-- what a list has, said in two ways
among_contained : {A : Type 0} (x : A) (xs : List A) → Contains xs x → IsAmong x xs
among_contained x [] has = absurd (let lt : has.0 < 0 = has.1 in let never : ⊥ = omega arith in never)
among_contained x (y ∷ ys) has =
    cases (Contains-append_cases (y ∷ []) ys x has) (λ later. among_contained x ys later)
  where
    first : Contains [] x ⊎ (y ≡ x) → IsAmong x (y ∷ ys)
    first (inl none) = absurd (let lt : none.0 < 0 = none.1 in let never : ⊥ = omega arith in never)
    first (inr e) = inl (sym e)

    cases : Contains (y ∷ []) x ⊎ Contains ys x → (Contains ys x → IsAmong x ys) → IsAmong x (y ∷ ys)
    cases (inl here) more = first (Contains-push_cases [] y x here)
    cases (inr later) more = inr (more later)

contains_among : {A : Type 0} (x : A) (xs : List A) → IsAmong x xs → Contains xs x
contains_among x [] h = absurd h
contains_among x (y ∷ ys) (inl e) =
    subst (Contains (y ∷ ys)) (sym e) (Contains-append_left (y ∷ []) ys y (Contains-push [] y))
contains_among x (y ∷ ys) (inr h) = Contains-append_right (y ∷ []) ys x (contains_among x ys h)

all_among : {A : Type 0} (P : A → Type 0) (x : A) (xs : List A) → AllByRecursion P xs → IsAmong x xs → P x
all_among P x [] all h = absurd h
all_among P x (y ∷ ys) all (inl e) = subst P (sym e) all.0
all_among P x (y ∷ ys) all (inr h) = all_among P x ys all.1 h

-- what comes of a list by a partial function
record Source {A B : Type 0} (f : A → Option B) (y : B) (xs : List A) : Type 0 where
  x : A
  among : IsAmong x xs
  is : f x ≡ Some y

source_of : {A B : Type 0} (f : A → Option B) (y : B) (xs : List A) → IsAmong y (filter_map f xs)
    → Source f y xs
source_of f y [] h = absurd h
source_of {A} {B} f y (x ∷ xs) h = by_value (f x) refl h (source_of f y xs)
  where
    more : Source f y xs → Source f y (x ∷ xs)
    more s = record { x = s.x; among = inr s.among; is = s.is }

    by_value : (o : Option B) → f x ≡ o → IsAmong y (cons_option o (filter_map f xs)) →
        (IsAmong y (filter_map f xs) → Source f y xs) → Source f y (x ∷ xs)
    by_value None is later rest = more (rest later)
    by_value (Some z) is (inl e) rest = record { x = x; among = inl refl; is = is ∙ ap Some (sym e) }
    by_value (Some z) is (inr later) rest = more (rest later)

has_source : {A B : Type 0} (f : A → Option B) (x : A) (y : B) (xs : List A) → IsAmong x xs → f x ≡ Some y →
    IsAmong y (filter_map f xs)
has_source f x y [] h is = absurd h
has_source {A} {B} f x y (z ∷ zs) h is = by_value (f z) refl h (λ later. has_source f x y zs later is)
  where
    by_value : (o : Option B) → f z ≡ o → IsAmong x (z ∷ zs) → (IsAmong x zs → IsAmong y (filter_map f zs)) →
        IsAmong y (cons_option o (filter_map f zs))
    by_value None none (inl e) rest =
        absurd (let two : (let o : Option B = None in o ≡ Some y) = sym none ∙ ap f (sym e) ∙ is in
        let never : ⊥ = cc in never)
    by_value None none (inr later) rest = rest later
    by_value (Some w) some (inl e) rest =
        inl (let two : (let o : Option B = Some w in o ≡ Some y) = sym some ∙ ap f (sym e) ∙ is in
        let same : y ≡ w = cc in same)
    by_value (Some w) some (inr later) rest = inr (rest later)

-- a patron's hold of a title, and what it was found by
found : (d : Desk) (p : ℕ) (e : HeldTitle) (h : TitleHold) → hold_at d p e ≡ Some h →
    (h.title ≡ e.title) × (d.hold e.title p ≡ Some h.hold)
found d p e h is = by_hold (d.hold e.title p) refl is
  where
    by_hold : (o : Option Hold) → d.hold e.title p ≡ o →
        option_map (λ (g : Hold). record { title = e.title; hold = g }) o ≡ Some h →
        (h.title ≡ e.title) × (d.hold e.title p ≡ Some h.hold)
    by_hold None none is = cc
    by_hold (Some g) some is =
        let same : record { title = e.title; hold = g } ≡ h = cc in
        (ap (λ (x : TitleHold). x.title) (sym same), some ∙ ap (λ (x : TitleHold). Some x.hold) same)

held_at : (d : Desk) (p : ℕ) (e : HeldTitle) (g : Hold) → d.hold e.title p ≡ Some g →
    hold_at d p e ≡ Some (record { title = e.title; hold = g })
held_at d p e g is = ap (option_map (λ (x : Hold). record { title = e.title; hold = x })) is

one_hold : (g h : Hold) → (let o : Option Hold = Some g in o ≡ Some h) → g ≡ h
one_hold g h is = cc

-- the earlier of two titles of a patron's has the earlier hold
earlier : (e f : HeldTitle) → e.patron ≡ f.patron → is_before e f ≡ true →
    (e.stamp < f.stamp) ⊎ ((e.stamp ≡ f.stamp) × (e.title < f.title))
earlier e f one is = by_patron (e.patron == f.patron) refl is
  where
    by_stamp : (b : Bool) → (e.stamp == f.stamp) ≡ b →
        cond b (nat_lt e.title f.title) (nat_lt e.stamp f.stamp) ≡ true →
        (e.stamp < f.stamp) ⊎ ((e.stamp ≡ f.stamp) × (e.title < f.title))
    by_stamp true same lt = inr (eqb-true e.stamp f.stamp same, ltb-true e.title f.title lt)
    by_stamp false other lt = inl (ltb-true e.stamp f.stamp lt)

    by_patron : (b : Bool) → (e.patron == f.patron) ≡ b →
        cond b (cond (e.stamp == f.stamp) (nat_lt e.title f.title) (nat_lt e.stamp f.stamp))
        (nat_lt e.patron f.patron) ≡ true →
        (e.stamp < f.stamp) ⊎ ((e.stamp ≡ f.stamp) × (e.title < f.title))
    by_patron true same before = by_stamp (e.stamp == f.stamp) refl before
    by_patron false other before = absurd (eqb-false e.patron f.patron other one)

-- each of these titles is held by the patron
abbrev pub IsHeldBy : Desk → ℕ → HeldTitle → Type 0
IsHeldBy d p e = (e.patron ≡ p) × IsHeld d.hold e

stamp_of : (d : Desk) (p : ℕ) (e : HeldTitle) (g : Hold) → IsHeldBy d p e → d.hold e.title p ≡ Some g →
    g.stamp ≡ e.stamp
stamp_of d p e g is some =
    let there : d.hold e.title p ≡ Some is.1.0 =
    subst (λ (q : ℕ). d.hold e.title q ≡ Some is.1.0) is.0 is.1.1 in
    ap (λ (x : Hold). x.stamp) (one_hold g is.1.0 (sym some ∙ there)) ∙ is.1.2

order_of : (d : Desk) (p : ℕ) (es : List HeldTitle) → IsRising es →
    ((e : HeldTitle) → IsAmong e es → IsHeldBy d p e) → AreInOrder ComesBefore (held_by d p es)
order_of d p [] rising held = tt
order_of d p (e ∷ es) rising held =
    by_hold (d.hold e.title p) refl (order_of d p es rising.1 (λ f among. held f (inr among)))
  where
    before : (g : Hold) → d.hold e.title p ≡ Some g → (y : TitleHold) → Source (hold_at d p) y es →
        ComesBefore (record { title = e.title; hold = g }) y
    before g some y s = by_order (earlier e s.x one (all_among _ s.x es rising.0 s.among))
      where
        there : (y.title ≡ s.x.title) × (d.hold s.x.title p ≡ Some y.hold)
        there = found d p s.x y s.is

        one : e.patron ≡ s.x.patron
        one = (held e (inl refl)).0 ∙ sym (held s.x (inr s.among)).0

        mine : g.stamp ≡ e.stamp
        mine = stamp_of d p e g (held e (inl refl)) some

        other : y.hold.stamp ≡ s.x.stamp
        other = stamp_of d p s.x y.hold (held s.x (inr s.among)) there.1

        by_order : (e.stamp < s.x.stamp) ⊎ ((e.stamp ≡ s.x.stamp) × (e.title < s.x.title)) →
            ComesBefore (record { title = e.title; hold = g }) y
        by_order (inl lt) =
            inl (let a : g.stamp ≡ e.stamp = mine in let b : y.hold.stamp ≡ s.x.stamp = other in omega arith)
        by_order (inr same) =
            inr (
              mine ∙ same.0 ∙ sym other,
              subst (λ (t : ℕ). e.title < t) (sym there.0) same.1,
            )

    by_hold : (o : Option Hold) → d.hold e.title p ≡ o → AreInOrder ComesBefore (held_by d p es) →
        AreInOrder ComesBefore (held_by d p (e ∷ es))
    by_hold None none rest = subst (AreInOrder ComesBefore) (sym (not_held_first d p e es none)) rest
    by_hold (Some g) some rest =
        subst (AreInOrder ComesBefore) (sym (held_first d p e es g some))
        (λ y among. before g some y (source_of (hold_at d p) y es among), rest)

pub held_holds : (k : Facts) (d : Desk) (p : ℕ) (es : List HeldTitle) → AreHeldBy d.hold p es →
    AllByRecursion (λ (e : HeldTitle). e.title < k.titles) es → ((t : ℕ) → k.titles ≤ t → d.hold t p ≡ None) →
    IsHoldsOf k d p (held_by d p es)
held_holds k d p es held known past = record {
  order = order_of d p es held.rising (λ e among. (held.each e).0 (contains_among e es among));
  members = λ h. (is_held h, is_listed h);
}
  where
    is_held : (h : TitleHold) → IsAmong h (held_by d p es)
        → (h.title < k.titles) × (d.hold h.title p ≡ Some h.hold)
    is_held h among =
        let s : Source (hold_at d p) h es = source_of (hold_at d p) h es among in
        let there : (h.title ≡ s.x.title) × (d.hold s.x.title p ≡ Some h.hold) = found d p s.x h s.is in (
          subst (λ (t : ℕ). t < k.titles) (sym there.0) (all_among _ s.x es known s.among),
          subst (λ (t : ℕ). d.hold t p ≡ Some h.hold) (sym there.0) there.1,
        )

    is_listed : (h : TitleHold) → (h.title < k.titles) × (d.hold h.title p ≡ Some h.hold) →
        IsAmong h (held_by d p es)
    is_listed h is =
        let e : HeldTitle = record { patron = p; stamp = h.hold.stamp; title = h.title } in
        has_source (hold_at d p) e h es
        (among_contained e es ((held.each e).1 (refl, (h.hold, is.1, refl)))) (held_at d p e h.hold is.1)

pub all_held : (d : Desk) (p : ℕ) (es : List HeldTitle) → AreHeldBy d.hold p es → (e : HeldTitle) →
    IsAmong e es → IsHeldBy d p e
all_held d p es held e among = (held.each e).0 (contains_among e es among)

pub known_titles : (k : Facts) (es : List HeldTitle)
    → AllByRecursion (λ (e : HeldTitle). e.title < k.titles) es →
    All (λ (e : HeldTitle). e.title < k.titles) es
known_titles k es known = All-from_recursion (λ (e : HeldTitle). e.title < k.titles) es known

-- a patron has no more holds than there are titles
insert_longer : (h : TitleHold) (gs : List TitleHold) → length (insert_hold h gs) ≡ length gs + 1
insert_longer h [] = refl
insert_longer h (g ∷ gs) = by_test (nat_lt h.hold.stamp g.hold.stamp) (insert_longer h gs)
  where
    by_test : (b : Bool) → length (insert_hold h gs) ≡ length gs + 1 →
        length (cond b (h ∷ g ∷ gs) (g ∷ insert_hold h gs)) ≡ length (g ∷ gs) + 1
    by_test true more = omega arith
    by_test false more = omega arith

pub few_holds : (d : Desk) (p n : ℕ) → length (holds_below d p n) ≤ n
few_holds d p zero = omega arith
few_holds d p (suc t) = by_hold (d.hold t p) (few_holds d p t)
  where
    by_hold : (o : Option Hold) → length (holds_below d p t) ≤ t →
        length (with_hold_of t o (holds_below d p t)) ≤ suc t
    by_hold None few = omega arith
    by_hold (Some h) few =
        let longer : length (insert_hold (record { title = t; hold = h }) (holds_below d p t))
        ≡ length (holds_below d p t) + 1 =
        insert_longer (record { title = t; hold = h }) (holds_below d p t) in
        omega arith

-- as many titles as holds
pub as_many : (d : Desk) (p : ℕ) (es : List HeldTitle) → ((e : HeldTitle) → IsAmong e es → IsHeldBy d p e) →
    length (held_by d p es) ≡ length es
as_many d p [] held = refl
as_many d p (e ∷ es) held =
    let is : IsHeldBy d p e = held e (inl refl) in
    let there : d.hold e.title p ≡ Some is.1.0 =
    subst (λ (q : ℕ). d.hold e.title q ≡ Some is.1.0) is.0 is.1.1 in
    let first : length (held_by d p (e ∷ es)) ≡ length (held_by d p es) + 1 =
    ap length (held_first d p e es is.1.0 there)
    ∙ (let one : length (record { title = e.title; hold = is.1.0 } ∷ held_by d p es)
    ≡ length (held_by d p es) + 1 = omega arith in one) in
    let rest : length (held_by d p es) ≡ length es = as_many d p es (λ f among. held f (inr among)) in
    omega arith
