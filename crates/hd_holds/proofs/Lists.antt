-- The holds of one title, as a list.
use Rattle.std.proofs.Common.{◌≡◌, ◌≢◌, ℕ, ◌<◌, ◌==◌, nat_lt, Bool, true, false, cond, List, [], ◌∷◌, Option}
use Rattle.std.proofs.Common.{None, Some, refl, ap, sym}
use Rattle.std.proofs.Common.{◌∙◌, inl, inr, ◌⊎◌, arith, eq-eqb}
use Rattle.std.specs.Prelude.{◌||◌, ◌↔◌, IsTrue}
use Rattle.std.proofs.lemmas.Bool.Decides.{nat_tests}
use Rattle.std.proofs.lemmas.Grind.{common_steps}
use Rattle.std.proofs.lemmas.Bool.{cases_Bool, eqb-true, or_right}
use Rattle.std.proofs.lemmas.Option.{same_Some}
use Rattle.hd_rules.specs.declared.holds.Hold.{Hold}
use Rattle.hd_rules.specs.Facts.{Facts}
use Rattle.hd_rules.specs.Known.{IsKnownHeld, IsKnownHold}
use Rattle.hd_queue.specs.Holds.{AllAfter, HasNoStamp, HasPatronsOnce, IsInOrder, has_stamp, hold_of}
use Rattle.hd_queue.specs.Holds.{with_hold, without}
use Rattle.hd_queue.specs.Laws.{QueuesStayInOrder}
use Rattle.hd_holds.specs.Held.{AreKnown, AreOfPatrons, IsQueue, IsStampOf, with_held}
use Rattle.hd_holds.proofs.Counts.{hold_of-here, hold_of-other}

-- a patron's hold is the first one if that is the patron's, and else among the others
hold_of-cases : (x : Hold) (hs : List Hold) (p : ℕ) (g : Hold) → hold_of (x ∷ hs) p ≡ Some g →
    ((x.patron ≡ p) × (x ≡ g)) ⊎ (hold_of hs p ≡ Some g)
hold_of-cases x hs p g is = by_test (x.patron == p) refl is
  where
    by_test : (b : Bool) → (x.patron == p) ≡ b → cond b (Some x) (hold_of hs p) ≡ Some g →
        ((x.patron ≡ p) × (x ≡ g)) ⊎ (hold_of hs p ≡ Some g)
    by_test true same here = inl (eqb-true x.patron p same, same_Some x g here)
    by_test false other there = inr there

pub hold-named : (hs : List Hold) (p : ℕ) (g : Hold) → hold_of hs p ≡ Some g → g.patron ≡ p
hold-named [] p g is = cc
hold-named (x ∷ hs) p g is = elim (hold_of-cases x hs p g is) [
  | inl here ↦ ap (λ (h : Hold). h.patron) (sym here.1) ∙ here.0
  | inr there ↦ hold-named hs p g there
]

stamp-after : (s : ℕ) (hs : List Hold) (p : ℕ) (g : Hold) → AllAfter s hs → hold_of hs p ≡ Some g
    → s < g.stamp
stamp-after s [] p g all is = cc
stamp-after s (x ∷ hs) p g all is = elim (hold_of-cases x hs p g is) [
  | inl here ↦ rw (← here.1) all.0
  | inr there ↦ stamp-after s hs p g all.1 there
]

-- no two holds of a queue have one stamp
pub stamps-apart : (hs : List Hold) → IsInOrder hs → (p q : ℕ) (g h : Hold) → hold_of hs p ≡ Some g
    → hold_of hs q ≡ Some h →
    g.stamp ≡ h.stamp → p ≡ q
stamps-apart [] order p q g h one two same = cc
stamps-apart (x ∷ hs) order p q g h one two same =
    both (hold_of-cases x hs p g one) (hold_of-cases x hs q h two)
    (λ a b. stamps-apart hs order.1 p q g h a b same)
  where
    both : (((x.patron ≡ p) × (x ≡ g)) ⊎ (hold_of hs p ≡ Some g))
        → (((x.patron ≡ q) × (x ≡ h)) ⊎ (hold_of hs q ≡ Some h)) →
        (hold_of hs p ≡ Some g → hold_of hs q ≡ Some h → p ≡ q) → p ≡ q
    both (inl a) (inl b) rest = sym a.0 ∙ b.0
    both (inl a) (inr b) rest =
        let less : x.stamp < h.stamp = stamp-after x.stamp hs q h order.0 b in
        let at : x.stamp ≡ g.stamp = ap (λ (y : Hold). y.stamp) a.1 in absurd (omega arith)
    both (inr a) (inl b) rest =
        let less : x.stamp < g.stamp = stamp-after x.stamp hs p g order.0 a in
        let at : x.stamp ≡ h.stamp = ap (λ (y : Hold). y.stamp) b.1 in absurd (omega arith)
    both (inr a) (inr b) rest = rest a b

-- where no patron's hold has the stamp, none of the list has it
no_stamp : (n : ℕ) (hs : List Hold) → HasPatronsOnce hs
    → ((p : ℕ) (h : Hold) → hold_of hs p ≡ Some h → h.stamp ≢ n) → HasNoStamp n hs
no_stamp n [] once other = tt
no_stamp n (h ∷ hs) once other =
    (other h.patron h (hold_of-here h hs), no_stamp n hs once.1 (λ p g is. other p g (later p g is)))
  where
    later : (p : ℕ) (g : Hold) → hold_of hs p ≡ Some g → hold_of (h ∷ hs) p ≡ Some g
    later p g is = hold_of-other h hs p
        (λ (e : p ≡ h.patron). let none : hold_of hs p ≡ None = ap (hold_of hs) e ∙ once.0 in cc) ∙ is

-- a hold has the stamp where the list's test says so
stamp-found : (n : ℕ) (hs : List Hold) → HasPatronsOnce hs → has_stamp hs n ≡ true → IsStampOf n (hold_of hs)
stamp-found n [] once on = absurd (let no : ⊥ = cc in no)
stamp-found n (x ∷ xs) once on = by_test (x.stamp == n) refl on (stamp-found n xs once.1)
  where
    by_test : (b : Bool) → (x.stamp == n) ≡ b → (b || has_stamp xs n) ≡ true
        → (has_stamp xs n ≡ true → IsStampOf n (hold_of xs)) →
        IsStampOf n (hold_of (x ∷ xs))
    by_test true same here later = (x.patron, x, hold_of-here x xs, eqb-true x.stamp n same)
    by_test false other there later =
        let at = later there in (
          at.0,
          at.1,
          hold_of-other x xs at.0 (λ (e : at.0 ≡ x.patron).
              let none : hold_of xs at.0 ≡ None = ap (hold_of xs) e ∙ once.0 in
              let some : hold_of xs at.0 ≡ Some at.1 = at.2 in cc) ∙ at.2,
          at.3,
        )

stamp-there : (n : ℕ) (hs : List Hold) (p : ℕ) (g : Hold) → hold_of hs p ≡ Some g → g.stamp ≡ n
    → has_stamp hs n ≡ true
stamp-there n [] p g has same = absurd (let no : ⊥ = cc in no)
stamp-there n (x ∷ xs) p g has same = elim (hold_of-cases x xs p g has) [
  | inl here ↦
      let first : (x.stamp == n) ≡ true = eq-eqb x.stamp n (ap (λ (h : Hold). h.stamp) here.1 ∙ same) in
      rw first refl
  | inr there ↦ or_right (x.stamp == n) (has_stamp xs n) (stamp-there n xs p g there same)
]

pub stamp-told : (n : ℕ) (hs : List Hold) (r : Bool) → HasPatronsOnce hs → r ≡ has_stamp hs n
    → IsTrue r ↔ IsStampOf n (hold_of hs)
stamp-told n hs r once is =
    (λ on. stamp-found n hs once (sym is ∙ on), λ at. is ∙ stamp-there n hs at.0 at.1 at.2 at.3)

-- the list without a patron's hold has those of the others
pub hold_of-without : (hs : List Hold) (p q : ℕ) → hold_of (without hs p) q
    ≡ cond (p == q) None (hold_of hs q)
hold_of-without [] p q = grind (arith, nat_tests, common_steps)
hold_of-without (h ∷ hs) p q = grind (arith, nat_tests, common_steps, hold_of-without hs p q)

pub hold_of-taken : (hs : List Hold) (p : ℕ) → hold_of (without hs p) p ≡ None
hold_of-taken hs p = grind (arith, nat_tests, hold_of-without hs p p)

-- and has a stamp only where another patron's hold has it
pub no_stamp-without : QueuesStayInOrder → (n : ℕ) (hs : List Hold) (p : ℕ) → HasPatronsOnce hs →
    ((q : ℕ) (h : Hold) → hold_of hs q ≡ Some h → h.stamp ≡ n → q ≡ p) → HasNoStamp n (without hs p)
no_stamp-without law n hs p once alone =
    no_stamp n (without hs p) (law.left_once hs p once)
    (λ q h is same. by_test (p == q) q refl h (sym (hold_of-without hs p q) ∙ is) same)
  where
    by_test : (b : Bool) (q : ℕ) → (p == q) ≡ b → (h : Hold) → cond b None (hold_of hs q) ≡ Some h → h.stamp
        ≡ n → ⊥
    by_test true q e h is same = cc
    by_test false q e h is same = let there : (p == q) ≡ true = eq-eqb p q (sym (alone q h is same)) in cc

-- the list in which a patron's hold is another, or none
pub hold_of-with_held : QueuesStayInOrder → (hs : List Hold) (p q : ℕ) (o : Option Hold)
    → ((h : Hold) → o ≡ Some h → h.patron ≡ p) →
    hold_of (with_held hs p o) q ≡ cond (p == q) o (hold_of hs q)
hold_of-with_held law hs p q None own = hold_of-without hs p q
hold_of-with_held law hs p q (Some h) own =
    let own_hold : h.patron ≡ p = own h refl in
    let none : hold_of (without hs p) h.patron ≡ None = ap (hold_of (without hs p)) own_hold
    ∙ hold_of-taken hs p in
    law.put_has (without hs p) h q none ∙ grind (arith, nat_tests, hold_of-without hs p q)

known-without : (k : Facts) (hs : List Hold) (p : ℕ) → AreKnown k hs → AreKnown k (without hs p)
known-without k [] p all = tt
known-without k (h ∷ hs) p all = elim (cases_Bool (h.patron == p)) [
  | inl b ↦ rw b (known-without k hs p all.1)
  | inr b ↦ rw b (all.0, known-without k hs p all.1)
]

known-with_hold : (k : Facts) (hs : List Hold) (x : Hold) → AreKnown k hs → IsKnownHold k x
    → AreKnown k (with_hold hs x)
known-with_hold k [] x all is = (is, tt)
known-with_hold k (h ∷ hs) x all is = elim (cases_Bool (nat_lt h.stamp x.stamp)) [
  | inl b ↦ rw b (all.0, known-with_hold k hs x all.1 is)
  | inr b ↦ rw b (is, (all.0, all.1))
]

pub known-held : (k : Facts) (hs : List Hold) (p : ℕ) → AreKnown k hs → IsKnownHeld k (hold_of hs p)
known-held k [] p all = tt
known-held k (h ∷ hs) p all =
    elim (h.patron == p) as (λ (b : Bool). IsKnownHeld k (cond b (Some h) (hold_of hs p))) [
      | true ↦ all.0
      | false ↦ known-held k hs p all.1
    ]

pub known-patrons : (k : Facts) (hs : List Hold) → AreKnown k hs → AreOfPatrons k.patrons hs
known-patrons k [] all = tt
known-patrons k (h ∷ hs) all = (all.0.patron, known-patrons k hs all.1)

-- a queue in which a patron's hold becomes another, or none
pub queue-with_held : QueuesStayInOrder → (k : Facts) (hs : List Hold) (p : ℕ) (o : Option Hold)
    → IsQueue k hs → IsKnownHeld k o →
    ((h : Hold) → o ≡ Some h → h.patron ≡ p) → ((h : Hold) → o ≡ Some h → HasNoStamp h.stamp (without hs p))
    → IsQueue k (with_held hs p o)
queue-with_held law k hs p None is known own apart = record {
  ordered = law.left_ordered hs p is.ordered;
  once = law.left_once hs p is.once;
  known = known-without k hs p is.known;
}
queue-with_held law k hs p (Some h) is known own apart = record {
  ordered = law.put_ordered (without hs p) h (law.left_ordered hs p is.ordered) (apart h refl);
  once = law.put_once (without hs p) h (law.left_once hs p is.once) (ap (hold_of (without hs p)) (own h refl)
      ∙ hold_of-taken hs p);
  known = known-with_hold k (without hs p) h (known-without k hs p is.known) known;
}
