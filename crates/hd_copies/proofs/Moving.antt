-- One copy goes, and the others stay where they are.
use Rattle.std.proofs.Common.{◌≡◌, ◌≢◌, ℕ, ◌<◌, ◌==◌, Bool, true, false, cond, Option, None, Some, List}
use Rattle.std.proofs.Common.{length, get_or, refl, ap, sym, ◌∙◌}
use Rattle.std.proofs.Common.{subst, inl, inr, arith, eq-eqb}
use Rattle.std.proofs.Math.ListN.{set, length-set}
use Rattle.std.proofs.lemmas.Bool.{eqb-true, eqb-false, cases_Bool, cases_lt}
use Rattle.std.proofs.lemmas.List.{get_or-set_other}
use Rattle.std.proofs.lemmas.Option.{same_Some, slice_get-get_or, slice_get_past}
use Rattle.std.specs.List.{slice_get}
use Rattle.std.specs.Ordering.{nat_cmp}
use Rattle.std.specs.FinMap.{FinMap, get, insert, remove}
use Rattle.hd_lemmas.proofs.Maps.{get-insert_number, get-remove_number}
use Rattle.hd_rules.specs.declared.copies.CopyState.{CopyState}
use Rattle.hd_rules.specs.declared.copies.CopyState.TheVariants.{Shelf}
use Rattle.hd_rules.specs.Facts.{Facts}
use Rattle.hd_rules.specs.Known.{IsKnownState}
use Rattle.hd_copies.specs.Standing.{AreStates, state_in}
use Rattle.hd_copies.specs.Indexing.{all_but}

-- a copy goes from here to there, and no other copy goes
pub record Moves (copy : ℕ) (before after : ℕ → Option CopyState)
    (here there : Option CopyState) : Type 0 where
  pub was : before copy ≡ here
  pub is : after copy ≡ there
  pub others : (x : ℕ) → x ≢ copy → after x ≡ before x

-- what is the same of both places is the same of all copies
pub alike : {X : Type 0} (of : Option CopyState → X) (c : ℕ) (f g : ℕ → Option CopyState)
    (a b : Option CopyState) → Moves c f g a b → of b ≡ of a → (x : ℕ) → of (g x) ≡ of (f x)
alike of c f g a b moves same x = elim (cases_Bool (x == c)) [
  | inl e ↦ (let at : x ≡ c = eqb-true x c e in
      ap (λ (y : ℕ). of (g y)) at ∙ ap of moves.is ∙ same ∙ sym (ap of moves.was)
      ∙ sym (ap (λ (y : ℕ). of (f y)) at))
  | inr e ↦ ap of (moves.others x (eqb-false x c e))
]

-- a map by copies loses the entry of the one that goes
pub map-out : {X : Type 0} (of : Option CopyState → Option X) (m : FinMap nat_cmp X) (c : ℕ)
    (f g : ℕ → Option CopyState) (a b : Option CopyState) → Moves c f g a b → of b ≡ None
    → ((x : ℕ) → get m x ≡ of (f x)) → (x : ℕ) → get (remove m c) x ≡ of (g x)
map-out {X} of m c f g a b moves none all x = get-remove_number m c x ∙ by_test (x == c) refl
  where
    by_test : (t : Bool) → (x == c) ≡ t → cond t None (get m x) ≡ of (g x)
    by_test true e = sym (ap (λ (y : ℕ). of (g y)) (eqb-true x c e) ∙ ap of moves.is ∙ none)
    by_test false e = all x ∙ ap of (sym (moves.others x (eqb-false x c e)))

-- and gains one for it
pub map-in : {X : Type 0} (of : Option CopyState → Option X) (m : FinMap nat_cmp X) (c : ℕ)
    (f g : ℕ → Option CopyState) (a b : Option CopyState) (v : X) → Moves c f g a b → of b ≡ Some v
    → ((x : ℕ) → get m x ≡ of (f x)) → (x : ℕ) → get (insert m c v) x ≡ of (g x)
map-in {X} of m c f g a b v moves some all x = get-insert_number m c v x ∙ by_test (x == c) refl
  where
    by_test : (t : Bool) → (x == c) ≡ t → cond t (Some v) (get m x) ≡ of (g x)
    by_test true e = sym (ap (λ (y : ℕ). of (g y)) (eqb-true x c e) ∙ ap of moves.is ∙ some)
    by_test false e = all x ∙ ap of (sym (moves.others x (eqb-false x c e)))

-- the entry of a copy of the list
pub found_in : (states : List CopyState) (c : ℕ) → c < length states
    → slice_get states c ≡ Some (state_in states c)
found_in states c l = slice_get-get_or states c (Shelf 0) l

pub but_here : (f : ℕ → Option CopyState) (c : ℕ) → all_but c f c ≡ None
but_here f c = rw (eq-eqb c c refl) refl

pub but_there : (f : ℕ → Option CopyState) (c x : ℕ) → x ≢ c → all_but c f x ≡ f x
but_there f c x other = elim (cases_Bool (c == x)) [
  | inl e ↦ absurd (other (sym (eqb-true c x e)))
  | inr e ↦ rw e refl
]

-- a copy goes away from where it is
pub goes : (f : ℕ → Option CopyState) (c : ℕ) (v : CopyState) → f c ≡ Some v
    → Moves c f (all_but c f) (Some v) None
goes f c v at = record { was = at; is = but_here f c; others = but_there f c }

-- and comes to where it is
pub comes : (f : ℕ → Option CopyState) (c : ℕ) (v : CopyState) → f c ≡ Some v
    → Moves c (all_but c f) f None (Some v)
comes f c v at = record { was = but_here f c; is = at; others = λ x other. sym (but_there f c x other) }

slice_get-set_other : (states : List CopyState) (i x : ℕ) (v : CopyState) → x ≢ i
    → slice_get (set states i v) x ≡ slice_get states x
slice_get-set_other states i x v other = elim (cases_lt x (length states)) [
  | inl below ↦ slice_get-get_or (set states i v) x (Shelf 0) (rw length-set below)
      ∙ ap (λ (s : CopyState). Some s) (get_or-set_other states i x v (Shelf 0) other)
      ∙ sym (slice_get-get_or states x (Shelf 0) below)
  | inr above ↦ slice_get_past (set states i v) x (rw length-set above) ∙ sym (slice_get_past states x above)
]

-- all but the one whose entry is written are where they were
pub but-set : (states : List CopyState) (i c : ℕ) (v : CopyState) → i ≡ c →
    all_but c (slice_get (set states i v)) ≡ all_but c (slice_get states)
but-set states i c v at = λ j. λ x. each x j
  where
    each : (x : ℕ) → all_but c (slice_get (set states i v)) x ≡ all_but c (slice_get states) x
    each x = elim (cases_Bool (c == x)) [
      | inl e ↦ rw e refl
      | inr e ↦ rw e (slice_get-set_other states i x v (λ same. eqb-false c x e (sym at ∙ sym same)))
    ]

-- an entry that was read is where its copy is
pub read_at : (k : Facts) (states : List CopyState) (i c : ℕ) (d v : CopyState) → AreStates k states
    → c < k.copies → i ≡ c → get_or states i d ≡ v → slice_get states c ≡ Some v
read_at k states i c d v are l at is =
    slice_get-get_or states c d (omega (arith, are.copies))
    ∙ ap (λ (s : CopyState). Some s) (ap (λ (j : ℕ). get_or states j d) (sym at) ∙ is)

pub state_at : (k : Facts) (states : List CopyState) (c : ℕ) (v : CopyState) → AreStates k states
    → c < k.copies → slice_get states c ≡ Some v → state_in states c ≡ v
state_at k states c v are l at = same_Some _ v (sym (found_in states c (omega (arith, are.copies))) ∙ at)

-- and names things of the catalogue
pub known_at : (k : Facts) (states : List CopyState) (c : ℕ) (v : CopyState) → AreStates k states
    → c < k.copies → slice_get states c ≡ Some v → IsKnownState k v
known_at k states c v are l at = subst (IsKnownState k) (state_at k states c v are l at) (are.known c l)
