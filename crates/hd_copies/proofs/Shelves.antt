-- A copy leaves a hold shelf, and comes to one.
use Rattle.std.proofs.Common.{◌≡◌, ℕ, ◌<◌, ◌==◌, ◌&&◌, Bool, true, false, cond, Option, None, Some, List}
use Rattle.std.proofs.Common.{length, refl, ap, sym, ◌∙◌, inl}
use Rattle.std.proofs.Common.{inr, arith, get_or}
use Rattle.std.proofs.Math.ListN.{set, length-set}
use Rattle.std.proofs.lemmas.Bool.{and_parts, eqb-true, eqb-false, cases_Bool}
use Rattle.std.proofs.lemmas.Option.{same_Some}
use Rattle.std.proofs.lemmas.Grind.{get_or-set_at}
use Rattle.std.proofs.lemmas.List.{get_or-set_other}
use Rattle.std.specs.Ordering.{nat_cmp}
use Rattle.std.specs.FinMap.{FinMap, get, insert, remove}
use Rattle.hd_lemmas.proofs.Maps.{get-insert_number, get-remove_number}
use Rattle.hd_rules.specs.declared.copies.HoldPlace.{HoldPlace}
use Rattle.hd_rules.specs.declared.copies.CopyState.{CopyState}
use Rattle.hd_rules.specs.declared.copies.CopyState.TheVariants.{OnHoldShelf}
use Rattle.hd_rules.specs.Facts.{Facts}
use Rattle.hd_shelf.specs.PlacesValue.{PlacesValue}
use Rattle.hd_copies.specs.Indexing.{AreShelves, copy_at, is_placed, no_shelf}
use Rattle.hd_copies.proofs.Moving.{Moves}
use Rattle.hd_lemmas.proofs.Tests.{turned}

-- this place of this branch
abbrev pub is_there : ℕ → ℕ → ℕ → ℕ → Bool
is_there branch place b p = (branch == b) && (place == p)

is_there-same : (branch place b p : ℕ) → is_there branch place b p ≡ true → (branch ≡ b) × (place ≡ p)
is_there-same branch place b p is =
    (eqb-true branch b (and_parts _ _ is).0, eqb-true place p (and_parts _ _ is).1)

-- one shelf is written
copy_at-set : (shelves : List PlacesValue) (i : ℕ) (s : PlacesValue) (b p : ℕ) → i < length shelves →
    copy_at (set shelves i s) b p ≡ cond (i == b) (get s.copies p) (copy_at shelves b p)
copy_at-set shelves i s b p l = elim (cases_Bool (i == b)) [
  | inl e ↦ rw e (ap (λ (x : PlacesValue). get x.copies p)
      (get_or-set_at shelves i b s no_shelf (sym (eqb-true i b e)) l))
  | inr e ↦ rw e (ap (λ (x : PlacesValue). get x.copies p)
      (get_or-set_other shelves i b s no_shelf (λ same. eqb-false i b e (sym same))))
]

-- a place is freed
copy_at-out : (shelves : List PlacesValue) (branch place : ℕ) (s : PlacesValue) (b p : ℕ)
    → branch < length shelves → s.copies ≡ remove (get_or shelves branch no_shelf).copies place
    → copy_at (set shelves branch s) b p ≡ cond (is_there branch place b p) None (copy_at shelves b p)
copy_at-out shelves branch place s b p l out =
    copy_at-set shelves branch s b p l ∙ by_branch (branch == b) refl
  where
    by_branch : (t : Bool) → (branch == b) ≡ t
        → cond t (get s.copies p) (copy_at shelves b p) ≡ cond (t && (place == p)) None (copy_at shelves b p)
    by_branch true e =
        let same : branch ≡ b = eqb-true branch b e in
        ap (λ (m : FinMap nat_cmp ℕ). get m p) out
        ∙ get-remove_number (get_or shelves branch no_shelf).copies place p
        ∙ (λ i. cond (turned p place i) None (copy_at shelves (same i) p))
    by_branch false e = refl

-- a place is taken
copy_at-in : (shelves : List PlacesValue) (branch place c : ℕ) (s : PlacesValue) (b p : ℕ)
    → branch < length shelves → s.copies ≡ insert (get_or shelves branch no_shelf).copies place c
    → copy_at (set shelves branch s) b p ≡ cond (is_there branch place b p) (Some c) (copy_at shelves b p)
copy_at-in shelves branch place c s b p l out =
    copy_at-set shelves branch s b p l ∙ by_branch (branch == b) refl
  where
    by_branch : (t : Bool) → (branch == b) ≡ t → cond t (get s.copies p) (copy_at shelves b p)
        ≡ cond (t && (place == p)) (Some c) (copy_at shelves b p)
    by_branch true e =
        let same : branch ≡ b = eqb-true branch b e in
        ap (λ (m : FinMap nat_cmp ℕ). get m p) out
        ∙ get-insert_number (get_or shelves branch no_shelf).copies place c p
        ∙ (λ i. cond (turned p place i) (Some c) (copy_at shelves (same i) p))
    by_branch false e = refl

-- no copy goes to or from a hold shelf
pub shelves-alike : (k : Facts) (f g : ℕ → Option CopyState) (shelves : List PlacesValue)
    → ((b p x : ℕ) → is_placed b p (g x) ≡ is_placed b p (f x)) → AreShelves k f shelves
    → AreShelves k g shelves
shelves-alike k f g shelves same are = record {
  branches_in = are.branches_in;
  stands = λ b p x at. same b p x ∙ are.stands b p x at;
  found = λ b p x l is. are.found b p x l (sym (same b p x) ∙ is);
}

-- a copy leaves its place
pub shelves-out : (k : Facts) (f g : ℕ → Option CopyState) (c : ℕ)
    (w : HoldPlace) (shelves : List PlacesValue) (s : PlacesValue)
    → Moves c f g (Some (OnHoldShelf w)) None → AreShelves k f shelves → w.branch < k.branches
    → s.copies ≡ remove (get_or shelves w.branch no_shelf).copies w.place
    → AreShelves k g (set shelves w.branch s)
shelves-out k f g c w shelves s moves are known out = record {
  branches_in = length-set shelves w.branch s ∙ are.branches_in;
  stands = λ b p x at. stands b p x (is_there w.branch w.place b p) refl (sym (left b p) ∙ at) (x == c) refl;
  found = λ b p x l is. left b p ∙ found b p x l (is_there w.branch w.place b p) refl (x == c) refl is;
}
  where
    left : (b p : ℕ) → copy_at (set shelves w.branch s) b p
        ≡ cond (is_there w.branch w.place b p) None (copy_at shelves b p)
    left b p = copy_at-out shelves w.branch w.place s b p
        (let l : w.branch < length shelves = omega (arith, are.branches_in) in l) out

    stands : (b p x : ℕ) (t : Bool) → is_there w.branch w.place b p ≡ t
        → cond t None (copy_at shelves b p) ≡ Some x → (u : Bool) → (x == c) ≡ u → is_placed b p (g x) ≡ true
    stands b p x true is none u e = absurd (let no : ⊥ = cc in no)
    stands b p x false is some true e = absurd (
        let placed : is_placed b p (f x) ≡ true = are.stands b p x some in
        let here : is_placed b p (f x) ≡ is_there w.branch w.place b p =
        ap (λ (y : ℕ). is_placed b p (f y)) (eqb-true x c e) ∙ ap (is_placed b p) moves.was in
        let no : true ≡ false = sym placed ∙ here ∙ is in cc)
    stands b p x false is some false e = ap (is_placed b p) (moves.others x (eqb-false x c e))
        ∙ are.stands b p x some

    found : (b p x : ℕ) → b < k.branches → (t : Bool) → is_there w.branch w.place b p ≡ t → (u : Bool)
        → (x == c) ≡ u → is_placed b p (g x) ≡ true → cond t None (copy_at shelves b p) ≡ Some x
    found b p x l t is true e placed = absurd (
        let none : is_placed b p (g x) ≡ false = ap (λ (y : ℕ). is_placed b p (g y)) (eqb-true x c e)
        ∙ ap (is_placed b p) moves.is in
        let no : true ≡ false = sym placed ∙ none in cc)
    found b p x l true is false e placed = absurd (eqb-false x c e (
        let one : copy_at shelves b p ≡ Some x =
        are.found b p x l (sym (ap (is_placed b p) (moves.others x (eqb-false x c e))) ∙ placed) in
        let other : copy_at shelves b p ≡ Some c = are.found b p c l (ap (is_placed b p) moves.was ∙ is) in
        same_Some x c (sym one ∙ other)))
    found b p x l false is false e placed =
        are.found b p x l (sym (ap (is_placed b p) (moves.others x (eqb-false x c e))) ∙ placed)

-- a copy comes to a free place
pub shelves-in : (k : Facts) (f g : ℕ → Option CopyState) (c : ℕ) (w : HoldPlace)
    (shelves : List PlacesValue) (s : PlacesValue) → Moves c f g None (Some (OnHoldShelf w))
    → AreShelves k f shelves → w.branch < k.branches → copy_at shelves w.branch w.place ≡ None
    → s.copies ≡ insert (get_or shelves w.branch no_shelf).copies w.place c
    → AreShelves k g (set shelves w.branch s)
shelves-in k f g c w shelves s moves are known free into = record {
  branches_in = length-set shelves w.branch s ∙ are.branches_in;
  stands = λ b p x at. stands b p x (is_there w.branch w.place b p) refl (sym (entered b p) ∙ at);
  found = λ b p x l is. entered b p ∙ found b p x l (is_there w.branch w.place b p) refl (x == c) refl is;
}
  where
    entered : (b p : ℕ) → copy_at (set shelves w.branch s) b p
        ≡ cond (is_there w.branch w.place b p) (Some c) (copy_at shelves b p)
    entered b p = copy_at-in shelves w.branch w.place c s b p
        (let l : w.branch < length shelves = omega (arith, are.branches_in) in l) into

    here : (b p x : ℕ) → x ≡ c → is_placed b p (g x) ≡ is_there w.branch w.place b p
    here b p x at = ap (λ (y : ℕ). is_placed b p (g y)) at ∙ ap (is_placed b p) moves.is

    old : (b p x : ℕ) → copy_at shelves b p ≡ Some x → (u : Bool) → (x == c) ≡ u → is_placed b p (g x) ≡ true
    old b p x some true e = absurd (
        let none : is_placed b p (f x) ≡ false = ap (λ (y : ℕ). is_placed b p (f y)) (eqb-true x c e)
        ∙ ap (is_placed b p) moves.was in
        let no : true ≡ false = sym (are.stands b p x some) ∙ none in cc)
    old b p x some false e = ap (is_placed b p) (moves.others x (eqb-false x c e)) ∙ are.stands b p x some

    stands : (b p x : ℕ) (t : Bool) → is_there w.branch w.place b p ≡ t
        → cond t (Some c) (copy_at shelves b p) ≡ Some x → is_placed b p (g x) ≡ true
    stands b p x true is some = here b p x (sym (same_Some c x some)) ∙ is
    stands b p x false is some = old b p x some (x == c) refl

    found : (b p x : ℕ) → b < k.branches → (t : Bool) → is_there w.branch w.place b p ≡ t → (u : Bool)
        → (x == c) ≡ u → is_placed b p (g x) ≡ true → cond t (Some c) (copy_at shelves b p) ≡ Some x
    found b p x l true is true e placed = ap (λ (y : ℕ). Some y) (sym (eqb-true x c e))
    found b p x l false is true e placed =
        absurd (let no : true ≡ false = sym placed ∙ here b p x (eqb-true x c e) ∙ is in cc)
    found b p x l true is false e placed = absurd (
        let some : copy_at shelves b p ≡ Some x =
        are.found b p x l (sym (ap (is_placed b p) (moves.others x (eqb-false x c e))) ∙ placed) in
        let same = is_there-same w.branch w.place b p is in
        let none : copy_at shelves b p ≡ None = (λ i. copy_at shelves (sym same.0 i) (sym same.1 i)) ∙ free in
        let no : ⊥ = cc in no)
    found b p x l false is false e placed =
        are.found b p x l (sym (ap (is_placed b p) (moves.others x (eqb-false x c e))) ∙ placed)
