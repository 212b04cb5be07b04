-- The room of hold shelves.
use Rattle.std.proofs.Common.{◌≡◌, ℕ, ◌<◌, ◌≤◌, ◌==◌, Result, Ok, Err, OnOk, OnErr, List, length, get_or}
use Rattle.std.proofs.Common.{refl, ap, ◌∙◌, inl, inr, arith}
use Rattle.std.specs.Prelude.{max}
use Rattle.std.specs.declared.alloc.AllocError.{AllocError}
use Rattle.std.proofs.Math.ListN.{set, get_or-map}
use Rattle.std.proofs.lemmas.Bool.{cases_Bool, eqb-true, eqb-false}
use Rattle.std.proofs.lemmas.Grind.{get_or-set_at}
use Rattle.std.proofs.lemmas.List.{get_or-set_other, length-map, map-set, set-get_or}
use Rattle.hd_shelf.specs.PlacesValue.{PlacesValue}
use Rattle.hd_copies.specs.IndexesValue.{IndexesValue}
use Rattle.hd_copies.specs.Indexing.{no_shelf, rooms_in}

-- the room of a branch's shelf
pub room-at : (shelves : List PlacesValue) (b : ℕ)
    → get_or (rooms_in shelves) b 0 ≡ (get_or shelves b no_shelf).room
room-at shelves b = get_or-map (λ (s : PlacesValue). s.room) shelves b no_shelf

-- a shelf is written
pub room-set : (shelves : List PlacesValue) (b : ℕ) (s : PlacesValue) → b < length shelves →
    get_or (rooms_in (set shelves b s)) b 0 ≡ s.room
room-set shelves b s l =
    ap (λ (rooms : List ℕ). get_or rooms b 0) (map-set (λ (s : PlacesValue). s.room) shelves b s)
    ∙ get_or-set_at (rooms_in shelves) b b s.room 0 refl
    (rw (length-map shelves (λ (s : PlacesValue). s.room)) l)

-- and the others stay
pub room-more : (shelves : List PlacesValue) (i b : ℕ) (s : PlacesValue)
    → i < length shelves → (get_or shelves i no_shelf).room ≤ s.room
    → get_or (rooms_in shelves) b 0 ≤ get_or (rooms_in (set shelves i s)) b 0
room-more shelves i b s l le = elim (cases_Bool (b == i)) [
  | inl e ↦ (let at : b ≡ i = eqb-true b i e in
      let now : get_or (rooms_in (set shelves i s)) b 0 ≡ s.room =
      ap (λ (x : ℕ). get_or (rooms_in (set shelves i s)) x 0) at ∙ room-set shelves i s l in
      let was : get_or (rooms_in shelves) b 0 ≡ (get_or shelves i no_shelf).room =
      ap (λ (x : ℕ). get_or (rooms_in shelves) x 0) at ∙ room-at shelves i in
      omega arith)
  | inr e ↦ (let same : get_or (rooms_in (set shelves i s)) b 0 ≡ get_or (rooms_in shelves) b 0 =
      ap (λ (rooms : List ℕ). get_or rooms b 0) (map-set (λ (s : PlacesValue). s.room) shelves i s)
      ∙ get_or-set_other (rooms_in shelves) i b s.room 0 (eqb-false b i e) in
      omega arith)
]

-- a shelf made ready has no less room, whether or not there was memory
pub grows : (r : Result (Unit {0}) AllocError) (old new place : ℕ) → OnOk r (new ≡ max old place)
    → OnErr r (new ≡ old) → old ≤ new
grows (Ok x) old new place is same = omega (arith, is)
grows (Err e) old new place is same = omega (arith, same)

-- a shelf that stays as it was
pub shelf-kept : (shelves : List PlacesValue) (i : ℕ) (s t : PlacesValue) → t ≡ get_or shelves i no_shelf
    → s.copies ≡ t.copies → s.room ≡ t.room → set shelves i s ≡ shelves
shelf-kept shelves i s t at copies room =
    let same : s ≡ t = λ j. record { copies = copies j; room = room j } in
    ap (set shelves i) (same ∙ at) ∙ set-get_or shelves i no_shelf

-- and so do the indexes with it
pub indexes-kept : (x : IndexesValue) (i : ℕ) (s t : PlacesValue) → t ≡ get_or x.shelves i no_shelf
    → s.copies ≡ t.copies → s.room ≡ t.room → record x { shelves = set x.shelves i s } ≡ x
indexes-kept x i s t at copies room = λ j. record x { shelves = shelf-kept x.shelves i s t at copies room j }
