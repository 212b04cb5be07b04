-- The least free place of a hold shelf is the desk's.
use Rattle.std.proofs.Common.{◌≡◌, ◌∙◌, refl, sym, ℕ, ◌<◌, ◌≤◌, Bool, true, false, None, Some}
use Rattle.std.specs.Ordering.{nat_cmp}
use Rattle.std.specs.FinMap.{FinMap, get}
use Rattle.hd_rules.specs.Facts.{Facts}
use Rattle.hd_rules.specs.Desk.{Desk}
use Rattle.hd_rules.specs.Find.{place}
use Rattle.hd_rules.specs.Choose.{stands_at}
use Rattle.hd_rules.specs.Laws.{PlaceIsTheLeastFree}
use Rattle.hd_shelf.specs.Shelf.{LeastFree}
use Rattle.hd_allocate.specs.Settling.{IsShelfOf}
use Rattle.hd_lemmas.proofs.Options.{some_number}

pub least_is_place : PlaceIsTheLeastFree → (k : Facts) (d : Desk) (b f : ℕ) (copies : FinMap nat_cmp ℕ)
    → IsShelfOf k d b copies
    → LeastFree copies f → place k d b ≡ f
least_is_place law k d b f copies shelf is =
    sym ((law k d b f).0 (record { from_one = is.from_one; free = free; least = least }))
  where
    free : (c : ℕ) → c < k.copies → stands_at b f (d.copy c) ≡ false
    free c below = by_test (stands_at b f (d.copy c)) refl
      where
        by_test : (t : Bool) → stands_at b f (d.copy c) ≡ t → t ≡ false
        by_test true stands = absurd (
            let some : get copies f ≡ Some c = (shelf f c).1 (below, stands) in
            let no : None ≡ Some c = sym is.free ∙ some in let never : ⊥ = cc in never)
        by_test false stands = refl

    least : (g : ℕ) → 1 ≤ g → g < f → (c : ℕ) × (c < k.copies) × (stands_at b g (d.copy c) ≡ true)
    least g from below =
        let taken = some_number (get copies g) (is.least g from below) in
        let there = (shelf g taken.0).0 taken.1 in
        (taken.0, there.0, there.1)
