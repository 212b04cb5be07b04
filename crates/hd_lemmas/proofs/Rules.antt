-- The words of the rules. What the rules' own laws rest on is proved with them, and handed on here.
use Rattle.std.proofs.Common.{◌≡◌, refl, ℕ, ◌==◌, true, false, cond, List, [], ◌∷◌, ◌++◌}
use Rattle.std.proofs.lemmas.Bool.{and_parts, eqb-true}
use Rattle.hd_rules.specs.declared.copies.CopyState.{CopyState}
use Rattle.hd_rules.specs.declared.copies.CopyState.TheVariants.{Shelf, OnLoan, OnHoldShelf, InTransit}
use Rattle.hd_rules.specs.declared.copies.HoldPlace.{HoldPlace}
use Rattle.hd_rules.specs.declared.commands.Survivor.{Survivor}
use Rattle.hd_rules.specs.Facts.{Facts}
use Rattle.hd_rules.specs.Desk.{Desk}
use Rattle.hd_rules.specs.Choose.{stands_at}
use Rattle.hd_rules.specs.Run.{run_from, step}
use Rattle.hd_rules.specs.Sound.{IsFit, Sound}
use Rattle.hd_rules.proofs.Cancelling.{run_from-append}
-- cells, and what one has after a write
pub use Rattle.hd_rules.proofs.Undo.{same_cell_is, same_cell_refl, value_fits, copy_inj, hold_inj}
pub use Rattle.hd_rules.proofs.Undo.{put_same, put_elsewhere, put_alike, after_alike, after_elsewhere}
pub use Rattle.hd_rules.proofs.Leads.{apart_sym}
pub use Rattle.hd_rules.proofs.Puts.{copy_cases}
-- desks that differ by some changes, and go on to do so
pub use Rattle.hd_rules.proofs.Undo.{EachSame, differ_after}
-- sound desks, and those that know what they name
pub use Rattle.hd_rules.proofs.Reach.{later_sound}
pub use Rattle.hd_rules.proofs.FamiliarTurns.{after_known}
-- the numbers of survivors rise, and the next number with them
pub use Rattle.hd_rules.proofs.Splits.{rising_at, rising_after, rising_later, rising_without}
pub use Rattle.hd_rules.proofs.Journals.{rising_more, next_more, next_up}

-- a run of one command more
pub run_from_more : (k : Facts) (d : Desk) (xs : List Survivor) (s : Survivor)
    → run_from k d (xs ++ s ∷ []) ≡ step k (run_from k d xs) s
run_from_more k d xs s = run_from-append k d xs (s ∷ [])

-- a copy that stands at a place stands on a hold shelf
pub held_at : (b p : ℕ) (v : CopyState) → stands_at b p v ≡ true
    → (r : HoldPlace) × (v ≡ OnHoldShelf r) × (r.branch ≡ b) × (r.place ≡ p)
held_at b p (OnHoldShelf r) is =
    (r, refl, eqb-true r.branch b (and_parts _ _ is).0, eqb-true r.place p (and_parts _ _ is).1)
held_at b p (Shelf x) is = absurd (let no : ⊥ = cc in no)
held_at b p (OnLoan l) is = absurd (let no : ⊥ = cc in no)
held_at b p (InTransit t) is = absurd (let no : ⊥ = cc in no)

-- another copy has what it had after a write
pub copy_there : (c x : ℕ) (s v : CopyState) → (c == x) ≡ false → cond (c == x) s v ≡ v
copy_there c x s v apart = rw apart refl

-- a sound desk is fit
pub sound_is_fit : (k : Facts) (n : ℕ) (d : Desk) → Sound k n d → IsFit k d
sound_is_fit k n d sound =
    record { named = sound.holds.named; stamps = sound.holds.apart; places = sound.places }
