-- Rows one after another.
use Rattle.std.proofs.Common.{◌≡◌, refl, ℕ, zero, suc, List, [], ◌∷◌, ◌++◌, All, arith}
use Rattle.hd_rules.specs.declared.rows.OpeningRow.{OpeningRow}
use Rattle.hd_rules.specs.declared.rows.OpeningRow.TheVariants as row
use Rattle.hd_rules.specs.Facts.{Facts}
use Rattle.hd_rules.specs.Desk.{Desk}
use Rattle.hd_rules.specs.Known.{IsKnownRow}
use Rattle.hd_rules.specs.Rows.{with_row, with_rows, EachMayStand, MayStand, IsInBounds}

abbrev pub rows_from : Facts → Desk → List OpeningRow → Desk
rows_from j e rows = with_rows j.title_of e rows

abbrev pub row_from : Facts → Desk → OpeningRow → Desk
row_from j e row = with_row j.title_of e row

pub rows_append : (j : Facts) (e : Desk) (a b : List OpeningRow) → rows_from j e (a ++ b)
    ≡ rows_from j (rows_from j e a) b
rows_append j e [] b = refl
rows_append j e (w ∷ a) b = rows_append j (row_from j e w) a b

pub each_append : (j : Facts) (n : ℕ) (e : Desk) (a b : List OpeningRow) → EachMayStand j n e a
    → EachMayStand j n (rows_from j e a) b
    → EachMayStand j n e (a ++ b)
each_append j n e [] b one two = two
each_append j n e (w ∷ a) b one two = (one.0, each_append j n (row_from j e w) a b one.1 two)

-- each names things of the catalogue
abbrev pub AreKnown : Facts → List OpeningRow → Type 0
AreKnown j [] = Unit {0}
AreKnown j (w ∷ rows) = IsKnownRow j w × AreKnown j rows

pub known_append : (j : Facts) (a b : List OpeningRow) → AreKnown j a → AreKnown j b → AreKnown j (a ++ b)
known_append j [] b one two = two
known_append j (w ∷ a) b one two = (one.0, known_append j a b one.1 two)

pub known_all : (j : Facts) (rows : List OpeningRow) → AreKnown j rows → All (IsKnownRow j) rows
known_all j [] known i none l = absurd (omega (arith, l))
known_all j (w ∷ rows) known zero none l = known.0
known_all j (w ∷ rows) known (suc i) none l = known_all j rows known.1 i none (omega (arith, l))

row_in_bounds : (j : Facts) (n : ℕ) (e : Desk) (w : OpeningRow) → MayStand j e n w → IsInBounds n w
row_in_bounds j n e (row.Hold t h) may = (may.stamp, may.none)
row_in_bounds j n e (row.HoldShelf c p place) may = may.from_one
row_in_bounds j n e (row.Loan c l) may = tt
row_in_bounds j n e (row.OpenShelf c b) may = tt
row_in_bounds j n e (row.HoldTransit c p from) may = tt
row_in_bounds j n e (row.Transit c from to) may = tt

-- rows that may stand keep to the bounds of their numbers
pub in_bounds : (j : Facts) (n : ℕ) (e : Desk) (rows : List OpeningRow) → EachMayStand j n e rows
    → All (IsInBounds n) rows
in_bounds j n e [] may i none l = absurd (omega (arith, l))
in_bounds j n e (w ∷ rows) may zero none l = row_in_bounds j n e w may.0
in_bounds j n e (w ∷ rows) may (suc i) none l =
    in_bounds j n (row_from j e w) rows may.1 i none (omega (arith, l))
