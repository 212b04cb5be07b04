-- What contracts see of a hold shelf.
use Rattle.std.specs.Prelude.{ℕ, refl}
use Rattle.std.specs.Ordering.{nat_cmp}
use Rattle.std.specs.FinMap as map
use Rattle.std.specs.Coded.{Coded, code_by, coded×, coded_ℕ}

-- the copy at each place that is taken; places up to this one have room
pub record PlacesValue : Type 0 where
  pub copies : map.FinMap nat_cmp ℕ
  pub room : ℕ

-- a shelf is stored as the pair of its fields
abbrev pub places_code : Coded PlacesValue
places_code =
    code_by (map.FinMap nat_cmp ℕ × ℕ) (coded× (map.code coded_ℕ coded_ℕ) coded_ℕ) (λ t. (t.copies, t.room))
    (λ p. record { copies = p.0; room = p.1 }) (λ _. refl)
