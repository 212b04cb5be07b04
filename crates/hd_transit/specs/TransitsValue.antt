-- What contracts see of the copies on their way.
use Rattle.std.specs.Prelude.{◌≡◌, ℕ, ◌<◌, Option, Some, refl}
use Rattle.std.specs.Ordering.{nat_cmp}
use Rattle.std.specs.FinMap as map
use Rattle.std.specs.Coded.{Coded, code_by, coded×, coded_ℕ, coded_option}
use Rattle.hd_rules.specs.declared.copies.Transit.{Transit}
use Rattle.hd_rules.specs.declared.limits.TheConstants.{MOST_COPIES}

-- the transit of each copy that is on its way; copies below this number have room
pub record TransitsValue : Type 0 where
  pub transits : map.FinMap nat_cmp Transit
  pub copies : ℕ

-- a transit is stored as the tuple of its fields
abbrev pub transit_code : Coded Transit
transit_code =
    code_by (ℕ × (ℕ × Option ℕ)) (coded× coded_ℕ (coded× coded_ℕ (coded_option coded_ℕ)))
    (λ t. (t.from, (t.to, t.patron))) (λ p. record { from = p.0; to = p.1.0; patron = p.1.1 }) (λ _. refl)

-- and so are the transits of a desk
abbrev pub transits_code : Coded TransitsValue
transits_code =
    code_by (map.FinMap nat_cmp Transit × ℕ) (coded× (map.code coded_ℕ transit_code) coded_ℕ)
    (λ t. (t.transits, t.copies)) (λ p. record { transits = p.0; copies = p.1 }) (λ _. refl)

-- each transit is of a copy below this number
abbrev pub AreBelow : map.FinMap nat_cmp Transit → ℕ → Type 0
AreBelow transits copies = (copy : ℕ) (transit : Transit) → map.get transits copy ≡ Some transit →
    copy < copies

-- and below the limit of copies
pub record AreCopies (transits : map.FinMap nat_cmp Transit) (copies : ℕ) : Type 0 where
  pub below : AreBelow transits copies
  pub known : AreBelow transits MOST_COPIES
