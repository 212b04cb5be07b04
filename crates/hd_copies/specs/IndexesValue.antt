-- What contracts see of the indexes of copies.
use Rattle.std.specs.Prelude.{ℕ, List, refl}
use Rattle.std.specs.Coded.{Coded, code_by, coded×, coded_ℕ, coded_list}
use Rattle.hd_shelf.specs.PlacesValue.{PlacesValue, places_code}
use Rattle.hd_loans.specs.LoansValue.{LoansValue, loans_code}
use Rattle.hd_transit.specs.TransitsValue.{TransitsValue, transits_code}
use Rattle.hd_open_shelf.specs.declared.home.Home.{Home}
use Rattle.hd_open_shelf.specs.StockValue.{StockValue}

-- the loans, the transits, each branch's hold shelf, and the counts of copies on open shelves
pub record IndexesValue : Type 0 where
  pub loans : LoansValue
  pub transits : TransitsValue
  pub shelves : List PlacesValue
  pub stock : StockValue

-- counts are stored as the pair of their lists
abbrev pub home_code : Coded Home
home_code =
    code_by (ℕ × ℕ) (coded× coded_ℕ coded_ℕ) (λ h. (h.title, h.branch))
    (λ p. record { title = p.0; branch = p.1 }) (λ _. refl)

abbrev pub stock_code : Coded StockValue
stock_code =
    code_by (List ℕ × List (Home × ℕ)) (coded× (coded_list coded_ℕ) (coded_list (coded× home_code coded_ℕ)))
    (λ s. (s.titles, s.homes)) (λ p. record { titles = p.0; homes = p.1 }) (λ _. refl)

-- and indexes as the tuple of their fields
abbrev pub indexes_code : Coded IndexesValue
indexes_code =
    code_by (LoansValue × (TransitsValue × (List PlacesValue × StockValue)))
    (coded× loans_code (coded× transits_code (coded× (coded_list places_code) stock_code)))
    (λ x. (x.loans, (x.transits, (x.shelves, x.stock))))
    (λ p. record { loans = p.0; transits = p.1.0; shelves = p.1.1.0; stock = p.1.1.1 }) (λ _. refl)
