-- Catalogues with more names behind the last of each kind, whose new copies arrive behind the rows of the opening.
use Rattle.std.specs.Prelude.{◌≡◌, ℕ, ◌-◌, List, ◌++◌, fold, length}
use Rattle.hd_rules.specs.Growth.{Grows, arrivals}
use Rattle.hd_catalogue.specs.Contents.{Contents, IsCatalogue, facts_of}
use Rattle.hd_catalogue.specs.Lines.{with_line}

-- the second list is the first one and more
abbrev pub IsBegunBy : {F : Type 0} → List (List ℕ × F) → List (List ℕ × F) → Type 0
IsBegunBy {F} xs zs = (ys : List (List ℕ × F)) × (zs ≡ xs ++ ys)

-- The second says all that the first says, word for word, and more names behind.
pub record HasMoreNames (k j : Contents) : Type 0 where
  pub settings : j.settings ≡ k.settings
  pub institution : j.institution ≡ k.institution
  pub branches : IsBegunBy k.branches j.branches
  pub terminals : IsBegunBy k.terminals j.terminals
  pub patrons : IsBegunBy k.patrons j.patrons
  pub titles : IsBegunBy k.titles j.titles
  pub copies : IsBegunBy k.copies j.copies

-- and each new copy arrives at its home, behind the rows of the first one's opening
pub record Extends (k j : Contents) : Type 0 where
  pub names : HasMoreNames k j
  pub last : j.opening.last ≡ k.opening.last
  pub rows : j.opening.rows
      ≡ k.opening.rows ++ arrivals (facts_of j).home (length k.copies) (length j.copies - length k.copies)

-- Catalogues with more names.
pub record AnExtendedCatalogueGrows : Type 0 where
  -- more lines add names behind those that are there, and change nothing else
  pub names : (k : Contents) (lines : List (List ℕ)) → HasMoreNames k (fold with_line k lines)
  -- with the arrivals of the new copies behind the rows, it is a catalogue that has grown
  pub grows : (k j : Contents) → IsCatalogue k → IsCatalogue j → Extends k j → Grows (facts_of k) (facts_of j)
