-- Catalogues that only grew.
use Rattle.std.specs.Prelude.{◌≡◌, List, ◌++◌}
use Rattle.hd_catalogue.specs.Contents.{Contents}

-- some names more, after those that were there
abbrev pub HasMore : {F : Type 0} → List F → List F → Type 0
HasMore {F} old new = (more : List F) × (new ≡ old ++ more)

-- Each kind of name has those of the old catalogue first, with the same facts.
pub record OnlyGrew (old new : Contents) : Type 0 where
  pub branches : HasMore old.branches new.branches
  pub terminals : HasMore old.terminals new.terminals
  pub patrons : HasMore old.patrons new.patrons
  pub titles : HasMore old.titles new.titles
  pub copies : HasMore old.copies new.copies
