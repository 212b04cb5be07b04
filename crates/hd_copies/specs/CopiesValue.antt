-- What contracts see of the copies.
use Rattle.std.specs.Prelude.{ℕ, List}
use Rattle.hd_rules.specs.declared.copies.CopyState.{CopyState}
use Rattle.hd_catalogue.specs.Contents.{Contents}

-- what the catalogue says, where each copy is, by its number, and for how many places of each branch's hold
-- shelf there is room
pub record CopiesValue : Type 0 where
  pub contents : Contents
  pub states : List CopyState
  pub rooms : List ℕ
