-- The names that a message may give, looked up.
use Rattle.std.specs.Prelude.{ℕ, ◌==◌, ◌<◌, List, Option, None, Some, IfSome, if◌then◌else◌}
use Rattle.std.specs.Option.{option_map}
use Rattle.hd_rules.specs.Facts.{Facts}
use Rattle.hd_catalogue.specs.Contents.{Contents, facts_of, title_number}
use Rattle.hd_exchange.specs.declared.holds.HoldNames.{HoldNames}

-- the number of a name that may be given: none where none is given, and nothing where there is no such name
abbrev pub if_given : (List ℕ → Option ℕ) → Option (List ℕ) → Option (Option ℕ)
if_given number None = Some None
if_given number (Some name) = option_map (λ found. Some found) (number name)

-- a title that is the copy's
abbrev pub if_same : Option ℕ → ℕ → Option ℕ
if_same None of_copy = None
if_same (Some title) of_copy = if title == of_copy then Some title else None

-- the title that AJ names, a copy, or both where they agree
abbrev pub title_asked : Contents → Option (List ℕ) → Option ℕ → Option ℕ
title_asked k None None = None
title_asked k None (Some copy) = Some ((facts_of k).title_of copy)
title_asked k (Some name) None = title_number k name
title_asked k (Some name) (Some copy) = if_same (title_number k name) ((facts_of k).title_of copy)

-- The patron, the title and the copy that a hold message names are of the catalogue.
pub record AreKnownNames (k : Facts) (named : HoldNames) : Type 0 where
  pub patron : named.patron < k.patrons
  pub title : named.title < k.titles
  pub copy : IfSome named.copy (λ copy. copy < k.copies)
