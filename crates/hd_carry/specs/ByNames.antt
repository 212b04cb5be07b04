-- The numbers that the names of one catalogue have in another.
use Rattle.std.specs.Prelude.{ℕ, ◌≡◌, ◌<◌, ◌==◌, Bool, false, Option, None, Some, if◌then◌else◌}
use Rattle.std.specs.Prelude.{option_and_then}
use Rattle.std.specs.Option.{option_map_or}
use Rattle.hd_rules.specs.Numbers.{CopyNo, TitleNo, PatronNo}
use Rattle.hd_rules.specs.Facts.{Facts}
use Rattle.hd_rules.specs.Carry.{Renumbering, IsByNames}
use Rattle.hd_catalogue.specs.Names.{AreDistinct}
use Rattle.hd_catalogue.specs.Contents.{Contents, facts_of, branch_name, title_name, copy_name, patron_name}
use Rattle.hd_catalogue.specs.Contents.{branch_number, title_number, copy_number, patron_number}

-- the same number, where there is one
abbrev pub is_number : Option ℕ → ℕ → Bool
is_number number n = option_map_or (λ m. m == n) number false

-- the new number of a title's name
abbrev pub new_title : Contents → Contents → TitleNo → Option TitleNo
new_title old new t = option_and_then (title_number new) (title_name old t)

-- the new number of a copy, where its title is the same: old and new have the same name
abbrev pub new_copy : Contents → Contents → CopyNo → Option CopyNo
new_copy old new c =
    option_and_then
    (λ x.
    if is_number (new_title old new ((facts_of old).title_of c)) ((facts_of new).title_of x)
    then Some x else None)
    (option_and_then (copy_number new) (copy_name old c))

-- A name has the number that the new catalogue gives it. A copy is the same where its own name and its
-- title's are.
unfoldable pub by_names : Contents → Contents → Renumbering
by_names old new = record {
  branch = λ b. option_and_then (branch_number new) (branch_name old b);
  title = new_title old new;
  copy = new_copy old new;
  patron = λ p. option_and_then (patron_number new) (patron_name old p);
}

-- no name of its kind stands twice
pub record HasDistinctNames (k : Contents) : Type 0 where
  pub branches : AreDistinct k.branches
  pub titles : AreDistinct k.titles
  pub copies : AreDistinct k.copies
  pub patrons : AreDistinct k.patrons

-- numbers of the one catalogue become numbers of the other, each name its own
pub record IsRenumbering (k j : Facts) (r : Renumbering) : Type 0 where
  pub names : IsByNames k j r
  pub known_title : (t u : TitleNo) → r.title t ≡ Some u → t < k.titles
  pub new_title : (t u : TitleNo) → r.title t ≡ Some u → u < j.titles
  pub known_patron : (p q : PatronNo) → r.patron p ≡ Some q → p < k.patrons
