-- How the texts of patrons are kept: all one behind the other, with a place for each patron.
use Rattle.std.specs.Prelude.{◌≡◌, ℕ, ◌+◌, ◌≤◌, Bool, is_some, Option, None, Some, List, length, take, drop}
use Rattle.std.specs.Prelude.{option_map, option_and_then, slice_index_or}
use Rattle.hd_rules.specs.Numbers.{PatronNo}
use Rattle.hd_patrons.specs.Texts.{AreProper, PatronTexts}
use Rattle.hd_patrons.specs.declared.table.Place.{Place}

pub record Stored : Type 0 where
  pub texts : List ℕ
  pub places : List (Option Place)

-- so many bytes from a place on
abbrev pub part_at : List ℕ → ℕ → ℕ → List ℕ
part_at texts start count = take count (drop start texts)

-- the texts at a place
abbrev pub texts_at : List ℕ → Place → PatronTexts
texts_at texts place =
    record {
      password = part_at texts place.start place.password;
      language = place.language;
      name = part_at texts (place.start + place.password) place.name;
    }

-- the place of a patron, and past the last one none
abbrev pub place_of : Stored → PatronNo → Option Place
place_of stored p = slice_index_or stored.places p None

-- the texts of a patron, if there are any
abbrev pub texts_of : Stored → PatronNo → Option PatronTexts
texts_of stored p = option_map (texts_at stored.texts) (place_of stored p)

abbrev pub is_told : Stored → PatronNo → Bool
is_told stored p = is_some (texts_of stored p)

abbrev pub password_of : Stored → PatronNo → Option (List ℕ)
password_of stored p = option_map (λ t. t.password) (texts_of stored p)

abbrev pub name_of : Stored → PatronNo → Option (List ℕ)
name_of stored p = option_map (λ t. t.name) (texts_of stored p)

abbrev pub language_of : Stored → PatronNo → Option (List ℕ)
language_of stored p = option_and_then (λ t. t.language) (texts_of stored p)

-- each place lies within the texts
abbrev pub AreWithin : Stored → Type 0
AreWithin stored =
    (p : PatronNo) (place : Place) → place_of stored p ≡ Some place
    → place.start + place.password + place.name ≤ length stored.texts

-- and has such texts as a line may have
abbrev pub AreStored : Stored → Type 0
AreStored stored =
    AreWithin stored
    × ((p : PatronNo) (texts : PatronTexts) → texts_of stored p ≡ Some texts → AreProper texts)
