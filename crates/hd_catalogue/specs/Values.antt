-- The values of a line that are still to be taken.
use Rattle.std.specs.Prelude.{ℕ, List, [], Option, None, Some}
use Rattle.std.specs.Borrow.{Bor}
use Rattle.hd_catalogue.specs.Text.{values_of}

abbrev pub values_left : Option (Bor (List ℕ)) → List (List ℕ)
values_left None = []
values_left (Some text) = values_of text.now
