-- Lists of places by number.
use Rattle.std.specs.Prelude.{ℕ, List, [], slice_index_or}
use Rattle.hd_index.specs.RowValue.{RowValue}

-- no places, and no room
abbrev pub no_row : RowValue
no_row = record { places = []; room = 0 }

-- the list of a number; past the last list, none
abbrev pub row_of : ℕ → List RowValue → RowValue
row_of number rows = slice_index_or rows number no_row

-- the places of a number
abbrev pub places_of : ℕ → List RowValue → List ℕ
places_of number rows = (row_of number rows).places

-- how many more places a number has room for
abbrev pub room_of : ℕ → List RowValue → ℕ
room_of number rows = (row_of number rows).room
