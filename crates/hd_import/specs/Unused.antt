-- Headings over columns from which nothing is taken.
use Rattle.std.specs.Prelude.{ℕ, Bool, false, [], ◌==◌, ◌&&◌, not, length, map, slice_index_or}
use Rattle.std.specs.List.{filter, list_any, range_with_len}
use Rattle.std.specs.Option.{option_map_or}
use Rattle.hd_import.specs.Columns.{columns_of}
use Rattle.hd_import.specs.Rows.{Row}
use Rattle.hd_import.specs.Values.{place_of}
use Rattle.hd_import.specs.declared.column.Column.{Column}
use Rattle.hd_import.specs.declared.column.Sheet.{Sheet}

-- whether it is from this place that a column is taken
abbrev pub is_place_of : Row → ℕ → Column → Bool
is_place_of headings place column = option_map_or (λ at. at == place) (place_of headings column) false

-- whether something stands above this place, and no column of the sheet is taken from it
abbrev pub is_unused : Sheet → Row → ℕ → Bool
is_unused sheet headings place =
    not (length (slice_index_or headings place []) == 0)
    && not (list_any (is_place_of headings place) (columns_of sheet))

-- the headings of a sheet that aren't used, in their order
abbrev pub unused_of : Sheet → Row → Row
unused_of sheet headings =
    map (λ place. slice_index_or headings place [])
    (filter (is_unused sheet headings) (range_with_len 0 (length headings)))
