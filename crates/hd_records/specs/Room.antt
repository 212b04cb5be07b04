-- Room in lists, in records.
use Rattle.std.specs.Prelude.{ℕ, ◌-◌, ◌/◌, ◌^◌, min}

-- For the values of how many records, at most four each, there is room in a list of this length and capacity.
-- A place in it has 32 bits.
abbrev pub room_of_four : ℕ → ℕ → ℕ
room_of_four len capacity = (min capacity (2 ^ 32 - 1) - len) / 4
