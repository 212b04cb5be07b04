-- A list in chunks.
use Rattle.std.specs.Prelude.{◌≡◌, ℕ, ◌+◌, ◌<◌, ◌≤◌, ◌^◌, ◌⊎◌, List, []}
use Rattle.std.specs.Prelude.{get_or, length, take}
use Rattle.hd_blocks.specs.Blocks.{all_items}
use Rattle.hd_chunks.specs.declared.chunk.TheConstants.{CHUNK}
use Rattle.hd_chunks.specs.declared.place.Place.{Place}

-- what a list is to its users: its chunks in order, and for how many more items there is room
pub record ChunkListValue (X : Type 0) : Type 0 where
  pub chunks : List (List X)
  pub room : ℕ

-- its items in order
abbrev pub items_of : {X : Type 0} → ChunkListValue X → List X
items_of list = all_items list.chunks

-- the chunks but the first, and how many more there can be
pub record ChunksValue (X : Type 0) : Type 0 where
  pub chunks : List (List X)
  pub spare : ℕ

-- the chunk isn't empty
abbrev pub has_some : {X : Type 0} → List X → Type 0
has_some chunk = 0 < length chunk

-- the items of a chunk, or none where there is no such chunk
abbrev pub chunk_at : {X : Type 0} → List (List X) → ℕ → List X
chunk_at chunks number = get_or chunks number []

-- how many items stand before a chunk
abbrev pub items_passed : {X : Type 0} → List (List X) → ℕ → ℕ
items_passed chunks number = length (all_items (take number chunks))

-- how many stand before a place
abbrev pub items_before : {X : Type 0} → List (List X) → Place → ℕ
items_before chunks place = items_passed chunks place.chunk + place.offset

-- an item stands at the place
abbrev pub HasItem : {X : Type 0} → List (List X) → Place → Type 0
HasItem chunks place = place.offset < length (chunk_at chunks place.chunk)

-- an item can be put at the place: it is one of a chunk, or behind its last item
pub record IsIn {X : Type 0} (chunks : List (List X)) (place : Place) : Type 0 where
  pub there : place.chunk < length chunks
  pub within : place.offset ≤ length (chunk_at chunks place.chunk)

-- There is room for this many more items: in the first chunk, where there is no other, or a spare chunk for
-- each.
abbrev pub HasRoom : {X : Type 0} → ℕ → ℕ → ChunksValue X → ℕ → Type 0
HasRoom first capacity others room =
    (room ≤ others.spare) ⊎ ((others.chunks ≡ []) × (first + room ≤ CHUNK) × (first + room ≤ capacity))

-- there are this many items, which with the room are a number of 63 bits
pub record IsCounted {X : Type 0} (len room : ℕ) (items : List X) : Type 0 where
  pub counted : len ≡ length items
  pub fits : len + room < 2 ^ 63
