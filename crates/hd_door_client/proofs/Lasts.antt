-- The last object of a page.
use Rattle.std.proofs.Common.{arith, ◌≡◌, refl, sym, ◌∙◌, ap, ℕ, ◌-◌, suc, List, [], ◌∷◌, ◌++◌, length}
use Rattle.std.proofs.Common.{Option, Some, option_and_then, option_map, slice_get}
use Rattle.serde_json.specs.Data.{Data, Items, item}
use Rattle.serde_json.specs.View.{items_view, view}
use Rattle.serde_json.specs.declared.value.Value.{Value}
use Rattle.hd_door_client.specs.Rows.{all_in, but_last, last_of, next_in, next_told, rows_in, rows_of}

-- it is the one before the end
pub last_is : (rows : List Value)
    → last_of (items_view rows) ≡ option_map view (slice_get rows (length rows - 1))
last_is [] = refl
last_is (row ∷ []) = refl
last_is (row ∷ next ∷ rows) =
    last_is (next ∷ rows)
    ∙ ap (λ (n : ℕ). option_map view (slice_get (row ∷ next ∷ rows) n))
    (let same : suc (length (next ∷ rows) - 1) ≡ length (row ∷ next ∷ rows) - 1 = omega arith in same)

-- and it tells where the next page begins
pub next_by : (rows : List Value) (page : Data) (row : Value) → items_view rows ≡ all_in page
    → Some row ≡ slice_get rows (length rows - 1) → next_told (view row) ≡ next_in page
next_by rows page row all last =
    ap (λ (o : Option Value). option_and_then next_told (option_map view o)) last
    ∙ ap (λ (o : Option Data). option_and_then next_told o) (sym (last_is rows))
    ∙ ap (λ (items : Items). option_and_then next_told (last_of items)) all

-- the others are those before it
but_last_are : (rows : List Value) (last : Value)
    → but_last (items_view (rows ++ last ∷ [])) ≡ items_view rows
but_last_are [] last = refl
but_last_are (row ∷ []) last = refl
but_last_are (row ∷ next ∷ rows) last =
    ap (λ (items : Items). item (view row) items) (but_last_are (next ∷ rows) last)

-- and where there is a next page they are the rows
pub rows_before : (page : Data) (all rows : List Value) (last : Value) (told : ℕ)
    → items_view all ≡ all_in page → Some told ≡ next_in page → all ≡ rows ++ last ∷ [] → items_view rows ≡ rows_in page
rows_before page all rows last told are next split =
    sym (but_last_are rows last)
    ∙ ap (λ (vs : List Value). but_last (items_view vs)) (sym split)
    ∙ ap but_last are
    ∙ ap (λ (o : Option ℕ). rows_of o (all_in page)) next
