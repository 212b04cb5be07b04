-- Lemmas on lists in chunks.
use Rattle.std.proofs.Common.{◌≡◌, ℕ, zero, suc, ◌+◌, ◌-◌, ◌<◌, ◌≤◌, List, [], ◌∷◌, ◌++◌, refl, ap, sym, ◌∙◌}
use Rattle.std.proofs.Common.{arith}
use Rattle.std.proofs.Common.{append_assoc, drop, get_or, length, length-append, set, slice_get, take}
use Rattle.std.proofs.Common.{zero-add}
use Rattle.std.specs.List.{All, insert, remove}
use Rattle.std.proofs.lemmas.List.{append-nil}
use Rattle.std.proofs.lemmas.List.Edits.{insert-append_left, insert-append_right, insert_end}
use Rattle.std.proofs.lemmas.List.Edits.{remove-append_left, remove-append_right}
use Rattle.std.proofs.lemmas.List.Elements.{All-append, All-cons, All-drop, All-take}
use Rattle.hd_blocks.specs.Blocks.{all_items}
use Rattle.hd_chunks.specs.Chunks.{IsIn, chunk_at, has_some, items_before, items_passed}
use Rattle.hd_chunks.specs.declared.place.Place.{Place}

-- the chunk of a number

-- as it is read, with any default
pub chunk_is : {X : Type 0} (chunks : List (List X)) (number : ℕ) (chunk : List X) → number < length chunks
    → chunk ≡ get_or chunks number chunk → chunk ≡ chunk_at chunks number
chunk_is [] number chunk there is = absurd (omega arith)
chunk_is (first ∷ chunks) zero chunk there is = is
chunk_is (first ∷ chunks) (suc number) chunk there is = chunk_is chunks number chunk (omega arith) is

-- there is one where it has an item
pub chunk_there : {X : Type 0} (chunks : List (List X)) (number offset : ℕ)
    → offset < length (chunk_at chunks number)
    → number < length chunks
chunk_there [] zero offset has = absurd (omega arith)
chunk_there [] (suc number) offset has = absurd (omega arith)
chunk_there (chunk ∷ chunks) zero offset has = omega arith
chunk_there (chunk ∷ chunks) (suc number) offset has = omega (arith, chunk_there chunks number offset has)

-- the items before it, one chunk further
passed_more : {X : Type 0} (chunk : List X) (chunks : List (List X)) (number offset : ℕ)
    → (items_passed (chunk ∷ chunks) (suc number) + offset) - length chunk
    ≡ items_passed chunks number + offset
passed_more chunk chunks number offset = omega (arith, length-append chunk (all_items (take number chunks)))

passed_behind : {X : Type 0} (chunk : List X) (chunks : List (List X)) (number offset : ℕ)
    → length chunk ≤ items_passed (chunk ∷ chunks) (suc number) + offset
passed_behind chunk chunks number offset = omega (arith, length-append chunk (all_items (take number chunks)))

-- those of a first chunk, and of others
pub passed_first : {X : Type 0} (first : List X) (others : List (List X)) (number : ℕ) → 0 < number
    → items_passed (first ∷ others) number ≡ length first + items_passed others (number - 1)
passed_first first others zero some = absurd (omega arith)
passed_first first others (suc number) some =
    let less : suc number - 1 ≡ number = omega arith in
    length-append first (all_items (take number others))
    ∙ ap (λ n. length first + items_passed others n) (sym less)

-- an item that is put

insert_behind : {X : Type 0} (chunk : List X) (chunks : List (List X)) (number offset : ℕ) (x : X)
    → chunk ++ insert (all_items chunks) (items_passed chunks number + offset) x
    ≡ insert (chunk ++ all_items chunks) (items_passed (chunk ∷ chunks) (suc number) + offset) x
insert_behind chunk chunks number offset x =
    let at = items_passed (chunk ∷ chunks) (suc number) + offset in
    ap (λ n. chunk ++ insert (all_items chunks) n x) (sym (passed_more chunk chunks number offset))
    ∙ sym (insert-append_right chunk (all_items chunks) (length chunk) at x refl
    (passed_behind chunk chunks number offset))

-- behind a first chunk
pub put_in_others : {X : Type 0} (first : List X) (others : List (List X)) (number offset : ℕ) (x : X)
    → 0 < number
    → first ++ insert (all_items others) (items_passed others (number - 1) + offset) x
    ≡ insert (first ++ all_items others) (items_passed (first ∷ others) number + offset) x
put_in_others first others zero offset x some = absurd (omega arith)
put_in_others first others (suc number) offset x some =
    let less : suc number - 1 ≡ number = omega arith in
    ap (λ n. first ++ insert (all_items others) (items_passed others n + offset) x) less
    ∙ insert_behind first others number offset x

-- into a chunk
pub inserted_in : {X : Type 0} (chunks : List (List X)) (number offset : ℕ) (x : X) → number < length chunks
    → offset ≤ length (chunk_at chunks number)
    → all_items (set chunks number (insert (chunk_at chunks number) offset x))
    ≡ insert (all_items chunks) (items_passed chunks number + offset) x
inserted_in [] number offset x there within = absurd (omega arith)
inserted_in (chunk ∷ chunks) zero offset x there within =
    let same : 0 + offset ≡ offset = omega arith in
    rw same (sym (insert-append_left chunk (all_items chunks) offset x within))
inserted_in (chunk ∷ chunks) (suc number) offset x there within =
    ap (λ xs. chunk ++ xs) (inserted_in chunks number offset x (omega arith) within)
    ∙ insert_behind chunk chunks number offset x

-- as a chunk before another
pub inserted_before : {X : Type 0} (chunks : List (List X)) (number : ℕ) (x : X) → number ≤ length chunks
    → all_items (insert chunks number (x ∷ [])) ≡ insert (all_items chunks) (items_passed chunks number) x
inserted_before chunks zero x within = refl
inserted_before [] (suc number) x within = absurd (omega arith)
inserted_before (chunk ∷ chunks) (suc number) x within =
    let none : items_passed chunks number ≡ items_passed chunks number + 0 = omega arith in
    let all : items_passed (chunk ∷ chunks) (suc number) + 0 ≡ items_passed (chunk ∷ chunks) (suc number) =
    omega arith in
    ap (λ xs. chunk ++ xs) (inserted_before chunks number x (omega arith))
    ∙ ap (λ n. chunk ++ insert (all_items chunks) n x) none
    ∙ insert_behind chunk chunks number 0 x
    ∙ ap (λ n. insert (chunk ++ all_items chunks) n x) all

-- for the last item of a chunk, which is put before the next one
pub made_way : {X : Type 0} (chunks : List (List X)) (number offset : ℕ) (chunk : List X) (x last : X)
    → number < length chunks → chunk ++ last ∷ [] ≡ insert (chunk_at chunks number) offset x
    → insert (all_items (set chunks number chunk)) (items_passed (set chunks number chunk) (suc number)) last
    ≡ all_items (set chunks number (insert (chunk_at chunks number) offset x))
made_way [] number offset chunk x last there is = absurd (omega arith)
made_way (first ∷ chunks) zero offset chunk x last there is =
    let end : length (chunk ++ []) ≡ length chunk = ap length (append-nil chunk) in
    ap (λ n. insert (chunk ++ all_items chunks) n last) end
    ∙ insert-append_left chunk (all_items chunks) (length chunk) last (omega arith)
    ∙ ap (λ xs. xs ++ all_items chunks) (insert_end chunk last ∙ is)
made_way (first ∷ chunks) (suc number) offset chunk x last there is =
    let others = set chunks number chunk in
    let none : items_passed others (suc number) + 0 ≡ items_passed others (suc number) = omega arith in
    let all : items_passed (first ∷ others) (suc (suc number))
    ≡ items_passed (first ∷ others) (suc (suc number)) + 0 = omega arith in
    ap (λ n. insert (first ++ all_items others) n last) all
    ∙ sym (insert_behind first others (suc number) 0 last)
    ∙ ap (λ n. first ++ insert (all_items others) n last) none
    ∙ ap (λ xs. first ++ xs) (made_way chunks number offset chunk x last (omega arith) is)

-- an item that is taken

remove_behind : {X : Type 0} (chunk : List X) (chunks : List (List X)) (number offset : ℕ)
    → chunk ++ remove (all_items chunks) (items_passed chunks number + offset)
    ≡ remove (chunk ++ all_items chunks) (items_passed (chunk ∷ chunks) (suc number) + offset)
remove_behind chunk chunks number offset =
    let at = items_passed (chunk ∷ chunks) (suc number) + offset in
    ap (λ n. chunk ++ remove (all_items chunks) n) (sym (passed_more chunk chunks number offset))
    ∙ sym (remove-append_right chunk (all_items chunks) (length chunk) at refl
    (passed_behind chunk chunks number offset))

-- behind a first chunk
pub taken_from_others : {X : Type 0} (first : List X) (others : List (List X)) (number offset : ℕ)
    → 0 < number
    → first ++ remove (all_items others) (items_passed others (number - 1) + offset)
    ≡ remove (first ++ all_items others) (items_passed (first ∷ others) number + offset)
taken_from_others first others zero offset some = absurd (omega arith)
taken_from_others first others (suc number) offset some =
    let less : suc number - 1 ≡ number = omega arith in
    ap (λ n. first ++ remove (all_items others) (items_passed others n + offset)) less
    ∙ remove_behind first others number offset

-- out of a chunk
pub removed_from : {X : Type 0} (chunks : List (List X)) (number offset : ℕ)
    → offset < length (chunk_at chunks number)
    → all_items (set chunks number (remove (chunk_at chunks number) offset))
    ≡ remove (all_items chunks) (items_passed chunks number + offset)
removed_from [] zero offset within = absurd (omega arith)
removed_from [] (suc number) offset within = absurd (omega arith)
removed_from (chunk ∷ chunks) zero offset within =
    let same : 0 + offset ≡ offset = omega arith in
    rw same (sym (remove-append_left chunk (all_items chunks) offset within))
removed_from (chunk ∷ chunks) (suc number) offset within =
    ap (λ xs. chunk ++ xs) (removed_from chunks number offset within)
    ∙ remove_behind chunk chunks number offset

-- a chunk without items is as none
dropped : {X : Type 0} (chunks : List (List X)) (number : ℕ) (chunk : List X) → number < length chunks
    → length chunk ≡ 0
    → all_items (remove chunks number) ≡ all_items (set chunks number chunk)
dropped [] number chunk there none = absurd (omega arith)
dropped (first ∷ chunks) zero [] there none = refl
dropped (first ∷ chunks) zero (x ∷ chunk) there none = absurd (omega arith)
dropped (first ∷ chunks) (suc number) chunk there none =
    ap (λ xs. first ++ xs) (dropped chunks number chunk (omega arith) none)

emptied : {X : Type 0} (chunk : List X) (offset : ℕ) → offset < length chunk → length chunk ≡ 1
    → length (remove chunk offset) ≡ 0
emptied [] offset within one = absurd (omega arith)
emptied (x ∷ []) zero within one = refl
emptied (x ∷ []) (suc offset) within one = absurd (omega arith)
emptied (x ∷ y ∷ chunk) offset within one = absurd (omega arith)

-- the last one of its chunk, with the chunk
pub removed_with : {X : Type 0} (chunks : List (List X)) (number offset : ℕ)
    → offset < length (chunk_at chunks number)
    → length (chunk_at chunks number) ≡ 1
    → all_items (remove chunks number) ≡ remove (all_items chunks) (items_passed chunks number + offset)
removed_with chunks number offset within one =
    dropped chunks number (remove (chunk_at chunks number) offset) (chunk_there chunks number offset within)
    (emptied (chunk_at chunks number) offset within one)
    ∙ removed_from chunks number offset within

-- a chunk joined with the next
pub joined_next : {X : Type 0} (chunks : List (List X)) (number : ℕ) → suc number < length chunks
    → all_items (set (remove chunks (suc number)) number
    (chunk_at chunks number ++ chunk_at chunks (suc number))) ≡ all_items chunks
joined_next [] number there = absurd (omega arith)
joined_next (chunk ∷ []) number there = absurd (omega arith)
joined_next (chunk ∷ next ∷ chunks) zero there = append_assoc chunk next (all_items chunks)
joined_next (chunk ∷ next ∷ chunks) (suc number) there =
    ap (λ xs. chunk ++ xs) (joined_next (next ∷ chunks) number (omega arith))

-- counting over the chunks

passed_next : {X : Type 0} (chunks : List (List X)) (number : ℕ) (d : List X) → number < length chunks
    → items_passed chunks (suc number) ≡ items_passed chunks number + length (get_or chunks number d)
passed_next [] number d there = absurd (omega arith)
passed_next (chunk ∷ chunks) zero d there = omega (arith, ap length (append-nil chunk))
passed_next (chunk ∷ chunks) (suc number) d there =
    omega (
      arith,
      length-append chunk (all_items (take number chunks)),
      length-append chunk (all_items (take (suc number) chunks)),
      passed_next chunks number d (omega arith),
    )

pub passed_one_more : {X : Type 0} (chunks : List (List X)) (number : ℕ) (d : List X) → number < length chunks
    → items_passed chunks (number + 1) ≡ items_passed chunks number + length (get_or chunks number d)
passed_one_more chunks number d there =
    let next : number + 1 ≡ suc number = omega arith in
    ap (items_passed chunks) next ∙ passed_next chunks number d there

-- the items before the end of a chunk are no more than all
pub passed_within : {X : Type 0} (chunks : List (List X)) (number : ℕ) (d : List X) → number < length chunks
    → items_passed chunks number + length (get_or chunks number d) ≤ length (all_items chunks)
passed_within [] number d there = absurd (omega arith)
passed_within (chunk ∷ chunks) zero d there = omega (arith, length-append chunk (all_items chunks))
passed_within (chunk ∷ chunks) (suc number) d there =
    omega (
      arith,
      length-append chunk (all_items (take number chunks)),
      length-append chunk (all_items chunks),
      passed_within chunks number d (omega arith),
    )

-- where a place has an item there are some
pub item_counted : {X : Type 0} (chunks : List (List X)) (number offset : ℕ)
    → offset < length (chunk_at chunks number)
    → items_passed chunks number + offset < length (all_items chunks)
item_counted chunks number offset has =
    omega (arith, has, passed_within chunks number [] (chunk_there chunks number offset has))

-- and no place is behind all items
pub place_counted : {X : Type 0} (chunks : List (List X)) (place : Place) → IsIn chunks place
    → items_before chunks place ≤ length (all_items chunks)
place_counted chunks place is =
    omega (arith, is.within, passed_within chunks place.chunk [] is.there)

-- the item of a place

slice_get-left : {X : Type 0} (xs ys : List X) (at : ℕ) → at < length xs → slice_get (xs ++ ys) at
    ≡ slice_get xs at
slice_get-left [] ys at within = absurd (omega arith)
slice_get-left (x ∷ xs) ys zero within = refl
slice_get-left (x ∷ xs) ys (suc at) within = slice_get-left xs ys at (omega arith)

slice_get-right : {X : Type 0} (xs ys : List X) (at further : ℕ) → further ≡ length xs + at
    → slice_get (xs ++ ys) further ≡ slice_get ys at
slice_get-right [] ys at further is = ap (slice_get ys) (is ∙ zero-add at)
slice_get-right (x ∷ xs) ys at zero is = absurd (omega arith)
slice_get-right (x ∷ xs) ys at (suc further) is = slice_get-right xs ys at further (omega arith)

pub found_in : {X : Type 0} (chunks : List (List X)) (number offset : ℕ)
    → offset < length (chunk_at chunks number)
    → slice_get (chunk_at chunks number) offset
    ≡ slice_get (all_items chunks) (items_passed chunks number + offset)
found_in [] zero offset within = absurd (omega arith)
found_in [] (suc number) offset within = absurd (omega arith)
found_in (chunk ∷ chunks) zero offset within =
    let same : offset ≡ 0 + offset = omega arith in
    sym (slice_get-left chunk (all_items chunks) offset within)
    ∙ ap (slice_get (chunk ++ all_items chunks)) same
found_in (chunk ∷ chunks) (suc number) offset within =
    found_in chunks number offset within
    ∙ sym (slice_get-right chunk (all_items chunks) (items_passed chunks number + offset)
    (items_passed (chunk ∷ chunks) (suc number) + offset)
    (omega (arith, length-append chunk (all_items (take number chunks)))))

-- no chunk is empty

pub some_inserted : {X : Type 0} (chunks : List (List X)) (number : ℕ) (chunk : List X) → All has_some chunks
    → has_some chunk → All has_some (insert chunks number chunk)
some_inserted chunks number chunk are is =
    All-append has_some (take number chunks) (chunk ∷ drop number chunks)
    (All-take has_some number chunks are)
    (All-cons has_some chunk (drop number chunks) is (All-drop has_some number chunks are))

pub some_removed : {X : Type 0} (chunks : List (List X)) (number : ℕ) → All has_some chunks
    → All has_some (remove chunks number)
some_removed chunks number are =
    All-append has_some (take number chunks) (drop (suc number) chunks) (All-take has_some number chunks are)
    (All-drop has_some (suc number) chunks are)
