-- The fields of a text of fields are those of which it is the text.
use Rattle.std.proofs.Common.{◌≡◌, ℕ, zero, suc, ◌+◌, ◌≤◌, ◌==◌, ◌||◌, not, cond, min, Bool, true, false}
use Rattle.std.proofs.Common.{Option, None, Some, IfSome, List}
use Rattle.std.proofs.Common.{[], ◌∷◌, ◌++◌, length, take, drop, refl, ap, subst, ◌∙◌, arith, append_assoc}
use Rattle.std.proofs.Common.{if◌then◌else◌}
use Rattle.std.specs.List.{find, list_any, position_or_len}
use Rattle.std.specs.Option.{option_map, option_map_or}
use Rattle.std.specs.Str.{bytes_eq}
use Rattle.hd_field.specs.Fields.{Occurrence, fields_at, has_code, value_end, width_of}
use Rattle.hd_field.specs.declared.occurrences.TheConstants.{BAR}
use Rattle.hd_message.specs.Fields.{field_text}
use Rattle.hd_message.specs.Grammar.{AreWritable, Written, fields_text, has_bar, value_of}
use Rattle.hd_message.specs.Values.{first_value}
use Rattle.hd_lemmas.proofs.Fields.{fields_at-bar, fields_at-field, is_bar, value_end_is}

-- the value of the first field with an identifier, of the bytes that stand at a place
abbrev value_at : List ℕ → ℕ → ℕ → List ℕ → Option (List ℕ)
value_at code skip at bytes =
    option_map (λ (o : Occurrence). o.value) (find (has_code code) (fields_at skip at bytes))

-- which value that is does not hang on the place
field_moved : (code value : List ℕ) (a b at at' skip : ℕ) (bytes : List ℕ) (found : Bool)
    → value_at code skip (at + 1) bytes ≡ value_at code skip (at' + 1) bytes
    → option_map (λ (o : Occurrence). o.value)
    (cond found (Some (record { code = a ∷ b ∷ []; value = value; at = at + 2 }))
    (find (has_code code) (fields_at skip (at + 1) bytes))) ≡ option_map (λ (o : Occurrence). o.value)
    (cond found (Some (record { code = a ∷ b ∷ []; value = value; at = at' + 2 }))
    (find (has_code code) (fields_at skip (at' + 1) bytes)))
field_moved code value a b at at' skip bytes true h = refl
field_moved code value a b at at' skip bytes false h = h

moved : (code : List ℕ) (skip at at' : ℕ) (bytes : List ℕ)
    → value_at code skip at bytes ≡ value_at code skip at' bytes
unfolding fields_at
moved code skip at at' [] = refl
moved code (suc skip) at at' (b ∷ bytes) = moved code skip (at + 1) (at' + 1) bytes
moved code zero at at' (b ∷ []) = refl
moved code zero at at' (b ∷ c ∷ bytes) =
    let end = value_end (b ∷ c ∷ []) bytes in
    elim (b == BAR) as (λ t.
    option_map (λ (o : Occurrence). o.value) (find (has_code code)
    (if t then fields_at 0 (at + 1) (c ∷ bytes) else
    record { code = b ∷ c ∷ []; value = take end bytes; at = at + 2 } ∷ fields_at
    (suc end) (at + 1) (c ∷ bytes)))
    ≡ option_map (λ (o : Occurrence). o.value) (find (has_code code)
    (if t then fields_at 0 (at' + 1) (c ∷ bytes) else
    record { code = b ∷ c ∷ []; value = take end bytes; at = at' + 2 } ∷ fields_at
    (suc end) (at' + 1) (c ∷ bytes)))) [
      | true ↦ moved code 0 (at + 1) (at' + 1) (c ∷ bytes)
      | false ↦ field_moved code (take end bytes) b c at at' (suc end) (c ∷ bytes)
          (bytes_eq (b ∷ c ∷ []) code)
          (moved code (suc end) (at + 1) (at' + 1) (c ∷ bytes))
    ]

-- a value without a bar ends at the bar behind it
bar_behind : (value rest : List ℕ) → has_bar value ≡ false
    → position_or_len is_bar (value ++ BAR ∷ rest) ≡ length value
bar_behind [] rest h = refl
bar_behind (b ∷ value) rest h =
    elim (b == BAR) as (λ t. t || list_any (λ x. x == BAR) value ≡ false →
    cond (not t) (1 + position_or_len is_bar (value ++ BAR ∷ rest)) 0 ≡ suc (length value)) [
      | true ↦ λ bad. absurd (cc)
      | false ↦ λ more. omega (arith, bar_behind value rest more)
    ] h

end_in_width : (w : Option ℕ) (n : ℕ) → IfSome w (λ width. n ≤ width)
    → option_map_or (λ width. min n width) w n ≡ n
end_in_width None n h = refl
end_in_width (Some w) n h = omega arith

take_front : (value rest : List ℕ) → take (length value) (value ++ rest) ≡ value
take_front [] rest = refl
take_front (b ∷ value) rest = ap (λ bs. b ∷ bs) (take_front value rest)

drop_front : (value rest : List ℕ) → drop (length value) (value ++ rest) ≡ rest
drop_front [] rest = refl
drop_front (b ∷ value) rest = drop_front value rest

-- a field that is found by its identifier, or is not
by_test : (code : List ℕ) (o : Occurrence) (os : List Occurrence) (found : Bool) → has_code code o ≡ found →
    option_map (λ (x : Occurrence). x.value) (find (has_code code) (o ∷ os))
    ≡ (if found then Some o.value else option_map (λ (x : Occurrence). x.value) (find (has_code code) os))
by_test code o os true h = rw h refl
by_test code o os false h = rw h refl

-- one field and those behind it
one_field : (code value rest : List ℕ) (a b : ℕ) → (a == BAR) ≡ false
    → has_bar value ≡ false → IfSome (width_of (a ∷ b ∷ [])) (λ width. length value ≤ width)
    → first_value (a ∷ b ∷ (value ++ BAR ∷ rest)) code
    ≡ (if bytes_eq (a ∷ b ∷ []) code then Some value else first_value rest code)
one_field code value rest a b first plain narrow =
    let bytes = value ++ BAR ∷ rest in
    let bar : position_or_len is_bar bytes ≡ length value = bar_behind value rest plain in
    let end : value_end (a ∷ b ∷ []) bytes ≡ length value =
    value_end_is (a ∷ b ∷ []) bytes
    ∙ ap (λ n. option_map_or (λ width. min n width) (width_of (a ∷ b ∷ [])) n) bar
    ∙ end_in_width (width_of (a ∷ b ∷ [])) (length value) narrow in
    let n = length value in
    let split : fields_at 0 0 (a ∷ b ∷ bytes) ≡ record { code = a ∷ b ∷ []; value = take n bytes; at = 0 + 2 }
    ∷ fields_at 0 (0 + 2 + n)
    (drop n bytes) =
    subst (λ e. fields_at 0 0 (a ∷ b ∷ bytes) ≡ record { code = a ∷ b ∷ []; value = take e bytes; at = 0 + 2 }
    ∷ fields_at 0 (0 + 2 + e)
    (drop e bytes)) end (fields_at-field 0 a b bytes first) in
    let behind : fields_at 0 (0 + 2 + n) (drop n bytes) ≡ fields_at 0 (0 + 2 + n + 1) rest =
    ap (λ xs. fields_at 0 (0 + 2 + n) xs) (drop_front value (BAR ∷ rest))
    ∙ fields_at-bar (0 + 2 + n) BAR rest refl in
    let found = bytes_eq (a ∷ b ∷ []) code in
    ap (λ os. option_map (λ (x : Occurrence). x.value) (find (has_code code) os)) split
    ∙ by_test code (record { code = a ∷ b ∷ []; value = take n bytes; at = 0 + 2 })
    (fields_at 0 (0 + 2 + n) (drop n bytes)) found refl
    ∙ ap (λ v. if found then Some v else option_map (λ (x : Occurrence). x.value)
    (find (has_code code) (fields_at 0 (0 + 2 + n) (drop n bytes)))) (take_front value (BAR ∷ rest))
    ∙ ap (λ os. if found then Some value else option_map (λ (x : Occurrence). x.value)
    (find (has_code code) os)) behind
    ∙ ap (λ v. if found then Some value else v) (moved code 0 (0 + 2 + n + 1) 0 rest)

-- the first byte of an identifier is no bar
begins_plain : (a b : ℕ) → has_bar (a ∷ b ∷ []) ≡ false → (a == BAR) ≡ false
begins_plain a b h = elim (a == BAR) as (λ t. t || ((b == BAR) || false) ≡ false → t ≡ false)
    [ true ↦ λ bad. bad | false ↦ λ more. refl ] h

one_written : (code identifier value rest : List ℕ) → length identifier ≡ 2 → has_bar identifier ≡ false
    → has_bar value ≡ false → IfSome (width_of identifier) (λ width. length value ≤ width)
    → first_value (field_text identifier value ++ rest) code
    ≡ (if bytes_eq identifier code then Some value else first_value rest code)
one_written code [] value rest two begins plain narrow = absurd (omega arith)
one_written code (a ∷ []) value rest two begins plain narrow = absurd (omega arith)
one_written code (a ∷ b ∷ []) value rest two begins plain narrow =
    ap (λ xs. first_value (a ∷ b ∷ xs) code) (append_assoc value (BAR ∷ []) rest)
    ∙ one_field code value rest a b (begins_plain a b begins) plain narrow
one_written code (a ∷ b ∷ c ∷ more) value rest two begins plain narrow = absurd (omega arith)

-- the first value with an identifier of a text of fields
pub written_value : (code : List ℕ) (fields : List Written) → AreWritable fields →
    first_value (fields_text fields) code ≡ value_of fields code
unfolding fields_at
written_value code [] h = refl
written_value code (field ∷ fields) h =
    one_written code field.code field.value (fields_text fields) h.0.two h.0.begins h.0.plain h.0.narrow
    ∙ ap (λ v. if bytes_eq field.code code then Some field.value else v) (written_value code fields h.1)
