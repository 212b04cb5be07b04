-- Headings over columns from which nothing is taken.
use Rattle.std.proofs.Common.{◌≡◌, ℕ, ◌+◌, List, [], ◌∷◌, ◌++◌, ap, ◌∙◌, arith, map, suc, zero}
use Rattle.std.proofs.Common.{None, Some}
use Rattle.std.specs.Prelude.{slice_get, slice_index_or}
use Rattle.std.specs.List.{filter, range_with_len}
use Rattle.std.proofs.lemmas.List.{map-append}
use Rattle.std.proofs.lemmas.List.Elements.{filter-append}
use Rattle.csv.specs.Records.{Row as Record, fields_of}
use Rattle.hd_import.specs.Faults.{headings_of}
use Rattle.hd_import.specs.Rows.{Row}
use Rattle.hd_import.specs.Unused.{is_unused}
use Rattle.hd_import.specs.declared.column.Sheet.{Sheet}

none-some : {A : Type 0} {x : A} → Some x ≡ None → ⊥
none-some e = cc e

some-same : {A : Type 0} {x y : A} → Some x ≡ Some y → x ≡ y
some-same e = cc e

-- one place more
range_more : (a n end : ℕ) → a + n ≡ end → range_with_len a (suc n) ≡ range_with_len a n ++ end ∷ []
range_more a zero end is = let e : a ≡ end = omega (arith, is) in ap (λ k. k ∷ []) e
range_more a (suc n) end is = ap (λ r. a ∷ r) (range_more (a + 1) n end (omega (arith, is)))

-- the headings that aren't used, of so many places
abbrev pub unused_before : Sheet → Row → ℕ → Row
unused_before sheet headings n =
    map (λ place. slice_index_or headings place []) (filter (is_unused sheet headings) (range_with_len 0 n))

-- of one place more
pub unused_more : (sheet : Sheet) (headings : Row) (n : ℕ) → unused_before sheet headings (n + 1)
    ≡ unused_before sheet headings n
    ++ map (λ place. slice_index_or headings place []) (filter (is_unused sheet headings) (n ∷ []))
unused_more sheet headings n =
    let heading : ℕ → List ℕ = (λ place. slice_index_or headings place []) in
    let test = is_unused sheet headings in
    let one : n + 1 ≡ suc n = omega arith in
    ap (λ k. map heading (filter test (range_with_len 0 k))) one
    ∙ ap (λ places. map heading (filter test places)) (range_more 0 n n (omega arith))
    ∙ ap (map heading) (filter-append test (range_with_len 0 n) (n ∷ []))
    ∙ map-append heading (filter test (range_with_len 0 n)) (filter test (n ∷ []))

-- the headings are the first row
pub headings_first : (rows : List Record) (headings : Record) → Some headings ≡ slice_get rows 0
    → fields_of headings ≡ headings_of (map fields_of rows)
headings_first [] headings is = absurd (none-some is)
headings_first (row ∷ rows) headings is = ap fields_of (some-same is)
