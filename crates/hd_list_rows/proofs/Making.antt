-- A page in the making: what becomes of it with the rest of a list.
use Rattle.std.proofs.Common.{arith, ◌≡◌, refl, sym, ◌∙◌, ap, ℕ, ◌+◌, ◌-◌, ◌<◌, ◌≤◌, zero, suc}
use Rattle.std.proofs.Common.{length, length-append, append_assoc, append-nil, List, [], ◌∷◌, ◌++◌, take}
use Rattle.std.proofs.Common.{drop}
use Rattle.hd_list_rows.specs.declared.row.Row.{Row}
use Rattle.hd_list_rows.specs.Making.{with_rest}
use Rattle.hd_list_rows.specs.PageValue.{PageValue}

take_nil : (n : ℕ) → (let xs : List Row = [] in take n xs ≡ xs)
take_nil zero = refl
take_nil (suc n) = refl

drop_nil : (n : ℕ) → (let xs : List Row = [] in drop n xs ≡ xs)
drop_nil zero = refl
drop_nil (suc n) = refl

take_one : (n : ℕ) (x : Row) (xs : List Row) → 0 < n → take n (x ∷ xs) ≡ x ∷ take (n - 1) xs
take_one zero x xs some = absurd (let never : ⊥ = omega arith in never)
take_one (suc n) x xs some =
    ap (λ (m : ℕ). x ∷ take m xs) (let same : n ≡ suc n - 1 = omega arith in same)

drop_one : (n : ℕ) (x : Row) (xs : List Row) → 0 < n → drop n (x ∷ xs) ≡ drop (n - 1) xs
drop_one zero x xs some = absurd (let never : ⊥ = omega arith in never)
drop_one (suc n) x xs some = ap (λ (m : ℕ). drop m xs) (let same : n ≡ suc n - 1 = omega arith in same)

drop_none : (n : ℕ) (xs : List Row) → (0 < n → ⊥) → drop n xs ≡ xs
drop_none zero xs none = refl
drop_none (suc n) xs none = absurd (none (omega arith))

-- nothing is left of the list
pub all_taken : (page : PageValue) (others : ℕ) → with_rest page others [] ≡ page
all_taken page others =
    let rest : take (512 - length page.rows) (drop others []) ≡ [] =
    ap (λ (xs : List Row). take (512 - length page.rows) xs) (drop_nil others)
    ∙ take_nil (512 - length page.rows) in
    (λ j. record page { rows = (ap (λ (xs : List Row). page.rows ++ xs) rest ∙ append-nil page.rows) j })

-- a row is passed over
pub passed_over : (page : PageValue) (others : ℕ) (row : Row) (rest : List Row) → 0 < others
    → with_rest page (others - 1) rest ≡ with_rest page others (row ∷ rest)
passed_over page others row rest some =
    let same = sym (drop_one others row rest some) in
    (λ j. record page { rows = page.rows ++ take (512 - length page.rows) (same j) })

-- where the page is full it doesn't matter what is left
pub no_room : (page : PageValue) (others more : ℕ) (xs ys : List Row) → length page.rows ≡ 512
    → with_rest page others xs ≡ with_rest page more ys
no_room page others more xs ys full =
    let none : 512 - length page.rows ≡ 0 = omega arith in
    (λ j. record page { rows = page.rows ++ take (none j) (drop others xs) })
    ∙ (λ j. record page { rows = page.rows ++ take (sym none j) (drop more ys) })

-- a row is put
pub put_behind : (page : PageValue) (others : ℕ) (row : Row) (rest : List Row) → (0 < others → ⊥)
    → length page.rows < 512
    → with_rest (record page { rows = page.rows ++ row ∷ [] }) others rest
    ≡ with_rest page others (row ∷ rest)
put_behind page others row rest none below =
    let longer : length (page.rows ++ row ∷ []) ≡ length page.rows + 1 = length-append page.rows (row ∷ []) in
    let fewer : 512 - length (page.rows ++ row ∷ []) ≡ (512 - length page.rows) - 1 = omega (arith, longer) in
    let one : row ∷ take (512 - length (page.rows ++ row ∷ [])) (drop others rest)
    ≡ take (512 - length page.rows) (drop others (row ∷ rest)) =
    (λ j. row ∷ take (fewer j) (drop_none others rest none j))
    ∙ sym (take_one (512 - length page.rows) row rest (omega (arith, below)))
    ∙ ap (λ (xs : List Row). take (512 - length page.rows) xs) (sym (drop_none others (row ∷ rest) none)) in
    (λ j. record page {
      rows = (append_assoc page.rows (row ∷ [])
          (take (512 - length (page.rows ++ row ∷ [])) (drop others rest))
          ∙ ap (λ (xs : List Row). page.rows ++ xs) one) j;
    })
