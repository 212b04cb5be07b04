-- Lines one after another.
use Rattle.std.proofs.Common.{◌≡◌, ℕ, ◌+◌, List, [], ◌∷◌, ◌++◌, map, length, Ok, Err, inl, inr, refl, sym, ap}
use Rattle.std.proofs.Common.{◌∙◌, arith}
use Rattle.std.proofs.Common.{append_assoc, length-append}
use Rattle.std.proofs.lemmas.List.{append-nil, length-map, map_push}
use Rattle.hd_rules.specs.declared.rows.OpeningRow.{OpeningRow}
use Rattle.hd_catalogue.specs.Contents.{Contents, OpeningRows}
use Rattle.hd_opening.specs.Files.{IsFirstBad, SayRows, Tells}
use Rattle.hd_opening.specs.Lines.{first_said, row_said}
use Rattle.hd_opening.specs.declared.cause.OpeningCause.{OpeningCause}

-- The first line tells the last number, the lines before those that are left say these rows, and the number
-- is that of the last of them.
pub record HasRead (k : Contents) (digest : List ℕ) (all : List (List ℕ)) (last number : ℕ)
    (rows : List OpeningRow) (left : List (List ℕ)) : Type 0 where
  pub first : List ℕ
  pub before : List (List ℕ)
  pub whole : all ≡ first ∷ before ++ left
  pub heads : first_said digest first ≡ Ok last
  pub earlier : SayRows k last before rows
  pub counted : number ≡ length before + 1

module _ (k : Contents) (digest : List ℕ) (all : List (List ℕ)) where
  pub begun : (first : List ℕ) (left : List (List ℕ)) (last : ℕ) → all ≡ first ∷ left
      → first_said digest first ≡ Ok last → HasRead k digest all last 1 [] left
  begun first left last whole heads = record {
    first = first;
    before = [];
    whole = whole;
    heads = heads;
    earlier = refl;
    counted = omega arith;
  }

  pub first_bad : (first : List ℕ) (left : List (List ℕ)) (cause : OpeningCause) → all ≡ first ∷ left
      → first_said digest first ≡ Err cause → IsFirstBad k digest all (record { line = 1; cause = cause })
  first_bad first left cause whole said = inl (first, left, whole, refl, said)

  pub one_more : (last number : ℕ) (rows : List OpeningRow) (line : List ℕ) (left : List (List ℕ))
      (row : OpeningRow) → HasRead k digest all last number rows (line ∷ left) → row_said k last line ≡ Ok row
      → HasRead k digest all last (number + 1) (rows ++ row ∷ []) left
  one_more last number rows line left row h said = record {
    first = h.first;
    before = h.before ++ line ∷ [];
    whole = h.whole ∙ ap (λ ls. h.first ∷ ls) (sym (append_assoc h.before (line ∷ []) left));
    heads = h.heads;
    earlier =
        map_push (row_said k last) h.before line ∙ ap (λ rs. rs ++ row_said k last line ∷ []) h.earlier
        ∙ ap (λ r. map Ok rows ++ r ∷ []) said ∙ sym (map_push Ok rows row);
    counted = omega (arith, h.counted, length-append h.before (line ∷ []));
  }

  pub done : (last number : ℕ) (rows : List OpeningRow) → HasRead k digest all last number rows []
      → Tells k digest all (record { rows = rows; last = last })
  done last number rows h = record {
    first = h.first;
    more = h.before;
    whole = h.whole ∙ ap (λ ls. h.first ∷ ls) (append-nil h.before);
    last = h.heads;
    rows = h.earlier;
  }

  -- a row for each line after the first
  pub counted : (told : OpeningRows) → Tells k digest all told → length all ≡ length told.rows + 1
  counted told h =
      let same : length h.more ≡ length told.rows =
      sym (length-map h.more (row_said k told.last)) ∙ ap length h.rows ∙ length-map told.rows Ok in
      ap length h.whole ∙ omega (arith, same)
