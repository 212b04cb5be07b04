-- Lines that join, and the text that has them.
use Rattle.std.proofs.Common.{◌≡◌, refl, sym, ap, subst, ◌∙◌, ℕ, suc, ◌-◌, ◌<◌, Bool, true, false, cond, List, []}
use Rattle.std.proofs.Common.{◌∷◌, ◌++◌, ◌≢◌, length, map, take, arith, append-nil, slice_index, if◌then◌else◌}
use Rattle.std.specs.Prelude.{◌==◌}
use Rattle.std.proofs.lemmas.Bool.Decides.{nat_tests}
use Rattle.hd_lemmas.proofs.Lists.{head_same, tail_same}
use Rattle.std.specs.List.{onto_first, slice_split}
use Rattle.std.specs.Str.Lines.{lines, lines_of_parts, strip_carriage_return}
use Rattle.std.proofs.lemmas.List.Splits.{length-slice_split}
use Rattle.hd_catalogue.specs.Files.{lines_of}
use Rattle.hd_joining.specs.Joining.{IsEnded, last_byte}

nil_cons : {A : Type 0} {x : A} {xs : List A} → [] ≡ x ∷ xs → ⊥
nil_cons e = cc

-- what goes onto the first of some parts goes onto the first of them and more
onto_append : (x : ℕ) (a b : List (List ℕ)) → 0 < length a → onto_first x (a ++ b) ≡ onto_first x a ++ b
onto_append x [] b some = absurd (omega arith)
onto_append x (p ∷ a) b some = refl

either_append : (test : Bool) (x : ℕ) (a b : List (List ℕ)) → 0 < length a
    → cond test ([] ∷ (a ++ b)) (onto_first x (a ++ b)) ≡ cond test ([] ∷ a) (onto_first x a) ++ b
either_append true x a b some = refl
either_append false x a b some = onto_append x a b some

-- a text is cut at an end of a line into the parts before it and those behind it
split_append : (xs ys : List ℕ) → slice_split (λ b. b == 10) (xs ++ 10 ∷ ys)
    ≡ slice_split (λ b. b == 10) xs ++ slice_split (λ b. b == 10) ys
split_append [] ys = refl
split_append (x ∷ xs) ys =
    ap (λ parts. cond (x == 10) ([] ∷ parts) (onto_first x parts)) (split_append xs ys)
    ∙ either_append (x == 10) x (slice_split (λ b. b == 10) xs) (slice_split (λ b. b == 10) ys)
    (omega (arith, length-slice_split (λ b. b == 10) xs))

parts_cons : (x : List ℕ) (parts : List (List ℕ)) → 0 < length parts
    → lines_of_parts (x ∷ parts) ≡ strip_carriage_return x ∷ lines_of_parts parts
parts_cons x [] some = absurd (omega arith)
parts_cons x (y ∷ more) some = refl

longer_still : (a b : List (List ℕ)) → 0 < length b → 0 < length (a ++ b)
longer_still [] b some = some
longer_still (x ∷ a) b some = omega arith

-- each part before the last is a line
parts_append : (a b : List (List ℕ)) → 0 < length b
    → lines_of_parts (a ++ b) ≡ map strip_carriage_return a ++ lines_of_parts b
parts_append [] b some = refl
parts_append (x ∷ a) b some =
    parts_cons x (a ++ b) (longer_still a b some)
    ∙ ap (λ ls. strip_carriage_return x ∷ ls) (parts_append a b some)

ended_lines : (xs ys : List ℕ) → lines (xs ++ 10 ∷ ys)
    ≡ map strip_carriage_return (slice_split (λ b. b == 10) xs) ++ lines ys
ended_lines xs ys =
    ap lines_of_parts (split_append xs ys)
    ∙ parts_append (slice_split (λ b. b == 10) xs) (slice_split (λ b. b == 10) ys)
    (omega (arith, length-slice_split (λ b. b == 10) ys))

-- the lines behind an end of a line are those of what stands behind it
lines_behind : (xs ys : List ℕ) → lines (xs ++ 10 ∷ ys) ≡ lines (xs ++ 10 ∷ []) ++ lines ys
lines_behind xs ys =
    ended_lines xs ys
    ∙ ap (λ ls. ls ++ lines ys)
    (sym (ended_lines xs [] ∙ append-nil (map strip_carriage_return (slice_split (λ b. b == 10) xs))))

-- what stands before the end of the last line
front_of : (file : List ℕ) → 0 < length file → slice_index file (length file - 1) ≡ 10
    → (front : List ℕ) × (file ≡ front ++ 10 ∷ [])
front_of [] some last = absurd (omega arith)
front_of (x ∷ []) some last = ([], ap (λ b. b ∷ []) last)
front_of (x ∷ y ∷ more) some last =
    let at : length (x ∷ y ∷ more) - 1 ≡ suc (length more) = omega arith in
    let back : length (y ∷ more) - 1 ≡ length more = omega arith in
    let here : slice_index (x ∷ y ∷ more) (suc (length more)) ≡ 10 =
    subst (λ n. slice_index (x ∷ y ∷ more) n ≡ 10) at last in
    let rest = front_of (y ∷ more) (omega arith) (subst (λ n. slice_index (y ∷ more) n ≡ 10) (sym back) here) in
    (x ∷ rest.0, ap (λ bs. x ∷ bs) rest.1)

lines_of_cons : (xs ys : List ℕ) → lines_of (xs ++ 10 ∷ ys) ≡ lines (xs ++ 10 ∷ ys)
lines_of_cons [] ys = refl
lines_of_cons (x ∷ xs) ys = refl

append_behind : (xs ys : List ℕ) → (xs ++ 10 ∷ []) ++ ys ≡ xs ++ 10 ∷ ys
append_behind [] ys = refl
append_behind (x ∷ xs) ys = ap (λ bs. x ∷ bs) (append_behind xs ys)

-- lines behind the last line of a file, which has its end
pub grown_ended : (file joined : List ℕ) → IsEnded file → lines_of (file ++ joined) ≡ lines_of file ++ lines joined
grown_ended file joined ended =
    let front = front_of file ended.0 ended.1 in
    ap (λ bs. lines_of (bs ++ joined)) front.1
    ∙ ap lines_of (append_behind front.0 joined)
    ∙ lines_of_cons front.0 joined
    ∙ lines_behind front.0 joined
    ∙ ap (λ ls. ls ++ lines joined) (sym (lines_of_cons front.0 []) ∙ ap lines_of (sym front.1))

-- a text without a carriage return at its end is stripped of nothing
strip_none : (text : List ℕ) → last_byte text ≢ 13 → strip_carriage_return text ≡ text
strip_none text other =
    let test : (last_byte text == 13) ≡ false = grind (arith, nat_tests, other) in
    ap (λ b. if b then take (length text - 1) text else text) test

-- each part of a text is a line, where the last one isn't empty and has no carriage return at its end
pub record AreLines (parts : List (List ℕ)) : Type 0 where
  pub is : lines_of_parts parts ≡ map strip_carriage_return parts
  pub last : (x : List ℕ) → parts ≡ x ∷ [] → (0 < length x) × (last_byte x ≢ 13)

one_line : (x : List ℕ) → 0 < length x → last_byte x ≢ 13 → AreLines (x ∷ [])
one_line [] some other = absurd (omega arith)
one_line (b ∷ bs) some other =
    let test : (length (b ∷ bs) == 0) ≡ false = grind (arith, nat_tests) in
    record {
      is = ap (λ t. if t then [] else (b ∷ bs) ∷ []) test ∙ ap (λ l. l ∷ []) (sym (strip_none (b ∷ bs) other));
      last = λ x same. subst (λ y. (0 < length y) × (last_byte y ≢ 13)) (head_same same) (some, other);
    }

behind_first : (x : List ℕ) (y : List ℕ) (more : List (List ℕ)) → lines_of_parts (y ∷ more) ≡ map strip_carriage_return (y ∷ more)
    → AreLines (x ∷ y ∷ more)
behind_first x y more is = record {
  is = ap (λ ls. strip_carriage_return x ∷ ls) is;
  last = λ z same. absurd (nil_cons (sym (tail_same same)));
}

longer_last : (b c : ℕ) (bs : List ℕ) → last_byte (b ∷ c ∷ bs) ≡ last_byte (c ∷ bs)
longer_last b c bs =
    let at : length (b ∷ c ∷ bs) - 1 ≡ suc (length bs) = omega arith in
    let back : length (c ∷ bs) - 1 ≡ length bs = omega arith in
    ap (λ n. slice_index (b ∷ c ∷ bs) n) at ∙ ap (λ n. slice_index (c ∷ bs) n) (sym back)

onto_line : (b : ℕ) (parts : List (List ℕ)) → 0 < length parts → AreLines parts → AreLines (onto_first b parts)
onto_line b [] some are = absurd (omega arith)
onto_line b ([] ∷ []) some are = absurd (let never = (are.last [] refl).0 in omega (arith, never))
onto_line b ((c ∷ bs) ∷ []) some are =
    one_line (b ∷ c ∷ bs) (omega arith)
    (subst (λ n. n ≢ 13) (sym (longer_last b c bs)) (are.last (c ∷ bs) refl).1)
onto_line b (x ∷ y ∷ more) some are = behind_first (b ∷ x) y more (tail_same are.is)

cut_line : (test : Bool) (b : ℕ) (parts : List (List ℕ)) → 0 < length parts → AreLines parts
    → AreLines (cond test ([] ∷ parts) (onto_first b parts))
cut_line true b [] some are = absurd (omega arith)
cut_line true b (y ∷ more) some are = behind_first [] y more are.is
cut_line false b parts some are = onto_line b parts some are

parts_are_lines : (text : List ℕ) → 0 < length text → last_byte text ≢ 10 → last_byte text ≢ 13
    → AreLines (slice_split (λ b. b == 10) text)
parts_are_lines [] some no_end other = absurd (omega arith)
parts_are_lines (b ∷ []) some no_end other =
    let test : (b == 10) ≡ false = grind (arith, nat_tests, no_end) in
    subst (λ t. AreLines (cond t ([] ∷ [] ∷ []) ((b ∷ []) ∷ []))) (sym test) (one_line (b ∷ []) some other)
parts_are_lines (b ∷ c ∷ bs) some no_end other =
    let same = longer_last b c bs in
    cut_line (b == 10) b (slice_split (λ b. b == 10) (c ∷ bs))
    (omega (arith, length-slice_split (λ b. b == 10) (c ∷ bs)))
    (parts_are_lines (c ∷ bs) (omega arith) (subst (λ n. n ≢ 10) same no_end) (subst (λ n. n ≢ 13) same other))

lines_of_some : (text : List ℕ) → 0 < length text → lines_of text ≡ lines text
lines_of_some [] some = absurd (omega arith)
lines_of_some (b ∷ bs) some = refl

-- and behind one that has none, and gets it
pub grown_open : (file joined : List ℕ) → 0 < length file → last_byte file ≢ 10 → last_byte file ≢ 13
    → lines_of (file ++ 10 ∷ joined) ≡ lines_of file ++ lines joined
grown_open file joined some no_end other =
    lines_of_cons file joined
    ∙ ended_lines file joined
    ∙ ap (λ ls. ls ++ lines joined)
    (sym (lines_of_some file some ∙ (parts_are_lines file some no_end other).is))
