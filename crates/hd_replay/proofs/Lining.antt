-- Texts and their lines.
use Rattle.std.proofs.Common.{◌≡◌, ◌==◌, ◌∙◌, ◌<◌, ◌≤◌, ℕ, zero, suc, true, false, List, [], ◌∷◌, ◌++◌}
use Rattle.std.proofs.Common.{length, flat_map, Contains, arith}
use Rattle.std.proofs.Common.{refl, sym, ap, ap₂, subst, append_assoc, append-nil, eqb-true, drop, set, take}
use Rattle.std.proofs.Common.{get_or}
use Rattle.std.proofs.Common.{length-append, ◌-◌, ◌+◌}
use Rattle.std.proofs.lemmas.Bool.{eqb-false}
use Rattle.std.proofs.lemmas.List.{drop-drop, drop-set-add, drop-set-lt}
use Rattle.std.proofs.lemmas.List.{length-drop}
use Rattle.std.proofs.lemmas.List.Concat.{flat_map-append}
use Rattle.std.proofs.lemmas.List.Elements.{All-append, All-cons, All-nil}
use Rattle.std.specs.List.{All}
use Rattle.std.proofs.Math.Seq.{take-add}
use Rattle.hd_replay.specs.Inputs.{AreLines, EndsFirst, with_rest}

-- lines with what ends them
abbrev pub ended : ℕ → List (List ℕ) → List ℕ
ended end lines = flat_map (λ line. line ++ end ∷ []) lines

pub all_none : {X : Type 0} (P : X → Type 0) → All P []
all_none P i d within = absurd (omega (arith, within))

-- a byte that isn't there before, and isn't this one
pub not_there : (end byte : ℕ) (bytes : List ℕ) → (byte ≡ end → ⊥) → (Contains bytes end → ⊥)
    → Contains (byte ∷ bytes) end → ⊥
not_there end byte bytes other none (zero, within, is) = other is
not_there end byte bytes other none (suc i, within, is) = none (i, omega (arith, within), is)

pub not_in_nothing : (end : ℕ) → Contains [] end → ⊥
not_in_nothing end (i, within, is) = omega (arith, within)

-- a text without what ends lines is a rest
pub are_none : (end : ℕ) (text : List ℕ) → (Contains text end → ⊥) → AreLines end text [] text
are_none end text none =
    record { whole = refl; plain = all_none (λ (line : List ℕ). Contains line end → ⊥); unended = none }

-- some lines, and then those of the rest and more
pub are_append : (end : ℕ) (text more rest rest' : List ℕ) (lines later : List (List ℕ))
    → AreLines end text lines rest →
    AreLines end (rest ++ more) later rest' → AreLines end (text ++ more) (lines ++ later) rest'
are_append end text more rest rest' lines later first second = record {
  whole =
      ap (λ (t : List ℕ). t ++ more) first.whole ∙ (append_assoc (ended end lines) rest more
      ∙ (ap (λ (t : List ℕ). ended end lines ++ t) second.whole
      ∙ (sym (append_assoc (ended end lines) (ended end later) rest')
      ∙ ap (λ (t : List ℕ). t ++ rest')
      (sym (flat_map-append (λ (line : List ℕ). line ++ end ∷ []) lines later)))));
  plain = All-append (λ (line : List ℕ). Contains line end → ⊥) lines later first.plain second.plain;
  unended = second.unended;
}

-- a line that is ended, and the lines behind it
pub are_one_more : (end : ℕ) (first text rest : List ℕ) (lines : List (List ℕ)) → (Contains first end → ⊥)
    → AreLines end text lines rest →
    AreLines end (first ++ end ∷ text) (first ∷ lines) rest
are_one_more end first text rest lines none are = record {
  whole = ap (λ (t : List ℕ). first ++ end ∷ t) are.whole
      ∙ (sym (append_assoc first (end ∷ []) (ended end lines ++ rest))
      ∙ sym (append_assoc (first ++ end ∷ []) (ended end lines) rest));
  plain = All-cons (λ (line : List ℕ). Contains line end → ⊥) first lines none are.plain;
  unended = are.unended;
}

-- a byte before a text goes before its first line
pub byte_before : (end byte : ℕ) (text rest : List ℕ) (lines : List (List ℕ)) → (byte ≡ end → ⊥)
    → AreLines end text lines rest →
    (lines' : List (List ℕ)) × (rest' : List ℕ) × AreLines end (byte ∷ text) lines' rest'
byte_before end byte text rest [] other are = (
  [],
  byte ∷ rest,
  record {
    whole = ap (λ (t : List ℕ). byte ∷ t) are.whole;
    plain = are.plain;
    unended = not_there end byte rest other are.unended;
  },
)
byte_before end byte text rest (line ∷ lines) other are = (
  (byte ∷ line) ∷ lines,
  rest,
  record {
    whole = ap (λ (t : List ℕ). byte ∷ t) are.whole;
    plain = All-cons (λ (l : List ℕ). Contains l end → ⊥) (byte ∷ line) lines
        (not_there end byte line other (are.plain zero line (omega arith)))
        (λ i d within. are.plain (suc i) d (omega (arith, within)));
    unended = are.unended;
  },
)

-- every text has its lines
pub lines_exist : (end : ℕ) (text : List ℕ)
    → (lines : List (List ℕ)) × (rest : List ℕ) × AreLines end text lines rest
lines_exist end [] = ([], [], are_none end [] (not_in_nothing end))
lines_exist end (byte ∷ text) =
    let later = lines_exist end text in
    elim (byte == end) as
    (λ t. (byte == end) ≡ t
    → (lines : List (List ℕ)) × (rest : List ℕ) × AreLines end (byte ∷ text) lines rest) [
      | true ↦ λ is. (
        [] ∷ later.0,
        later.1,
        subst (λ (b : ℕ). AreLines end (b ∷ text) ([] ∷ later.0) later.1) (sym (eqb-true byte end is))
            (are_one_more end [] text later.1 later.0 (not_in_nothing end) later.2),
      )
      | false ↦ λ is. byte_before end byte text later.1 later.0 (eqb-false byte end is) later.2
    ] refl

-- one more line is done
pub line_done : (end : ℕ) (text rest first after : List ℕ) (done : List (List ℕ)) → text
    ≡ ended end done ++ rest →
    rest ≡ first ++ end ∷ after → text ≡ ended end (done ++ first ∷ []) ++ after
line_done end text rest first after done whole split =
    whole ∙ (ap (λ (t : List ℕ). ended end done ++ t)
    (split ∙ (sym (append_assoc first (end ∷ []) after)
    ∙ ap (λ (t : List ℕ). t ++ after) (sym (append-nil (first ++ end ∷ [])))))
    ∙ (sym (append_assoc (ended end done) (ended end (first ∷ [])) after)
    ∙ ap (λ (t : List ℕ). t ++ after)
    (sym (flat_map-append (λ (line : List ℕ). line ++ end ∷ []) done (first ∷ [])))))

pub all_done : (end : ℕ) (first : List ℕ) (done : List (List ℕ)) → All (λ line. Contains line end → ⊥) done
    → (Contains first end → ⊥) →
    All (λ line. Contains line end → ⊥) (done ++ first ∷ [])
all_done end first done all none =
    All-append (λ (line : List ℕ). Contains line end → ⊥) done (first ∷ []) all
    (All-cons (λ (line : List ℕ). Contains line end → ⊥) first [] none
    (All-nil (λ (line : List ℕ). Contains line end → ⊥)))

-- lines that are done, and those of the rest
pub are_from : (end : ℕ) (text rest rest' : List ℕ) (done later : List (List ℕ)) → text
    ≡ ended end done ++ rest →
    All (λ line. Contains line end → ⊥) done → AreLines end rest later rest'
    → AreLines end text (done ++ later) rest'
are_from end text rest rest' done later whole all are = record {
  whole = whole ∙ (ap (λ (t : List ℕ). ended end done ++ t) are.whole
      ∙ (sym (append_assoc (ended end done) (ended end later) rest')
      ∙ ap (λ (t : List ℕ). t ++ rest')
      (sym (flat_map-append (λ (line : List ℕ). line ++ end ∷ []) done later))));
  plain = All-append (λ (line : List ℕ). Contains line end → ⊥) done later all are.plain;
  unended = are.unended;
}

-- a text that begins with a line
pub line_first : (end : ℕ) (text first after rest : List ℕ) (lines : List (List ℕ)) → text
    ≡ first ++ end ∷ after →
    (Contains first end → ⊥) → AreLines end after lines rest → AreLines end text (first ∷ lines) rest
line_first end text first after rest lines split none are =
    subst (λ (t : List ℕ). AreLines end t (first ∷ lines) rest) (sym split)
    (are_one_more end first after rest lines none are)

-- a byte stands in a text that it ends a part of
pub stands_there : (end : ℕ) (front rest : List ℕ) → Contains (front ++ end ∷ rest) end
stands_there end [] rest = (zero, omega arith, refl)
stands_there end (byte ∷ front) rest = let there =
    stands_there end front rest in (suc there.0, let within = there.1 in omega (arith, within), there.2)

pub not_behind : (end byte : ℕ) (bytes : List ℕ) → (Contains (byte ∷ bytes) end → ⊥) → Contains bytes end → ⊥
not_behind end byte bytes none (k, within, is) = none (suc k, omega (arith, within), is)

-- the first part of a text is one
pub first_alone : (end : ℕ) (l m rest rest' : List ℕ) → (Contains l end → ⊥) → (Contains m end → ⊥)
    → l ++ end ∷ rest ≡ m ++ end ∷ rest' →
    (l ≡ m) × (rest ≡ rest')
first_alone end [] [] rest rest' none none' same = (refl, ap (drop 1) same)
first_alone end [] (byte ∷ m) rest rest' none none' same =
    absurd (none' (zero, omega arith, sym (ap (λ (t : List ℕ). get_or t 0 0) same)))
first_alone end (byte ∷ l) [] rest rest' none none' same =
    absurd (none (zero, omega arith, ap (λ (t : List ℕ). get_or t 0 0) same))
first_alone end (byte ∷ l) (other ∷ m) rest rest' none none' same =
    let tail = first_alone end l m rest rest' (not_behind end byte l none) (not_behind end other m none')
    (ap (drop 1) same) in
    (ap₂ (λ (b : ℕ) (t : List ℕ). b ∷ t) (ap (λ (t : List ℕ). get_or t 0 0) same) tail.0, tail.1)

-- a text has its lines in one way
pub lines_alone : (end : ℕ) (text rest rest' : List ℕ) (lines lines' : List (List ℕ))
    → AreLines end text lines rest →
    AreLines end text lines' rest' → (lines ≡ lines') × (rest ≡ rest')
lines_alone end text rest rest' [] [] a b = (refl, sym a.whole ∙ b.whole)
lines_alone end text rest rest' [] (l ∷ ls) a b =
    absurd (a.unended (subst (λ (t : List ℕ). Contains t end)
    (sym (sym a.whole
    ∙ (b.whole ∙ (append_assoc (l ++ end ∷ []) (ended end ls) rest'
    ∙ append_assoc l (end ∷ []) (ended end ls ++ rest')))))
    (stands_there end l (ended end ls ++ rest'))))
lines_alone end text rest rest' (l ∷ ls) [] a b =
    absurd (b.unended (subst (λ (t : List ℕ). Contains t end)
    (sym (sym b.whole
    ∙ (a.whole ∙ (append_assoc (l ++ end ∷ []) (ended end ls) rest
    ∙ append_assoc l (end ∷ []) (ended end ls ++ rest)))))
    (stands_there end l (ended end ls ++ rest))))
lines_alone end text rest rest' (l ∷ ls) (m ∷ ms) a b =
    let left = append_assoc (l ++ end ∷ []) (ended end ls) rest
    ∙ append_assoc l (end ∷ []) (ended end ls ++ rest) in
    let right = append_assoc (m ++ end ∷ []) (ended end ms) rest'
    ∙ append_assoc m (end ∷ []) (ended end ms ++ rest') in
    let first =
    first_alone end l m (ended end ls ++ rest) (ended end ms ++ rest') (a.plain zero l (omega arith))
    (b.plain zero m (omega arith))
    (sym left ∙ (sym a.whole ∙ (b.whole ∙ right))) in
    let later : AreLines end (ended end ls ++ rest) ls rest =
    record {
      whole = refl;
      plain = λ i d within. a.plain (suc i) d (omega (arith, within));
      unended =
          a.unended;
    } in
    let later' : AreLines end (ended end ls ++ rest) ms rest' =
    record {
      whole = first.1;
      plain = λ i d within. b.plain (suc i) d (omega (arith, within));
      unended =
          b.unended;
    } in
    let others = lines_alone end (ended end ls ++ rest) rest rest' ls ms later later' in
    (ap₂ (λ (x : List ℕ) (xs : List (List ℕ)). x ∷ xs) first.0 others.0, others.1)

-- lines take their bytes
pub lines_fit : (end : ℕ) (lines : List (List ℕ)) (rest : List ℕ)
    → length lines + length rest ≤ length (ended end lines ++ rest)
lines_fit end [] rest = omega arith
lines_fit end (line ∷ lines) rest =
    let fit = lines_fit end lines rest in
    let whole : length (ended end (line ∷ lines) ++ rest)
    ≡ length line + suc (length (ended end lines ++ rest)) =
    ap length (append_assoc (line ++ end ∷ []) (ended end lines) rest
    ∙ append_assoc line (end ∷ []) (ended end lines ++ rest))
    ∙ length-append line (end ∷ ended end lines ++ rest) in
    omega (arith, fit, whole)

pub fewer_lines : (end : ℕ) (text rest : List ℕ) (lines : List (List ℕ)) → AreLines end text lines rest →
    length lines + length rest ≤ length text
fewer_lines end text rest lines are = let fit = lines_fit end lines rest in let whole : length text
    ≡ length (ended end lines ++ rest) =
    ap length are.whole in omega (arith, fit, whole)

-- another byte in the place of the one that ends a line
set_here : (first behind : List ℕ) (a b : ℕ) → set (first ++ a ∷ behind) (length first) b
    ≡ first ++ b ∷ behind
set_here [] behind a b = refl
set_here (x ∷ first) behind a b = ap (λ (t : List ℕ). x ∷ t) (set_here first behind a b)

take_here : (first behind : List ℕ) (b : ℕ) → take (length first + 1) (first ++ b ∷ behind) ≡ first ++ b ∷ []
take_here [] behind b = refl
take_here (x ∷ first) behind b = let more : suc (length first) + 1 ≡ suc (length first + 1) =
    omega arith in rw more (ap (λ (t : List ℕ). x ∷ t) (take_here first behind b))

-- the line from a place on, with another byte at its end
pub line_and : (end other : ℕ) (text changed : List ℕ) (from at : ℕ) (ends : EndsFirst end text from at) →
    drop from changed ≡ drop from text
    → take (at + 1 - from) (drop from (set changed at other)) ≡ ends.first ++ other ∷ []
line_and end other text changed from at ends same =
    let place = ends.place in
    let many : at + 1 - from ≡ length ends.first + 1 = omega (arith, place) in
    let line : drop from (set changed at other) ≡ ends.first ++ other ∷ drop (at + 1) text =
    ap (λ (i : ℕ). drop from (set changed i other)) place
    ∙ (drop-set-add from changed (length ends.first) other
    ∙ (ap (λ (t : List ℕ). set t (length ends.first) other) (same ∙ ends.split)
    ∙ set_here ends.first (drop (at + 1) text) end other)) in
    rw (many, line) (take_here ends.first (drop (at + 1) text) other)

-- what is behind it isn't changed
pub behind_line : (end other : ℕ) (text changed : List ℕ) (from at : ℕ) → EndsFirst end text from at
    → drop from changed ≡ drop from text →
    drop (at + 1) (set changed at other) ≡ drop (at + 1) text
behind_line end other text changed from at ends same =
    let place = ends.place in
    let there : from + (length ends.first + 1) ≡ at + 1 = omega (arith, place) in
    drop-set-lt (at + 1) changed at other (omega arith)
    ∙ (ap (λ (n : ℕ). drop n changed) (sym there) ∙ (sym (drop-drop (length ends.first + 1) from changed)
    ∙ (ap (drop (length ends.first + 1)) same
    ∙ (drop-drop (length ends.first + 1) from text ∙ ap (λ (n : ℕ). drop n text) there))))

-- and it is one line more
pub line_more : (end : ℕ) (text : List ℕ) (from at : ℕ) (ends : EndsFirst end text from at)
    (lines : List (List ℕ)) →
    take from text ≡ ended end lines → take (at + 1) text ≡ ended end (lines ++ ends.first ∷ [])
line_more end text from at ends lines done =
    let place = ends.place in
    let there : at + 1 ≡ from + (length ends.first + 1) = omega (arith, place) in
    ap (λ (n : ℕ). take n text) there ∙ (take-add from (length ends.first + 1) text
    ∙ (ap (λ (t : List ℕ). take from text ++ take (length ends.first + 1) t) ends.split
    ∙ (ap (λ (t : List ℕ). take from text ++ t) (take_here ends.first (drop (at + 1) text) end)
    ∙ (ap (λ (t : List ℕ). t ++ (ends.first ++ end ∷ [])) done
    ∙ (ap (λ (t : List ℕ). ended end lines ++ t) (sym (append-nil (ends.first ++ end ∷ [])))
    ∙ sym (flat_map-append (λ (line : List ℕ). line ++ end ∷ []) lines (ends.first ∷ [])))))))

-- a line that is found from a place on
pub ends_first : (end : ℕ) (text first behind : List ℕ) (from : ℕ) → from ≤ length text → drop from text
    ≡ first ++ end ∷ behind →
    (Contains first end → ⊥) → EndsFirst end text from (from + length first)
ends_first end text first behind from within split plain = record {
  first = first;
  split = split ∙ ap (λ (t : List ℕ). first ++ end ∷ t) behind_is;
  plain = plain;
  place = refl;
  within =
      let left = length-drop from text in
      let all : length (drop from text) ≡ length (first ++ end ∷ behind) = ap length split in
      let both = length-append first (end ∷ behind) in
      omega (arith, within, left, all, both);
}
  where
    after_first : (l : List ℕ) → drop (length l + 1) (l ++ end ∷ behind) ≡ behind
    after_first [] = refl
    after_first (x ∷ l) = let more : suc (length l) + 1
        ≡ suc (length l + 1) = omega arith in rw more (after_first l)

    behind_is : behind ≡ drop (from + length first + 1) text
    behind_is =
        let there : from + (length first + 1) ≡ from + length first + 1 = omega arith in
        sym (after_first first) ∙ (ap (drop (length first + 1)) (sym split)
        ∙ (drop-drop (length first + 1) from text ∙ ap (λ (n : ℕ). drop n text) there))

-- it is the same in a text that is the same from there on
abbrev pub ends_same : (end : ℕ) (text changed : List ℕ) (from at : ℕ) → drop from changed ≡ drop from text
    → length changed ≡ length text →
    EndsFirst end changed from at → EndsFirst end text from at
ends_same end text changed from at same long ends =
    let place = ends.place in
    let within = ends.within in
    let there : from + (length ends.first + 1) ≡ at + 1 = omega (arith, place) in
    let behind : drop (at + 1) changed ≡ drop (at + 1) text =
    ap (λ (n : ℕ). drop n changed) (sym there) ∙ (sym (drop-drop (length ends.first + 1) from changed)
    ∙ (ap (drop (length ends.first + 1)) same
    ∙ (drop-drop (length ends.first + 1) from text ∙ ap (λ (n : ℕ). drop n text) there))) in
    record {
      first = ends.first;
      split = sym same ∙ (ends.split ∙ ap (λ (t : List ℕ). ends.first ++ end ∷ t) behind);
      plain = ends.plain;
      place = place;
      within = omega (arith, within, long);
    }

-- a rest that is ended is a line, where there is one
pub no_rest_left : (rest : List ℕ) → length rest ≡ 0 → with_rest [] rest ≡ []
no_rest_left [] none = refl
no_rest_left (byte ∷ rest) none = absurd (omega (arith, none))

pub rest_ended : (rest : List ℕ) (whole : List (List ℕ)) (left : List ℕ) → (Contains rest 10 → ⊥)
    → 0 < length rest →
    AreLines 10 (rest ++ 10 ∷ []) whole left → with_rest [] rest ≡ whole
rest_ended [] whole left plain some are = absurd (omega (arith, some))
rest_ended (byte ∷ rest) whole left plain some are =
    (lines_alone 10 ((byte ∷ rest) ++ 10 ∷ []) [] left ((byte ∷ rest) ∷ []) whole
    (are_one_more 10 (byte ∷ rest) [] [] [] plain (are_none 10 [] (not_in_nothing 10))) are).0

pub some_bytes : (n : ℕ) → (n ≡ 0 → ⊥) → 0 < n
some_bytes zero some = absurd (some refl)
some_bytes (suc n) some = omega arith
