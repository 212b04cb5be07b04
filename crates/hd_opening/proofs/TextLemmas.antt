-- The lines of a text that was written, and their values.
use Rattle.std.proofs.Common.{◌≡◌, ℕ, ◌-◌, ◌*◌, ◌<◌, ◌≤◌, Bool, true, false, List, [], ◌∷◌, ◌++◌, length, All}
use Rattle.std.proofs.Common.{refl, ap, ◌∙◌, arith}
use Rattle.std.proofs.Common.{length-append, slice_index}
use Rattle.std.specs.Prelude.{nat_le, not, ◌&&◌, ◌==◌}
use Rattle.std.specs.List.{list_all, slice_split}
use Rattle.std.specs.Str.Lines.{lines, lines_of_parts, strip_carriage_return}
use Rattle.std.proofs.lemmas.Bool.{and_parts}
use Rattle.std.proofs.lemmas.Bool.Decides.{nat_tests}
use Rattle.std.proofs.lemmas.List.{append-nil}
use Rattle.std.proofs.lemmas.List.Folds.{list_all-append}
use Rattle.std.proofs.lemmas.List.Sums.{AllPass-from_list_all}
use Rattle.std.proofs.lemmas.List.Splits.{length-slice_split, slice_split_at, slice_split_none}
use Rattle.hd_catalogue.specs.Text.{values_of}
use Rattle.hd_opening.specs.Pieces.{behind_bars}

-- a byte of a value: neither a bar nor the end of a line
abbrev pub is_plain : ℕ → Bool
is_plain byte = nat_le 32 byte && not (byte == 124)

-- a byte of a line
abbrev pub is_full : ℕ → Bool
is_full byte = nat_le 32 byte

plain_no_bar : (b : ℕ) → is_plain b ≡ true → (b == 124) ≡ false
plain_no_bar b h = grind (arith, nat_tests, h)

full_no_end : (b : ℕ) → is_full b ≡ true → (b == 10) ≡ false
full_no_end b h = grind (arith, nat_tests, h)

-- a byte of a value is one of a line
pub plain_full : (b : ℕ) → is_plain b ≡ true → is_full b ≡ true
plain_full b h = grind (arith, nat_tests, h)

-- where each byte passes one test, each passes a weaker one
pub weaker : (p q : ℕ → Bool) → ((b : ℕ) → p b ≡ true → q b ≡ true) → (bytes : List ℕ)
    → list_all p bytes ≡ true → list_all q bytes ≡ true
weaker p q f [] h = refl
weaker p q f (b ∷ bytes) h =
    let parts = and_parts (p b) _ h in
    rw (f b parts.0) (weaker p q f bytes parts.1)

no_bar : (text : List ℕ) → list_all is_plain text ≡ true → All (λ b. (b == 124) ≡ false) text
no_bar text h = λ k d l. plain_no_bar _ (AllPass-from_list_all is_plain text h k d l)

no_end : (line : List ℕ) → list_all is_full line ≡ true → All (λ b. (b == 10) ≡ false) line
no_end line h = λ k d l. full_no_end _ (AllPass-from_list_all is_full line h k d l)

-- The text is at most so long, and has neither a bar nor the end of a line.
pub record IsClean (text : List ℕ) : Type 0 where
  pub plain : list_all is_plain text ≡ true
  pub short : length text ≤ 64

abbrev pub AreClean : List (List ℕ) → Type 0
AreClean [] = Unit {0}
AreClean (text ∷ texts) = IsClean text × AreClean texts

-- the values of a line are those that were written
pub values_again : (text : List ℕ) (texts : List (List ℕ)) → list_all is_plain text ≡ true → AreClean texts
    → values_of (text ++ behind_bars texts) ≡ text ∷ texts
values_again text [] h hs = ap values_of (append-nil text)
    ∙ slice_split_none (λ b. b == 124) text (no_bar text h)
values_again text (next ∷ texts) h hs =
    slice_split_at (λ b. b == 124) text 124 (next ++ behind_bars texts) (no_bar text h) refl
    ∙ ap (λ vs. text ∷ vs) (values_again next texts hs.0.plain hs.1)

-- how long the values are
pub bars_short : (texts : List (List ℕ)) → AreClean texts → length (behind_bars texts) ≤ 65 * length texts
bars_short [] hs = omega arith
bars_short (text ∷ texts) hs =
    omega (arith, hs.0.short, bars_short texts hs.1, length-append text (behind_bars texts))

-- and their bytes are bytes of a line
pub bars_full : (texts : List (List ℕ)) → AreClean texts → list_all is_full (behind_bars texts) ≡ true
bars_full [] hs = refl
bars_full (text ∷ texts) hs =
    rw (
      list_all-append is_full text (behind_bars texts),
      weaker is_plain is_full plain_full text hs.0.plain,
      bars_full texts hs.1,
    ) refl

lines_of_parts-cons : (x : List ℕ) (parts : List (List ℕ)) → 0 < length parts
    → lines_of_parts (x ∷ parts) ≡ strip_carriage_return x ∷ lines_of_parts parts
lines_of_parts-cons x [] l = absurd (omega arith)
lines_of_parts-cons x (y ∷ more) l = refl

-- a line without a carriage return at its end
strip_none : (b : ℕ) (line : List ℕ) → list_all is_full (b ∷ line) ≡ true
    → strip_carriage_return (b ∷ line) ≡ b ∷ line
strip_none b line h =
    let last : is_full (slice_index (b ∷ line) (length line)) ≡ true =
    AllPass-from_list_all is_full (b ∷ line) h (length line) 0 (omega arith) in
    let other : (slice_index (b ∷ line) (length line) == 13) ≡ false = grind (arith, nat_tests, last) in
    let at : length (b ∷ line) - 1 ≡ length line = omega arith in
    rw (at, other) refl

-- a line and its end come off the front
pub lines_again : (b : ℕ) (line more : List ℕ) → list_all is_full (b ∷ line) ≡ true
    → lines ((b ∷ line) ++ 10 ∷ more) ≡ (b ∷ line) ∷ lines more
lines_again b line more h =
    ap lines_of_parts (slice_split_at (λ b. b == 10) (b ∷ line) 10 more (no_end (b ∷ line) h) refl)
    ∙ lines_of_parts-cons (b ∷ line) (slice_split (λ b. b == 10) more)
    (omega (arith, length-slice_split (λ b. b == 10) more))
    ∙ ap (λ l. l ∷ lines more) (strip_none b line h)
