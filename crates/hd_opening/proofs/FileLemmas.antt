-- Files that were written, and files that are refused.
use Rattle.std.proofs.Common.{◌≡◌, ℕ, ◌/◌, ◌%◌, ◌<◌, ◌≤◌, true, false, List, [], ◌∷◌, ◌++◌, map, length}
use Rattle.std.proofs.Common.{codes, decimal, All, Some, Result, Ok, Err}
use Rattle.std.proofs.Common.{inl, inr, refl, sym, ap, ◌∙◌, arith, suc, slice_index}
use Rattle.std.specs.Prelude.{bytes_eq, ◌==◌}
use Rattle.std.specs.List.{list_all}
use Rattle.std.specs.Str.Lines.{lines}
use Rattle.std.proofs.lemmas.Bool.Decides.{nat_tests}
use Rattle.std.proofs.lemmas.List.Sums.{AllPass-from_list_all}
use Rattle.std.proofs.lemmas.Slice.Eq.{bytes_eq-Decides}
use Rattle.hex.specs.Hex.{encode_lower, encode_with, lower_digits}
use Rattle.hex.proofs.HexLemmas.{length-encode_with}
use Rattle.hd_rules.specs.declared.limits.TheConstants.{MOST_GIVEN}
use Rattle.hd_rules.specs.declared.rows.OpeningRow.{OpeningRow}
use Rattle.hd_catalogue.specs.Contents.{Contents, OpeningRows}
use Rattle.hd_catalogue.specs.Files.{lines_of}
use Rattle.hd_catalogue.specs.Text.{is_digit, is_long, number_to, values_of}
use Rattle.hd_lemmas.proofs.Lists.{head_same, tail_same}
use Rattle.hd_opening.specs.Files.{AreInLimits, IsDigest, IsFirstBad, IsOpeningText, Tells, heading_line}
use Rattle.hd_opening.specs.Lines.{first_said, is_digest, is_lower_digit, row_said}
use Rattle.hd_opening.specs.Pieces.{behind_bars}
use Rattle.hd_opening.specs.declared.cause.OpeningFault.{OpeningFault}
use Rattle.hd_opening.specs.declared.cause.OpeningCause.{OpeningCause}
use Rattle.hd_opening.specs.declared.cause.OpeningCause.TheVariants.{Memory}
use Rattle.hd_opening.proofs.LimitLemmas.{fine, nil_cons, ok_same}
use Rattle.hd_opening.proofs.NumberLemmas.{digits_are, digits_few, number_read}
use Rattle.hd_opening.proofs.RowLemmas.{digit_plain, rows_again}
use Rattle.hd_opening.proofs.TextLemmas.{AreClean, bars_full, bars_short, is_full, is_plain, lines_again}
use Rattle.hd_opening.proofs.TextLemmas.{values_again, weaker}

-- hexadecimal digits
digit_low : (n : ℕ) → n < 16 → is_lower_digit (slice_index lower_digits n) ≡ true
digit_low n h = AllPass-from_list_all is_lower_digit lower_digits refl n 0 h

hex_low : (bytes : List ℕ) → All (λ b. b < 256) bytes → list_all is_lower_digit (encode_lower bytes) ≡ true
unfolding encode_with
hex_low [] h = refl
hex_low (b ∷ bytes) h =
    let small : b < 256 = h 0 0 (omega arith) in
    let high = digit_low (b / 16) (omega (arith, small)) in
    let low = digit_low (b % 16) (omega arith) in
    rw (high, low) (hex_low bytes (λ i d l. h (suc i) d (omega (arith, l))))

low_plain : (b : ℕ) → is_lower_digit b ≡ true → is_plain b ≡ true
low_plain b h = grind (arith, nat_tests, h)

-- a first line of these values tells the last number
first_of : (digest line number own : List ℕ) (last : ℕ) → is_long line ≡ false
    → values_of line ≡ codes "H" ∷ codes "opening" ∷ codes "1" ∷ number ∷ own ∷ [] → is_digest own ≡ true
    → number_to MOST_GIVEN number ≡ Some last → bytes_eq own (encode_lower digest) ≡ true
    → first_said digest line ≡ Ok last
unfolding first_said
first_of digest line number own last short values digits told same =
    rw (short, values, digits, told, same) refl

-- the first line that was written is read
first_again : (digest : List ℕ) (last : ℕ) → IsDigest digest
    → last ≤ MOST_GIVEN → (first_said digest (heading_line digest last) ≡ Ok last)
    × (list_all is_full (heading_line digest last) ≡ true)
first_again digest last is few =
    let hex : length (encode_lower digest) ≡ 64 =
    length-encode_with lower_digits digest ∙ omega (arith, is.0) in
    let low = hex_low digest is.1 in
    let number = digits_are last few in
    let clean : AreClean (codes "opening" ∷ codes "1" ∷ decimal last ∷ encode_lower digest ∷ []) = (
      record { plain = refl; short = omega arith },
      (
        record { plain = refl; short = omega arith },
        (
          record {
            plain = weaker is_digit is_plain digit_plain (decimal last) number;
            short = omega (arith, digits_few last few);
          },
          (
            record {
              plain = weaker is_lower_digit is_plain low_plain (encode_lower digest) low;
              short = omega (arith, hex);
            },
            tt,
          ),
        ),
      ),
    ) in
    let size : length (heading_line digest last) ≤ 1024 =
    omega (arith, bars_short (codes "opening" ∷ codes "1" ∷ decimal last ∷ encode_lower digest ∷ []) clean) in
    let short : is_long (heading_line digest last) ≡ false = grind (arith, nat_tests, size) in
    let same : bytes_eq (encode_lower digest) (encode_lower digest) ≡ true =
    (bytes_eq-Decides (encode_lower digest) (encode_lower digest)).1 refl in
    let long : (length (encode_lower digest) == 64) ≡ true = grind (arith, nat_tests, hex) in
    let digits : is_digest (encode_lower digest) ≡ true = rw (long, low) refl in
    let values = values_again (codes "H")
    (codes "opening" ∷ codes "1" ∷ decimal last ∷ encode_lower digest ∷ []) refl clean in (
      first_of digest (heading_line digest last) (decimal last) (encode_lower digest) last short values digits
          (number_read MOST_GIVEN last few (omega arith)) same,
      bars_full (codes "opening" ∷ codes "1" ∷ decimal last ∷ encode_lower digest ∷ []) clean,
    )

-- and so are all its lines
pub written_told : (k : Contents) (digest : List ℕ) (told : OpeningRows) (text : List ℕ) → IsDigest digest
    → AreInLimits told → IsOpeningText k digest told text → Tells k digest (lines_of text) told
written_told k digest told text is fits (more, are, whole) =
    let first = first_again digest told.last is fits.0 in
    let rest = behind_bars (codes "opening" ∷ codes "1" ∷ decimal told.last ∷ encode_lower digest ∷ []) in
    let split : lines (heading_line digest told.last ++ 10 ∷ more)
    ≡ heading_line digest told.last ∷ lines more =
    lines_again 72 rest more first.1 in
    record {
      first = heading_line digest told.last;
      more = lines more;
      whole = ap lines_of whole ∙ split;
      last = first.0;
      rows = rows_again k told.last told.rows more are fits.1 fits.0;
    }

ok_err : {A : Type 0} {r : Result A OpeningCause} {x : A} {y : OpeningCause} → r ≡ Ok x → r ≡ Err y → ⊥
ok_err e f = cc

rows_same : (rows others : List OpeningRow) → map fine rows ≡ map fine others → rows ≡ others
rows_same [] [] e = refl
rows_same [] (x ∷ xs) e = absurd (nil_cons e)
rows_same (x ∷ xs) [] e = absurd (nil_cons (sym e))
rows_same (x ∷ xs) (y ∷ ys) e =
    let first : x ≡ y = ok_same (head_same e) in
    rw first (ap (λ rs. y ∷ rs) (rows_same xs ys (tail_same e)))

-- a file tells one thing
pub told_one : (k : Contents) (digest : List ℕ) (all : List (List ℕ)) (told other : OpeningRows)
    → Tells k digest all told → Tells k digest all other → told ≡ other
told_one k digest all told other a b =
    let both : a.first ∷ a.more ≡ b.first ∷ b.more = sym a.whole ∙ b.whole in
    let last : told.last ≡ other.last =
    ok_same (sym a.last ∙ ap (first_said digest) (head_same both) ∙ b.last) in
    let rows : map fine told.rows ≡ map fine other.rows =
    sym a.rows ∙ ap (map (row_said k told.last)) (tail_same both)
    ∙ ap (λ n. map (row_said k n) b.more) last ∙ b.rows in
    ap (λ n. record { rows = told.rows; last = n }) last
    ∙ ap (λ rs. record { rows = rs; last = other.last }) (rows_same told.rows other.rows rows)

-- among lines that say rows each does
one_says : (f : List ℕ → Result OpeningRow OpeningCause) (before : List (List ℕ)) (line : List ℕ)
    (after : List (List ℕ)) (rows : List OpeningRow) → map f (before ++ line ∷ after) ≡ map Ok rows
    → (row : OpeningRow) × (f line ≡ Ok row)
one_says f [] line after [] e = absurd (nil_cons (sym e))
one_says f [] line after (r ∷ rows) e = (r, head_same e)
one_says f (b ∷ before) line after [] e = absurd (nil_cons (sym e))
one_says f (b ∷ before) line after (r ∷ rows) e = one_says f before line after rows (tail_same e)

-- a file that tells something has no bad line
pub told_refused : (k : Contents) (digest : List ℕ) (all : List (List ℕ)) (told : OpeningRows)
    (fault : OpeningFault) → Tells k digest all told → IsFirstBad k digest all fault → fault.cause ≡ Memory
told_refused k digest all told fault a (inl (first, more, whole, line, bad)) =
    let both : a.first ∷ a.more ≡ first ∷ more = sym a.whole ∙ whole in
    absurd (ok_err (ap (first_said digest) (sym (head_same both)) ∙ a.last) bad)
told_refused k digest all told fault a (inr b) =
    let both : a.first ∷ a.more ≡ b.first ∷ (b.before ++ b.line ∷ b.after) = sym a.whole ∙ b.whole in
    let last : told.last ≡ b.last =
    ok_same (sym a.last ∙ ap (first_said digest) (head_same both) ∙ b.heads) in
    let rows : map (row_said k b.last) (b.before ++ b.line ∷ b.after) ≡ map Ok told.rows =
    ap (map (row_said k b.last)) (sym (tail_same both))
    ∙ ap (λ n. map (row_said k n) a.more) (sym last) ∙ a.rows in
    let says = one_says (row_said k b.last) b.before b.line b.after told.rows rows in
    elim b.here [
      | inl bad ↦ absurd (ok_err says.1 bad)
      | inr memory ↦ memory.0
    ]
