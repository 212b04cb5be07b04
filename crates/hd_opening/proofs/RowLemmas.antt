-- The row of a line that was written.
use Rattle.std.proofs.Common.{◌≡◌, ℕ, ◌≤◌, true, false, List, [], ◌∷◌, ◌++◌, length, Option, None, Some, Ok}
use Rattle.std.proofs.Common.{refl, sym, ap, subst, ◌∙◌, arith}
use Rattle.std.proofs.Common.{decimal, length-append, suc, All, map}
use Rattle.std.specs.Prelude.{nat_le, nat_lt, ◌&&◌, ◌==◌}
use Rattle.std.specs.List.{list_all}
use Rattle.std.specs.Str.Lines.{lines}
use Rattle.std.proofs.lemmas.Bool.{and_parts}
use Rattle.std.proofs.lemmas.Bool.Decides.{nat_tests}
use Rattle.std.proofs.lemmas.List.Folds.{list_all-append}
use Rattle.hd_rules.specs.declared.limits.TheConstants.{MOST_RENEWALS, MOST_GIVEN}
use Rattle.hd_rules.specs.declared.rows.OpeningRow.{OpeningRow}
use Rattle.hd_rules.specs.declared.holds.HoldKind.{HoldKind}
use Rattle.hd_rules.specs.declared.holds.HoldKind.TheVariants.{Any, One, AtBranch}
use Rattle.hd_rules.specs.declared.holds.Hold.{Hold}
use Rattle.hd_rules.specs.declared.copies.Loan.{Loan}
use Rattle.hd_rules.specs.declared.rows.OpeningRow.TheVariants as row
use Rattle.hd_catalogue.specs.Contents.{Contents, branch_number, copy_number, patron_number, title_number}
use Rattle.hd_catalogue.specs.Text.{is_digit, is_long, is_name, is_name_byte, number_to}
use Rattle.hd_opening.specs.Days.{IsDayText, expiry_written}
use Rattle.hd_opening.specs.Files.{SayRows}
use Rattle.hd_opening.specs.Limits.{IsInLimits}
use Rattle.hd_opening.specs.Lines.{HoldValues, from_one, hold_said, is_kind, kept_said, kind_of, loan_said}
use Rattle.hd_opening.specs.Lines.{row_said, sent_said, shelf_said, transit_said, values_said}
use Rattle.hd_opening.specs.Pieces.{AreLines, ArePieceTexts, IsLine, IsNameOf, IsPieceText, admits_piece}
use Rattle.hd_opening.specs.Pieces.{behind_bars, copy_piece, day_piece, row_letter, row_pieces}
use Rattle.hd_opening.specs.declared.limits.TheConstants.{MOST_PLACES}
use Rattle.hd_opening.specs.declared.piece.Piece.{Piece}
use Rattle.hd_opening.specs.declared.piece.Piece.TheVariants as piece
use Rattle.hd_opening.specs.declared.piece.Admits.TheVariants as admits
use Rattle.hd_opening.proofs.DayLemmas.{day_digits, day_long, day_read}
use Rattle.hd_opening.proofs.NumberLemmas.{digits_are, digits_few, number_read}
use Rattle.hd_opening.proofs.TextLemmas.{AreClean, IsClean, bars_full, bars_short, is_full, is_plain}
use Rattle.hd_opening.proofs.TextLemmas.{lines_again, plain_full, values_again, weaker}

-- a number that the reader reads
abbrev pub IsSmall : Piece → Type 0
IsSmall (piece.Number n) = n ≤ 999_999_999
IsSmall _ = Unit {0}

abbrev pub AreSmall : List Piece → Type 0
AreSmall [] = Unit {0}
AreSmall (p ∷ ps) = IsSmall p × AreSmall ps

name_byte_plain : (b : ℕ) → is_name_byte b ≡ true → is_plain b ≡ true
name_byte_plain b h = grind (arith, nat_tests, h)

pub digit_plain : (b : ℕ) → is_digit b ≡ true → is_plain b ≡ true
digit_plain b h = grind (arith, nat_tests, h)

name_clean : (text : List ℕ) → is_name text ≡ true → IsClean text
name_clean text h =
    let sizes = and_parts (nat_lt 0 (length text) && nat_le (length text) 60) _ h in
    let sixty : nat_le (length text) 60 ≡ true = (and_parts (nat_lt 0 (length text)) _ sizes.0).1 in
    record {
      plain = weaker is_name_byte is_plain name_byte_plain text sizes.1;
      short = grind (arith, nat_tests, sixty);
    }

-- the text of a value is clean
piece_clean : (k : Contents) (p : Piece) (text : List ℕ) → IsPieceText k p text → IsSmall p → IsClean text
piece_clean k (piece.Copy c) text h s = name_clean text h.0
piece_clean k (piece.Patron c) text h s = name_clean text h.0
piece_clean k (piece.Title c) text h s = name_clean text h.0
piece_clean k (piece.Branch c) text h s = name_clean text h.0
piece_clean k (piece.Number n) text h s =
    subst IsClean (sym h) (record {
      plain = weaker is_digit is_plain digit_plain (decimal n) (digits_are n s);
      short = omega (arith, digits_few n s);
    })
piece_clean k (piece.Day day) text h s = record {
  plain = weaker is_digit is_plain digit_plain text (day_digits day text h);
  short = omega (arith, day_long day text h);
}
piece_clean k (piece.Admits admits.Any) text h s =
    subst IsClean (sym h) (record { plain = refl; short = omega arith })
piece_clean k (piece.Admits admits.Branch) text h s =
    subst IsClean (sym h) (record { plain = refl; short = omega arith })
piece_clean k (piece.Admits admits.Copy) text h s =
    subst IsClean (sym h) (record { plain = refl; short = omega arith })
piece_clean k piece.Nothing text h s = subst IsClean (sym h) (record { plain = refl; short = omega arith })

pieces_clean : (k : Contents) (ps : List Piece) (texts : List (List ℕ)) → ArePieceTexts k ps texts
    → AreSmall ps → AreClean texts × (length texts ≡ length ps)
pieces_clean k [] texts h s = subst (λ ts. AreClean ts × (length ts ≡ 0)) (sym h) (tt, refl)
pieces_clean k (p ∷ ps) texts h s =
    let more = pieces_clean k ps h.1 h.3 s.1 in
    subst (λ ts. AreClean ts × (length ts ≡ length (p ∷ ps))) (sym h.4)
    ((piece_clean k p h.0 h.2 s.0, more.0), omega (arith, more.1))

-- what each kind of line says
loan_again : (k : Contents) (c : ℕ) (l : Loan) (a b d e : List ℕ) → IsNameOf (copy_number k a) c a
    → IsNameOf (patron_number k b) l.patron b → IsDayText l.due d → e ≡ decimal l.renewals
    → l.renewals ≤ MOST_RENEWALS → loan_said true k (Some (a, b, d, e)) ≡ Ok (row.Loan c l)
loan_again k c l a b d e ha hb hd he few =
    rw (
      ha.0,
      hb.0,
      day_read l.due d hd,
      he,
      number_read MOST_RENEWALS l.renewals few (omega arith),
      ha.1,
      hb.1,
    ) refl

shelf_again : (k : Contents) (c b : ℕ) (a d : List ℕ) → IsNameOf (copy_number k a) c a
    → IsNameOf (branch_number k d) b d → shelf_said true k (Some (a, d)) ≡ Ok (row.OpenShelf c b)
shelf_again k c b a d ha hd = rw (ha.0, hd.0, ha.1, hd.1) refl

from_one_again : (most n : ℕ) (text : List ℕ) → text ≡ decimal n → 1 ≤ n → n ≤ most → most ≤ 999_999_999
    → from_one (number_to most text) ≡ Some n
from_one_again most n text is one few small =
    let some : (n == 0) ≡ false = grind (arith, nat_tests, one) in
    rw (is, number_read most n few small, some) refl

kept_again : (k : Contents) (c p place : ℕ) (a b d : List ℕ) → IsNameOf (copy_number k a) c a
    → IsNameOf (patron_number k b) p b → d ≡ decimal place → 1 ≤ place → place ≤ MOST_PLACES
    → kept_said true k (Some (a, b, d)) ≡ Ok (row.HoldShelf c p place)
kept_again k c p place a b d ha hb hd one few =
    rw (ha.0, hb.0, from_one_again MOST_PLACES place d hd one few (omega arith), ha.1, hb.1) refl

sent_again : (k : Contents) (c p from : ℕ) (a b d : List ℕ) → IsNameOf (copy_number k a) c a
    → IsNameOf (patron_number k b) p b → IsNameOf (branch_number k d) from d
    → sent_said true k (Some (a, b, d)) ≡ Ok (row.HoldTransit c p from)
sent_again k c p from a b d ha hb hd = rw (ha.0, hb.0, hd.0, ha.1, hb.1, hd.1) refl

transit_again : (k : Contents) (c from to : ℕ) (a b d : List ℕ) → IsNameOf (copy_number k a) c a
    → IsNameOf (branch_number k b) from b → IsNameOf (branch_number k d) to d
    → transit_said true k (Some (a, b, d)) ≡ Ok (row.Transit c from to)
transit_again k c from to a b d ha hb hd = rw (ha.0, hb.0, hd.0, ha.1, hb.1, hd.1) refl

-- what a hold admits
kind_again : (k : Contents) (kind : HoldKind) (a c : List ℕ) → IsPieceText k (admits_piece kind) a
    → IsPieceText k (copy_piece kind) c → (is_kind a c ≡ true) × (kind_of k a c ≡ Some kind)
kind_again k Any a c ha hc = rw (ha, hc) (refl, refl)
kind_again k AtBranch a c ha hc = rw (ha, hc) (refl, refl)
kind_again k (One copy) a c ha hc = rw (ha, hc.0, hc.1) (refl, refl)

-- its last day
expiry_again : (k : Contents) (expiry : Option ℕ) (text : List ℕ) → IsPieceText k (day_piece expiry) text
    → expiry_written text ≡ Some expiry
expiry_again k None text h = rw h refl
expiry_again k (Some day) text h =
    let some : (length text == 0) ≡ false = grind (arith, nat_tests, day_long day text h) in
    rw (some, day_read day text h) refl

hold_again : (k : Contents) (last t : ℕ) (h : Hold) (v : HoldValues)
    → IsNameOf (title_number k v.title) t v.title → IsNameOf (patron_number k v.patron) h.patron v.patron
    → v.stamp ≡ decimal h.stamp → IsPieceText k (admits_piece h.kind) v.admits
    → IsPieceText k (copy_piece h.kind) v.copy → IsNameOf (branch_number k v.pickup) h.pickup v.pickup
    → IsPieceText k (day_piece h.expiry) v.expiry → 1 ≤ h.stamp → h.stamp ≤ last → h.copy ≡ None
    → last ≤ MOST_GIVEN → hold_said true k last (Some v) ≡ Ok (row.Hold t h)
hold_again k last t h v ht hp hs ha hc hb he one most none few =
    let kind = kind_again k h.kind v.admits v.copy ha hc in
    rw (
      ht.0,
      hp.0,
      kind.0,
      hb.0,
      from_one_again last h.stamp v.stamp hs one most few,
      expiry_again k h.expiry v.expiry he,
      ht.1,
      hp.1,
      kind.1,
      hb.1,
    ) (ap (λ c. Ok (row.Hold t (record h { copy = c }))) (sym none))

-- the letter of a row
letter_plain : (r : OpeningRow) → (list_all is_plain (row_letter r) ≡ true) × (length (row_letter r) ≡ 1)
letter_plain (row.Loan c l) = (refl, refl)
letter_plain (row.OpenShelf c b) = (refl, refl)
letter_plain (row.Hold t h) = (refl, refl)
letter_plain (row.HoldShelf c p place) = (refl, refl)
letter_plain (row.HoldTransit c p from) = (refl, refl)
letter_plain (row.Transit c from to) = (refl, refl)

kind_small : (kind : HoldKind) → IsSmall (admits_piece kind) × IsSmall (copy_piece kind)
kind_small Any = (tt, tt)
kind_small AtBranch = (tt, tt)
kind_small (One copy) = (tt, tt)

day_small : (expiry : Option ℕ) → IsSmall (day_piece expiry)
day_small None = tt
day_small (Some day) = tt

-- a row within its limits has numbers that are read, and few values
row_small : (last : ℕ) (r : OpeningRow) → IsInLimits last r → last ≤ MOST_GIVEN
    → AreSmall (row_pieces r) × (length (row_pieces r) ≤ 7)
row_small last (row.Loan c l) h few = ((tt, (tt, (tt, (omega (arith, h), tt)))), omega arith)
row_small last (row.OpenShelf c b) h few = ((tt, (tt, tt)), omega arith)
row_small last (row.Hold t g) h few =
    let kind = kind_small g.kind in
    ((tt, (tt, (omega (arith, h.1, few), (kind.0, (kind.1, (tt, (day_small g.expiry, tt))))))), omega arith)
row_small last (row.HoldShelf c p place) h few = ((tt, (tt, (omega (arith, h.1), tt))), omega arith)
row_small last (row.HoldTransit c p from) h few = ((tt, (tt, (tt, tt))), omega arith)
row_small last (row.Transit c from to) h few = ((tt, (tt, (tt, tt))), omega arith)

-- what the values say
row_values : (k : Contents) (last : ℕ) (r : OpeningRow) (texts : List (List ℕ))
    → ArePieceTexts k (row_pieces r) texts → IsInLimits last r → last ≤ MOST_GIVEN
    → values_said true k last (row_letter r ∷ texts) ≡ Ok r
row_values k last (row.Loan c l) texts
    (a, m, ha, (b, n, hb, (d, o, hd, (e, p, he, hp, ep), eo), en), em) h few =
    rw (em, en, eo, ep, hp) (loan_again k c l a b d e ha hb hd he h)
row_values k last (row.OpenShelf c b) texts (a, m, ha, (d, n, hd, hn, en), em) h few =
    rw (em, en, hn) (shelf_again k c b a d ha hd)
row_values k last (row.Hold t g) texts (
  a,
  m0,
  ha,
  (b, m1, hb, (s, m2, hs, (d, m3, hd, (c, m4, hc, (p, m5, hp, (e, m6, he, hn, e6), e5), e4), e3), e2), e1),
  e0,
) h few =
    rw (e0, e1, e2, e3, e4, e5, e6, hn)
    (hold_again k last t g
    (record { title = a; patron = b; stamp = s; admits = d; copy = c; pickup = p; expiry = e }) ha hb hs
    hd hc hp he h.0
    h.1 h.2 few)
row_values k last (row.HoldShelf c p place) texts (a, m, ha, (b, n, hb, (d, o, hd, ho, eo), en), em) h few =
    rw (em, en, eo, ho) (kept_again k c p place a b d ha hb hd h.0 h.1)
row_values k last (row.HoldTransit c p from) texts (a, m, ha, (b, n, hb, (d, o, hd, ho, eo), en), em) h few =
    rw (em, en, eo, ho) (sent_again k c p from a b d ha hb hd)
row_values k last (row.Transit c from to) texts (a, m, ha, (b, n, hb, (d, o, hd, ho, eo), en), em) h few =
    rw (em, en, eo, ho) (transit_again k c from to a b d ha hb hd)

-- The line of a row is its letter and more, has no end of a line within, and says that row.
pub record IsAgain (k : Contents) (last : ℕ) (r : OpeningRow) (line : List ℕ) : Type 0 where
  pub first : ℕ
  pub rest : List ℕ
  pub whole : line ≡ first ∷ rest
  pub full : list_all is_full line ≡ true
  pub said : row_said k last line ≡ Ok r

letter_cons : (letter rest : List ℕ) → length letter ≡ 1 → (first : ℕ) × (letter ++ rest ≡ first ∷ rest)
letter_cons [] rest h = absurd (omega arith)
letter_cons (x ∷ []) rest h = (x, refl)
letter_cons (x ∷ y ∷ more) rest h = absurd (omega arith)

pub line_again : (k : Contents) (last : ℕ) (r : OpeningRow) (line : List ℕ) → IsLine k r line
    → IsInLimits last r → last ≤ MOST_GIVEN → IsAgain k last r line
unfolding row_said
line_again k last r line (texts, are, is) h few =
    let small = row_small last r h few in
    let clean = pieces_clean k (row_pieces r) texts are small.0 in
    let letter = letter_plain r in
    let cons = letter_cons (row_letter r) (behind_bars texts) letter.1 in
    let size : length (row_letter r ++ behind_bars texts) ≤ 1024 =
    omega (
      arith,
      length-append (row_letter r) (behind_bars texts),
      letter.1,
      bars_short texts clean.0,
      clean.1,
      small.1,
    ) in
    let short : is_long (row_letter r ++ behind_bars texts) ≡ false = grind (arith, nat_tests, size) in
    record {
      first = cons.0;
      rest = behind_bars texts;
      whole = is ∙ cons.1;
      full = rw (
        is,
        list_all-append is_full (row_letter r) (behind_bars texts),
        weaker is_plain is_full plain_full (row_letter r) letter.0,
        bars_full texts clean.0,
      ) refl;
      said = rw (is, short, values_again (row_letter r) texts letter.0 clean.0)
          (row_values k last r texts are h few);
    }

-- the lines of rows say them
pub rows_again : (k : Contents) (last : ℕ) (rows : List OpeningRow) (text : List ℕ) → AreLines k rows text
    → All (IsInLimits last) rows → last ≤ MOST_GIVEN → SayRows k last (lines text) rows
rows_again k last [] text h fits few = subst (λ (t : List ℕ). SayRows k last (lines t) []) (sym h) refl
rows_again k last (r ∷ rows) text (line, more, is, are, whole) fits few =
    let again = line_again k last r line is (fits 0 r (omega arith)) few in
    let rest = rows_again k last rows more are (λ i d l. fits (suc i) d (omega (arith, l))) few in
    let first : lines text ≡ line ∷ lines more =
    ap lines (whole ∙ ap (λ l. l ++ 10 ∷ more) again.whole)
    ∙ lines_again again.first again.rest more (subst (λ l. list_all is_full l ≡ true) again.whole again.full)
    ∙ ap (λ l. l ∷ lines more) (sym again.whole) in
    ap (map (row_said k last)) first ∙ ap (λ r. r ∷ map (row_said k last) (lines more)) again.said
    ∙ ap (λ rs. Ok r ∷ rs) rest
