-- What a file tells lies within its limits.
use Rattle.std.proofs.Common.{◌≡◌, ℕ, ◌≤◌, Bool, true, false, List, [], ◌∷◌, map, codes, All, Option, None}
use Rattle.std.proofs.Common.{Some, Result, Ok, Err, refl, sym, ap, subst, arith}
use Rattle.std.specs.Prelude.{◌==◌, ◌&&◌, bytes_eq, if◌then◌else◌, nat_le, option_map}
use Rattle.std.specs.Option.{ok_or, option_zip}
use Rattle.std.proofs.lemmas.Bool.{and_parts}
use Rattle.std.proofs.lemmas.Bool.Decides.{nat_tests}
use Rattle.std.proofs.lemmas.List.Elements.{All-cons, All-nil}
use Rattle.std.proofs.lemmas.Option.{none-some, same_Some}
use Rattle.hex.specs.Hex.{encode_lower}
use Rattle.hd_rules.specs.declared.rows.OpeningRow.TheVariants as row
use Rattle.hd_rules.specs.declared.limits.TheConstants.{MOST_RENEWALS, MOST_GIVEN}
use Rattle.hd_rules.specs.declared.rows.OpeningRow.{OpeningRow}
use Rattle.hd_rules.specs.declared.holds.HoldKind.{HoldKind}
use Rattle.hd_catalogue.specs.Contents.{Contents, OpeningRows}
use Rattle.hd_catalogue.specs.Text.{as_four, as_three, as_two, is_decimal, number_to, number_written}
use Rattle.hd_catalogue.specs.Text.{values_of}
use Rattle.hd_lemmas.proofs.Lists.{head_same, tail_same}
use Rattle.hd_lemmas.proofs.Options.{some_if}
use Rattle.hd_opening.specs.Files.{AreInLimits, Tells}
use Rattle.hd_opening.specs.Limits.{IsInLimits}
use Rattle.hd_opening.specs.Lines.{HoldValues, as_hold, first_said, first_values_said, from_one, heading_said}
use Rattle.hd_opening.specs.Lines.{hold_names, hold_said, is_digest, kept_said, last_said, loan_said, named}
use Rattle.hd_opening.specs.Lines.{row_said, said, sent_said, shelf_said, transit_said, values_said}
use Rattle.hd_opening.specs.declared.limits.TheConstants.{MOST_PLACES}
use Rattle.hd_opening.specs.declared.cause.OpeningCause.{OpeningCause}
use Rattle.hd_opening.specs.declared.cause.OpeningCause.TheVariants.{Header, Kind, Other, Unknown}

-- an empty list is none with an element
pub nil_cons : {A : Type 0} {x : A} {xs : List A} → [] ≡ x ∷ xs → ⊥
nil_cons e = cc

bad : {A : Type 0} {x : A} {e : OpeningCause} → Err e ≡ Ok x → ⊥
bad h = cc

-- a value that was read
abbrev pub fine : {A : Type 0} → A → Result A OpeningCause
fine x = Ok x

-- equal ones have equal values
pub ok_same : {A : Type 0} {x y : A} → fine x ≡ fine y → x ≡ y
ok_same e = cc

-- of two ways one was gone
if_in : {A P : Type 0} (t : Bool) (x y : Result A OpeningCause) (r : A) → (x ≡ Ok r → P) → (y ≡ Ok r → P)
    → (if t then x else y) ≡ Ok r → P
if_in true x y r f g h = f h
if_in false x y r f g h = g h

ok_or_in : (o : Option OpeningRow) (r : OpeningRow) → ok_or o Unknown ≡ Ok r → o ≡ Some r
ok_or_in None r h = absurd (bad h)
ok_or_in (Some x) r h = ap Some (ok_same h)

said_in : {N : Type 0} (t : Bool) (n : Option N) (f : N → Option OpeningRow) (r : OpeningRow)
    → said t n f ≡ Ok r → (m : N) × (n ≡ Some m) × (f m ≡ Some r)
said_in false n f r h = absurd (bad h)
said_in true None f r h = absurd (bad h)
said_in true (Some m) f r h = (m, refl, ok_or_in (f m) r h)

named_in : (t : Bool) (o : Option OpeningRow) (r : OpeningRow) → named t o ≡ Ok r → o ≡ Some r
named_in false o r h = absurd (bad h)
named_in true o r h = ok_or_in o r h

map_in : {W : Type 0} (g : W → OpeningRow) (o : Option W) (r : OpeningRow) → option_map g o ≡ Some r
    → (w : W) × (g w ≡ r)
map_in g None r h = absurd (none-some r h)
map_in g (Some w) r h = (w, same_Some _ _ h)

zip_in : {A B : Type 0} (a : Option A) (b : Option B) (m : A × B) → option_zip a b ≡ Some m
    → (a ≡ Some m.0) × (b ≡ Some m.1)
zip_in None b m h = absurd (none-some m h)
zip_in (Some x) None m h = absurd (none-some m h)
zip_in (Some x) (Some y) m h =
    subst (λ p. (Some x ≡ Some p.0) × (Some y ≡ Some p.1)) (same_Some _ _ h) (refl, refl)

number_in : (most : ℕ) (text : List ℕ) (n : ℕ) → number_to most text ≡ Some n → n ≤ most
number_in most text n h =
    let parts =
    some_if (is_decimal text && nat_le (number_written text) most) (Some (number_written text)) n h in
    let test = (and_parts (is_decimal text) (nat_le (number_written text) most) parts.0).1 in
    let same : number_written text ≡ n = same_Some _ _ parts.1 in
    grind (arith, nat_tests, test, same)

positive : (t : Bool) (m n : ℕ) → (m == 0) ≡ t → (if t then None else Some m) ≡ Some n → (m ≡ n) × (1 ≤ n)
positive true m n is h = absurd (none-some n h)
positive false m n is h =
    let same : m ≡ n = same_Some _ _ h in
    (same, grind (arith, nat_tests, is, same))

from_one_in : (o : Option ℕ) (n : ℕ) → from_one o ≡ Some n → (o ≡ Some n) × (1 ≤ n)
from_one_in None n h = absurd (none-some n h)
from_one_in (Some m) n h =
    let both = positive (m == 0) m n refl h in
    (ap Some both.0, both.1)

module _ (k : Contents) (last : ℕ) (short : Bool) (r : OpeningRow) where
  loan_in : (v : Option (List ℕ × List ℕ × List ℕ × List ℕ)) → loan_said short k v ≡ Ok r → IsInLimits last r
  loan_in None h = absurd (bad h)
  loan_in (Some (a, b, d, e)) h =
      let s = said_in _ _ _ r h in
      let both = zip_in _ _ s.0 s.1 in
      let m = map_in _ _ r s.2 in
      subst (IsInLimits last) m.1 (number_in MOST_RENEWALS e s.0.1 both.1)

  shelf_in : (v : Option (List ℕ × List ℕ)) → shelf_said short k v ≡ Ok r → IsInLimits last r
  shelf_in None h = absurd (bad h)
  shelf_in (Some (a, b)) h = let m = map_in _ _ r (named_in _ _ r h) in subst (IsInLimits last) m.1 tt

  sent_in : (v : Option (List ℕ × List ℕ × List ℕ)) → sent_said short k v ≡ Ok r → IsInLimits last r
  sent_in None h = absurd (bad h)
  sent_in (Some (a, b, d)) h = let m = map_in _ _ r (named_in _ _ r h) in subst (IsInLimits last) m.1 tt

  transit_in : (v : Option (List ℕ × List ℕ × List ℕ)) → transit_said short k v ≡ Ok r → IsInLimits last r
  transit_in None h = absurd (bad h)
  transit_in (Some (a, b, d)) h = let m = map_in _ _ r (named_in _ _ r h) in subst (IsInLimits last) m.1 tt

  kept_in : (v : Option (List ℕ × List ℕ × List ℕ)) → kept_said short k v ≡ Ok r → IsInLimits last r
  kept_in None h = absurd (bad h)
  kept_in (Some (a, b, d)) h =
      let s = said_in _ _ _ r h in
      let one = from_one_in _ s.0 s.1 in
      let m = map_in _ _ r s.2 in
      let fits : (1 ≤ s.0) × (s.0 ≤ MOST_PLACES) = (one.1, number_in MOST_PLACES d s.0 one.0) in
      subst (IsInLimits last) m.1 fits

  hold_in : (v : Option HoldValues) → hold_said short k last v ≡ Ok r → IsInLimits last r
  hold_in None h = absurd (bad h)
  hold_in (Some v) h =
      let s = said_in _ _ _ r h in
      let both = zip_in _ _ s.0 s.1 in
      let one = from_one_in _ s.0.0 both.0 in
      let told = λ (w : (ℕ × ℕ) × (HoldKind × ℕ)). row.Hold w.0.0 (record {
        patron = w.0.1;
        stamp = s.0.0;
        kind = w.1.0;
        pickup = w.1.1;
        expiry = s.0.1;
        copy = None;
      }) in
      let m = map_in told (hold_names k v) r s.2 in
      let fits : IsInLimits last (told m.0) = (one.1, number_in last v.stamp s.0.0 one.0, refl) in
      subst (IsInLimits last) m.1 fits

  values_in : (values : List (List ℕ)) → values_said short k last values ≡ Ok r → IsInLimits last r
  values_in [] h = absurd (bad h)
  values_in (kind ∷ values) h =
      let transit = if_in (bytes_eq kind (codes "U")) (transit_said short k (as_three values)) (Err Kind) r
      (transit_in (as_three values))
      (λ e. absurd (bad e)) in
      let sent = if_in (bytes_eq kind (codes "W")) (sent_said short k (as_three values)) _ r
      (sent_in (as_three values)) transit in
      let kept = if_in (bytes_eq kind (codes "K")) (kept_said short k (as_three values)) _ r
      (kept_in (as_three values)) sent in
      let hold = if_in (bytes_eq kind (codes "R")) (hold_said short k last (as_hold values)) _ r
      (hold_in (as_hold values)) kept in
      let shelf = if_in (bytes_eq kind (codes "O")) (shelf_said short k (as_two values)) _ r
      (shelf_in (as_two values)) hold in
      if_in (bytes_eq kind (codes "L")) (loan_said short k (as_four values)) _ r
      (loan_in (as_four values)) shelf h

row_in : (k : Contents) (last : ℕ) (line : List ℕ) (r : OpeningRow) → row_said k last line ≡ Ok r
    → IsInLimits last r
unfolding row_said
row_in k last line r h = values_in k last _ r (values_of line) h

rows_in : (k : Contents) (last : ℕ) (lines : List (List ℕ)) (rows : List OpeningRow)
    → map (row_said k last) lines ≡ map Ok rows → All (IsInLimits last) rows
rows_in k last [] [] e = All-nil (IsInLimits last)
rows_in k last [] (r ∷ rows) e = absurd (nil_cons e)
rows_in k last (line ∷ lines) [] e = absurd (nil_cons (sym e))
rows_in k last (line ∷ lines) (r ∷ rows) e =
    All-cons (IsInLimits last) r rows (row_in k last line r (head_same e))
    (rows_in k last lines rows (tail_same e))

last_in : (t : Bool) (digest : List ℕ) (n : Option ℕ) (own : List ℕ) (last : ℕ)
    → last_said t digest n own ≡ Ok last → n ≡ Some last
last_in false digest n own last h = absurd (bad h)
last_in true digest None own last h = absurd (bad h)
last_in true digest (Some m) own last h =
    if_in (bytes_eq own (encode_lower digest)) (Ok m) (Err Other) last (λ e. ap Some (ok_same e))
    (λ e. absurd (bad e)) h

heading_in : (short : Bool) (digest : List ℕ) (v : Option (List ℕ × List ℕ × List ℕ × List ℕ)) (last : ℕ)
    → heading_said short digest v ≡ Ok last → last ≤ MOST_GIVEN
heading_in short digest None last h = absurd (bad h)
heading_in short digest (Some (name, version, text, own)) last h =
    let fits = short && is_digest own in
    if_in (bytes_eq name (codes "opening") && bytes_eq version (codes "1"))
    (last_said fits digest (number_to MOST_GIVEN text) own) (Err Header)
    last (λ e. number_in MOST_GIVEN text last (last_in fits digest (number_to MOST_GIVEN text) own last e))
    (λ e. absurd (bad e)) h

first_in : (short : Bool) (digest : List ℕ) (values : List (List ℕ)) (last : ℕ)
    → first_values_said short digest values ≡ Ok last → last ≤ MOST_GIVEN
first_in short digest [] last h = absurd (bad h)
first_in short digest (kind ∷ values) last h =
    if_in (bytes_eq kind (codes "H")) (heading_said short digest (as_four values)) (Err Header) last
    (heading_in short digest (as_four values) last)
    (λ e. absurd (bad e)) h

pub told_in : (k : Contents) (digest : List ℕ) (all : List (List ℕ)) (told : OpeningRows)
    → Tells k digest all told → AreInLimits told
unfolding first_said
told_in k digest all told t =
    (first_in _ digest (values_of t.first) told.last t.last, rows_in k told.last t.more told.rows t.rows)
