-- What isn't told.
use Rattle.std.proofs.Common.{◌≡◌, ◌≤◌, ◌-◌, ◌==◌, ℕ, suc, Bool, true, false, if◌then◌else◌, nat_lt}
use Rattle.std.proofs.Common.{List, [], ◌∷◌, ◌++◌, Contains, length, refl, ap, sym, ◌∙◌, arith, append_assoc}
use Rattle.std.proofs.lemmas.Grind.{common_steps}
use Rattle.std.proofs.lemmas.List.Elements.{Contains-append_right}
use Rattle.hd_log.specs.Masks.{IsBehind, IsKept, MayBegin, InFixedPart, InFirst, BehindBar, BehindShort}
use Rattle.hd_log.specs.Masks.{fixed_part, is_secret, is_short, width_of}
use Rattle.hd_log.specs.Masks.{left_behind, masked, masked_from, next, shown}
use Rattle.hd_log.specs.declared.masking.Place.{Place}
use Rattle.hd_log.specs.declared.masking.Place.TheVariants.{Hidden, Told, Begun, Behind, Searched}

-- where a line is read behind a text, and how many bytes behind that are of the fixed part
abbrev after : Place → ℕ → List ℕ → Place
after place left [] = place
after place left (b ∷ text) =
    after (next place (nat_lt 0 left) b) (left_behind (next place (nat_lt 0 left) b) left) text

abbrev left_after : Place → ℕ → List ℕ → ℕ
left_after place left [] = left
left_after place left (b ∷ text) =
    left_after (next place (nat_lt 0 left) b) (left_behind (next place (nat_lt 0 left) b) left) text

-- places where the two letters of a secret field are seen
abbrev IsOpen : Place → Type 0
IsOpen Hidden = Unit {0}
IsOpen Told = ⊥
IsOpen Begun = Unit {0}
IsOpen (Behind a) = ⊥
IsOpen (Searched a) = Unit {0}

after_append : (place : Place) (left : ℕ) (s t : List ℕ)
    → after place left (s ++ t) ≡ after (after place left s) (left_after place left s) t
after_append place left [] t = refl
after_append place left (b ∷ s) t =
    let behind : Place = next place (nat_lt 0 left) b in after_append behind (left_behind behind left) s t

other : (is : Bool) (b : ℕ) (text : List ℕ) → (b == 124) ≡ is → ¬ Contains (b ∷ text) 124 → (b == 124) ≡ false
other false b text is none = is
other true b text is none =
    let same : b ≡ 124 = grind (arith, is) in absurd (none (0, omega arith, same))

none_first : (b : ℕ) (text : List ℕ) → ¬ Contains (b ∷ text) 124 → (b == 124) ≡ false
none_first b text none = other (b == 124) b text refl none

none_rest : (b : ℕ) (text : List ℕ) → ¬ Contains (b ∷ text) 124 → ¬ Contains text 124
none_rest b text none = λ has. none (Contains-append_right (b ∷ []) text 124 has)

-- a value that isn't told
skipped : (left : ℕ) (value rest : List ℕ) → ¬ Contains value 124
    → masked_from Hidden left (value ++ rest) ≡ masked_from Hidden left rest
skipped left [] rest none = refl
skipped left (b ∷ value) rest none =
    rw (none_first b value none) (skipped left value rest (none_rest b value none))

-- letters of a secret field are no bars
letters : (a b : ℕ) → is_secret a b ≡ true → ((a == 124) ≡ false) × ((b == 124) ≡ false)
letters a b secret = (grind (arith, common_steps), grind (arith, common_steps))

hides_searched : (is early late : Bool) (c a b : ℕ) → is_secret c a ≡ is → is_secret a b ≡ true
    → next (next (Searched c) early a) late b ≡ Hidden
hides_searched true early late c a b is secret = rw ((letters a b secret).0, (letters a b secret).1, is) refl
hides_searched false early late c a b is secret =
    rw ((letters a b secret).0, (letters a b secret).1, is, secret) refl

-- behind the two letters of a secret field nothing is told
hides : (place : Place) (early late : Bool) (a b : ℕ) → IsOpen place → is_secret a b ≡ true
    → next (next place early a) late b ≡ Hidden
hides Hidden early late a b held secret = rw ((letters a b secret).0, (letters a b secret).1) refl
hides Told early late a b held secret = absurd held
hides Begun early late a b held secret = rw ((letters a b secret).0, (letters a b secret).1, secret) refl
hides (Behind c) early late a b held secret = absurd held
hides (Searched c) early late a b held secret = hides_searched (is_secret c a) early late c a b refl secret

-- what is told of the letters of a secret field, its value and what is behind
abbrev told_without : Place → ℕ → ℕ → ℕ → List ℕ → List ℕ
told_without place left a b rest =
    let behind : Place = next place (nat_lt 0 left) a in
    shown place a behind ++ (shown behind b Hidden ++ masked_from Hidden (left_behind behind left) rest)

told_so : (place : Place) (left a b : ℕ) (value rest : List ℕ) → IsOpen place → is_secret a b ≡ true
    → ¬ Contains value 124
    → masked_from place left (a ∷ b ∷ (value ++ rest)) ≡ told_without place left a b rest
told_so place left a b value rest held secret none =
    let behind : Place = next place (nat_lt 0 left) a in
    let fewer : ℕ = left_behind behind left in
    ap (λ (p : Place). shown place a behind
    ++ (shown behind b p ++ masked_from p (left_behind p fewer) (value ++ rest)))
    (hides place (nat_lt 0 left) (nat_lt 0 fewer) a b held secret)
    ∙ ap (λ (l : List ℕ). shown place a behind ++ (shown behind b Hidden ++ l)) (skipped fewer value rest none)

-- a text behind another is told as from the place behind that
told_behind : (place : Place) (left : ℕ) (before text : List ℕ)
    → masked_from place left (before ++ text)
    ≡ masked_from place left before ++ masked_from (after place left before) (left_after place left before) text
told_behind place left [] text = refl
told_behind place left (b ∷ before) text =
    let behind : Place = next place (nat_lt 0 left) b in
    let fewer : ℕ = left_behind behind left in
    ap (λ (l : List ℕ). shown place b behind ++ l) (told_behind behind fewer before text)
    ∙ sym (append_assoc (shown place b behind) (masked_from behind fewer before)
    (masked_from (after behind fewer before) (left_after behind fewer before) text))

-- two lines that differ in a value alone
alike : (left : ℕ) (before : List ℕ) (a b : ℕ) (value other rest : List ℕ)
    → IsOpen (after (Searched 0) left before)
    → is_secret a b ≡ true → ¬ Contains value 124 → ¬ Contains other 124
    → masked_from (Searched 0) left (before ++ (a ∷ b ∷ value ++ rest))
    ≡ masked_from (Searched 0) left (before ++ (a ∷ b ∷ other ++ rest))
alike left before a b value other rest held secret none none' =
    let place : Place = after (Searched 0) left before in
    let further : ℕ = left_after (Searched 0) left before in
    told_behind (Searched 0) left before (a ∷ b ∷ (value ++ rest))
    ∙ ap (λ (l : List ℕ). masked_from (Searched 0) left before ++ l)
    (told_so place further a b value rest held secret none
    ∙ sym (told_so place further a b other rest held secret none'))
    ∙ sym (told_behind (Searched 0) left before (a ∷ b ∷ (other ++ rest)))

-- the two bytes by which the fixed part is known stand before a field's value
abbrev known_by : List ℕ → ℕ → ℕ → ℕ
known_by [] a b = width_of a b
known_by (c ∷ []) a b = width_of c a
known_by (c ∷ d ∷ before) a b = width_of c d

part_known : (before : List ℕ) (a b : ℕ) (behind : List ℕ)
    → fixed_part (before ++ (a ∷ b ∷ behind)) ≡ known_by before a b
part_known [] a b behind = refl
part_known (c ∷ []) a b behind = refl
part_known (c ∷ d ∷ before) a b behind = refl

part_of : (before : List ℕ) (a b : ℕ) → length before ≤ fixed_part before → length before ≤ known_by before a b
part_of [] a b fits = omega arith
part_of (c ∷ []) a b fits = omega (arith, fits)
part_of (c ∷ d ∷ before) a b fits = fits

-- where no bar comes, and where a bar is of the fixed part, a place that is open stays so, but where a field has
-- just begun
abbrev IsSearched : Place → Type 0
IsSearched Hidden = Unit {0}
IsSearched Told = ⊥
IsSearched Begun = ⊥
IsSearched (Behind a) = ⊥
IsSearched (Searched a) = Unit {0}

searched_on : (is : Bool) (b : ℕ) → IsSearched (if is then Hidden else Searched b)
searched_on true b = tt
searched_on false b = tt

searched_next : (place : Place) (is_fixed : Bool) (b : ℕ) → IsSearched place → (b == 124) ≡ false
    → IsSearched (next place is_fixed b)
searched_next Hidden is_fixed b searched none = rw none tt
searched_next Told is_fixed b searched none = absurd searched
searched_next Begun is_fixed b searched none = absurd searched
searched_next (Behind a) is_fixed b searched none = absurd searched
searched_next (Searched a) is_fixed b searched none = rw none (searched_on (is_secret a b) b)

searched_all : (place : Place) (left : ℕ) (text : List ℕ) → IsSearched place → ¬ Contains text 124
    → IsSearched (after place left text)
searched_all place left [] searched none = searched
searched_all place left (b ∷ text) searched none =
    let behind : Place = next place (nat_lt 0 left) b in
    searched_all behind (left_behind behind left) text
    (searched_next place (nat_lt 0 left) b searched (none_first b text none)) (none_rest b text none)

-- a byte of the fixed part, a bar or not
searched_fixed : (is_bar : Bool) (place : Place) (b : ℕ) → IsSearched place → (b == 124) ≡ is_bar
    → IsSearched (next place true b)
searched_fixed true place b searched is = rw is tt
searched_fixed false place b searched is = searched_next place true b searched is

enough : (behind : Place) (left many : ℕ) → suc many ≤ left → many ≤ left_behind behind left
enough Hidden left many fits = omega (arith, fits)
enough Told left many fits = omega (arith, fits)
enough Begun left many fits = omega (arith, fits)
enough (Behind a) left many fits = omega (arith, fits)
enough (Searched a) left many fits = omega (arith, fits)

some_left : (left many : ℕ) → suc many ≤ left → nat_lt 0 left ≡ true
some_left left many fits = grind (arith, fits)

searched_in_fixed : (place : Place) (left : ℕ) (text : List ℕ) → IsSearched place → length text ≤ left
    → IsSearched (after place left text)
searched_in_fixed place left [] searched fits = searched
searched_in_fixed place left (b ∷ text) searched fits =
    rw (some_left left (length text) fits)
    (searched_in_fixed (next place true b) (left_behind (next place true b) left) text
    (searched_fixed (b == 124) place b searched refl)
    (enough (next place true b) left (length text) fits))

open_searched : (place : Place) → IsSearched place → IsOpen place
open_searched Hidden searched = tt
open_searched Told searched = searched
open_searched Begun searched = tt
open_searched (Behind a) searched = searched
open_searched (Searched a) searched = tt

-- behind a bar a field may begin
open_behind_bar : (place : Place) (is_fixed : Bool) → IsOpen (next place is_fixed 124)
open_behind_bar place true = tt
open_behind_bar place false = tt

-- where a field of a few bytes begins
short_letters : (a b : ℕ) → is_short a b ≡ true
    → ((a == 124) ≡ false) × ((b == 124) ≡ false) × (is_secret a b ≡ false)
short_letters a b short =
    (grind (arith, common_steps), grind (arith, common_steps), grind (arith, common_steps))

searched_short : (place : Place) (now early late : Bool) (a b : ℕ) → is_short a b ≡ true
    → IsSearched (next (next (next place now 124) early a) late b)
searched_short place true early late a b short =
    let are = short_letters a b short in rw (are.0, are.1, are.2) tt
searched_short place false early late a b short =
    let are = short_letters a b short in rw (are.0, are.1, are.2, short) tt

searched_behind_short : (place : Place) (left a b : ℕ) (between : List ℕ) → is_short a b ≡ true
    → ¬ Contains between 124 → IsSearched (after place left (124 ∷ a ∷ b ∷ between))
searched_behind_short place left a b between short none =
    let bar : Place = next place (nat_lt 0 left) 124 in
    let left-1 : ℕ = left_behind bar left in
    let first : Place = next bar (nat_lt 0 left-1) a in
    let left-2 : ℕ = left_behind first left-1 in
    let second : Place = next first (nat_lt 0 left-2) b in
    searched_all second (left_behind second left-2) between
    (searched_short place (nat_lt 0 left) (nat_lt 0 left-1) (nat_lt 0 left-2) a b short) none

-- a field may begin at these places
open_where : (before : List ℕ) (a b : ℕ) → MayBegin before
    → IsOpen (after (Searched 0) (known_by before a b) before)
open_where before a b (InFixedPart _ fits) =
    open_searched _ (searched_in_fixed (Searched 0) (known_by before a b) before tt (part_of before a b fits))
open_where before a b (InFirst _ none) =
    open_searched _ (searched_all (Searched 0) (known_by before a b) before tt none)
open_where _ a b (BehindBar before) =
    let left : ℕ = known_by (before ++ 124 ∷ []) a b in
    rw (after_append (Searched 0) left before (124 ∷ []))
    (open_behind_bar (after (Searched 0) left before) (nat_lt 0 (left_after (Searched 0) left before)))
open_where _ a b (BehindShort before c d between short none) =
    let left : ℕ = known_by (before ++ 124 ∷ c ∷ d ∷ between) a b in
    rw (after_append (Searched 0) left before (124 ∷ c ∷ d ∷ between))
    (open_searched _ (searched_behind_short (after (Searched 0) left before)
    (left_after (Searched 0) left before) c d between short none))

pub kept : (before rest : List ℕ) (a b : ℕ) → MayBegin before → is_secret a b ≡ true
    → IsBehind rest → IsKept before a b rest
kept before rest a b begins secret behind = record {
  alike = λ value other none none'.
      rw (part_known before a b (value ++ rest), part_known before a b (other ++ rest))
      (alike (known_by before a b) before a b value other rest (open_where before a b begins) secret none none');
}
