-- Streams that are cut in two, and bytes among which no line ends.
use Rattle.std.proofs.Common.{◌≡◌, ◌==◌, ◌≤◌, ℕ, zero, suc, ◌+◌, ◌-◌, Bool, true, false, List, [], ◌∷◌, ◌++◌}
use Rattle.std.proofs.Common.{length, take, nat_lt, refl}
use Rattle.std.proofs.Common.{ap, sym, ◌∙◌, append_assoc, append-nil, if◌then◌else◌, arith, Contains}
use Rattle.std.proofs.Common.{zero-lt-suc, length-append, eqb-true}
use Rattle.std.proofs.Common.{ap₂, true≢false, ◌<◌}
use Rattle.std.proofs.lemmas.List.{take_all}
use Rattle.std.proofs.lemmas.List.Elements.{Contains-append_right}
use Rattle.std.proofs.lemmas.Bool.Decides.{nat_tests}
use Rattle.hd_field.specs.Streams.{Begun, begun_after, after_return, lines_in, with_byte, without_feeds}

abbrev pub begun_so : Bool → List ℕ → Bool → Begun
begun_so fresh text too_long = record { fresh = fresh; text = text; too_long = too_long }

-- nothing is heard after a line that is too long
pub no_lines_after : (fresh : Bool) (text bytes : List ℕ) → lines_in (begun_so fresh text true) bytes ≡ []
no_lines_after fresh text [] = refl
no_lines_after fresh text (byte ∷ bytes) = refl

pub nothing_after : (fresh : Bool) (text bytes : List ℕ)
    → begun_after (begun_so fresh text true) bytes ≡ begun_so fresh text true
nothing_after fresh text [] = refl
nothing_after fresh text (byte ∷ bytes) = refl

-- the lines of a text that is cut in two
pub lines_append : (fresh : Bool) (text : List ℕ) (too_long : Bool) (xs ys : List ℕ)
    → lines_in (begun_so fresh text too_long) (xs ++ ys) ≡ lines_in (begun_so fresh text too_long) xs
    ++ lines_in (begun_after (begun_so fresh text too_long) xs) ys
lines_append fresh text too_long [] ys = refl
lines_append fresh text true (byte ∷ bytes) ys = sym (no_lines_after fresh text ys)
lines_append fresh text false (byte ∷ bytes) ys =
    let next = with_byte (begun_so fresh text false) byte in
    elim (byte == 13) as
    (λ t. (if t then text ∷ lines_in after_return (bytes ++ ys) else lines_in next (bytes ++ ys))
    ≡ (if t then text ∷ lines_in after_return bytes else lines_in next bytes)
    ++ lines_in (if t then begun_after after_return bytes
    else begun_after next bytes) ys) [
      | true ↦ ap (λ (lines : List (List ℕ)). text ∷ lines) (lines_append true [] false bytes ys)
      | false ↦ lines_append next.fresh next.text next.too_long bytes ys
    ]

-- what has come after it
pub after_append : (fresh : Bool) (text : List ℕ) (too_long : Bool) (xs ys : List ℕ) → begun_after
    (begun_so fresh text too_long) (xs ++ ys) ≡ begun_after (begun_after (begun_so fresh text too_long) xs) ys
after_append fresh text too_long [] ys = refl
after_append fresh text true (byte ∷ bytes) ys = sym (nothing_after fresh text ys)
after_append fresh text false (byte ∷ bytes) ys =
    let next = with_byte (begun_so fresh text false) byte in
    elim (byte == 13) as
    (λ t. (if t then begun_after after_return (bytes ++ ys) else begun_after next (bytes ++ ys))
    ≡ begun_after (if t then begun_after after_return bytes
    else begun_after next bytes) ys) [
      | true ↦ after_append true [] false bytes ys
      | false ↦ after_append next.fresh next.text next.too_long bytes ys
    ]

-- no carriage return comes first, and none later
pub other_first : (byte : ℕ) (bytes : List ℕ) → (Contains (byte ∷ bytes) 13 → ⊥) → (byte == 13) ≡ false
other_first byte bytes none =
    elim (byte == 13) as (λ t. (byte == 13) ≡ t → t ≡ false) [
      | true ↦ λ is. absurd (none (zero, zero-lt-suc _, eqb-true byte 13 is))
      | false ↦ λ is. refl
    ] refl

pub none_later : (byte : ℕ) (bytes : List ℕ) → (Contains (byte ∷ bytes) 13 → ⊥) → Contains bytes 13 → ⊥
none_later byte bytes none c = none (Contains-append_right (byte ∷ []) bytes 13 c)

-- no line ends where no carriage return comes
pub no_line_ends : (fresh : Bool) (text : List ℕ) (too_long : Bool) (bytes : List ℕ) → (Contains bytes 13 → ⊥)
    → lines_in (begun_so fresh text too_long) bytes ≡ []
no_line_ends fresh text too_long [] none = refl
no_line_ends fresh text true (byte ∷ bytes) none = refl
no_line_ends fresh text false (byte ∷ bytes) none =
    let next = with_byte (begun_so fresh text false) byte in
    rw (other_first byte bytes none)
    (no_line_ends next.fresh next.text next.too_long bytes (none_later byte bytes none))

-- a line that has begun goes on, up to 1,024 bytes
pub goes_on : (room : ℕ) (text bytes : List ℕ) → length text + room ≡ 1024
    → (Contains bytes 13 → ⊥) → begun_after (begun_so false text false) bytes
    ≡ begun_so false (text ++ take room bytes) (nat_lt room (length bytes))
goes_on zero text [] fits none =
    let whole : nat_lt zero (length {A = ℕ} []) ≡ false = grind (arith, nat_tests) in
    rw (whole) (ap (λ (t : List ℕ). begun_so false t false) (sym (append-nil text)))
goes_on (suc room) text [] fits none =
    let whole : nat_lt (suc room) (length {A = ℕ} []) ≡ false = grind (arith, nat_tests) in
    rw (whole) (ap (λ (t : List ℕ). begun_so false t false) (sym (append-nil text)))
goes_on zero text (byte ∷ bytes) fits none =
    let full : nat_lt (length text) 1024 ≡ false = grind (arith, nat_tests) in
    let more : nat_lt 0 (length (byte ∷ bytes)) ≡ true = grind (arith, nat_tests) in
    rw (
      other_first byte bytes none,
      full,
      nothing_after false text bytes,
      more,
    ) (ap (λ (t : List ℕ). begun_so false t true) (sym (append-nil text)))
goes_on (suc room) text (byte ∷ bytes) fits none =
    let some : nat_lt (length text) 1024 ≡ true = grind (arith, nat_tests) in
    let longer : length (text ++ byte ∷ []) + room ≡ 1024 =
    rw (length-append text (byte ∷ [])) (omega arith) in
    let same : nat_lt (suc room) (length (byte ∷ bytes)) ≡ nat_lt room (length bytes) =
    grind (arith, nat_tests) in
    rw (other_first byte bytes none, some, same)
    (goes_on room (text ++ byte ∷ []) bytes longer (none_later byte bytes none)
    ∙ ap (λ (t : List ℕ). begun_so false t (nat_lt room (length bytes)))
    (append_assoc text (byte ∷ []) (take room bytes)))

-- no carriage return comes behind line feeds either
pub none_behind_feeds : (bytes : List ℕ) → (Contains bytes 13 → ⊥) → Contains (without_feeds bytes) 13 → ⊥
none_behind_feeds [] none = none
none_behind_feeds (byte ∷ bytes) none =
    elim (byte == 10) as (λ t. Contains (if t then without_feeds bytes else byte ∷ bytes) 13 → ⊥) [
      | true ↦ none_behind_feeds bytes (none_later byte bytes none)
      | false ↦ none
    ]

-- behind a carriage return, line feeds alone leave the line as it is
pub feeds_alone : (text bytes : List ℕ) → (Contains bytes 13 → ⊥) → (length (without_feeds bytes) == 0) ≡ true
    → begun_after (begun_so true text false) bytes ≡ begun_so true text false
feeds_alone text [] none alone = refl
feeds_alone text (byte ∷ bytes) none alone =
    elim (byte == 10) as
    (λ t. (byte == 10) ≡ t → (length (if t then without_feeds bytes else byte ∷ bytes) == 0) ≡ true
    → begun_after (begun_so true text false) (byte ∷ bytes) ≡ begun_so true text false) [
      | true ↦ λ feed is. rw (other_first byte bytes none, feed)
          (feeds_alone text bytes (none_later byte bytes none) is)
      | false ↦ λ feed is. let none : suc (length bytes) ≡ 0 = eqb-true _ _ is in absurd (omega (arith, none))
    ] refl alone

-- and before others they are passed over
pub feeds_passed : (text bytes : List ℕ) → (Contains bytes 13 → ⊥)
    → (length (without_feeds bytes) == 0) ≡ false → begun_after (begun_so true text false) bytes
    ≡ begun_after (begun_so false text false) (without_feeds bytes)
feeds_passed text [] none some = absurd (true≢false some)
feeds_passed text (byte ∷ bytes) none some =
    elim (byte == 10) as
    (λ t. (byte == 10) ≡ t → (length (if t then without_feeds bytes else byte ∷ bytes) == 0) ≡ false
    → begun_after (begun_so true text false) (byte ∷ bytes)
    ≡ begun_after (begun_so false text false) (if t then without_feeds bytes
    else byte ∷ bytes)) [
      | true ↦ λ feed others. rw (other_first byte bytes none, feed)
          (feeds_passed text bytes (none_later byte bytes none) others)
      | false ↦ λ feed others. rw (feed) refl
    ] refl some

-- a line goes on with all of the bytes where they fit
pub fits_whole : (begun : Begun) (bytes text : List ℕ) → begun.fresh ≡ false → begun.too_long ≡ false
    → length begun.text ≤ 1024 → (Contains bytes 13 → ⊥) → length bytes ≤ 1024 - length begun.text
    → text ≡ begun.text ++ bytes → begun_so begun.fresh text begun.too_long ≡ begun_after begun bytes
fits_whole begun bytes text fresh short within none fits longer =
    let room = 1024 - length begun.text in
    let same : begun ≡ begun_so false begun.text false =
    ap₂ (λ (f l : Bool). begun_so f begun.text l) fresh short in
    let over : nat_lt room (length bytes) ≡ false = grind (arith, nat_tests) in
    let new : begun_after begun bytes ≡ begun_so false (begun.text ++ bytes) false =
    ap (λ (b : Begun). begun_after b bytes) same
    ∙ (goes_on room begun.text bytes (omega arith) none
    ∙ ap₂ (λ (t : List ℕ) (l : Bool). begun_so false (begun.text ++ t) l) (take_all room bytes fits) over) in
    ap₂ (λ (f l : Bool). begun_so f text l) fresh short
    ∙ (ap (λ (t : List ℕ). begun_so false t false) longer ∙ sym new)

-- and with the first of them where they don't
pub fits_first : (begun : Begun) (bytes text : List ℕ) → begun.fresh ≡ false
    → begun.too_long ≡ false → length begun.text ≤ 1024 → (Contains bytes 13 → ⊥)
    → 1024 - length begun.text < length bytes → text ≡ begun.text ++ take (1024 - length begun.text) bytes
    → begun_so begun.fresh text true ≡ begun_after begun bytes
fits_first begun bytes text fresh short within none more longer =
    let room = 1024 - length begun.text in
    let same : begun ≡ begun_so false begun.text false =
    ap₂ (λ (f l : Bool). begun_so f begun.text l) fresh short in
    let over : nat_lt room (length bytes) ≡ true = grind (arith, nat_tests) in
    let new : begun_after begun bytes ≡ begun_so false (begun.text ++ take room bytes) true =
    ap (λ (b : Begun). begun_after b bytes) same
    ∙ (goes_on room begun.text bytes (omega arith) none
    ∙ ap (λ (l : Bool). begun_so false (begun.text ++ take room bytes) l) over) in
    ap₂ (λ (f : Bool) (t : List ℕ). begun_so f t true) fresh longer ∙ sym new

-- behind a carriage return
pub behind_return : (begun : Begun) → begun.fresh ≡ true → begun.too_long ≡ false
    → begun ≡ begun_so true begun.text false
behind_return begun fresh short = ap₂ (λ (f l : Bool). begun_so f begun.text l) fresh short

-- nothing is heard of a stream whose line is too long
pub nothing_heard : (begun : Begun) (bytes : List ℕ) → begun.too_long ≡ true
    → (lines_in begun bytes ≡ []) × (begun ≡ begun_after begun bytes)
nothing_heard begun bytes long =
    let same : begun ≡ begun_so begun.fresh begun.text true =
    ap (λ (l : Bool). begun_so begun.fresh begun.text l) long in (
      ap (λ (b : Begun). lines_in b bytes) same ∙ no_lines_after begun.fresh begun.text bytes,
      same
          ∙ sym (ap (λ (b : Begun). begun_after b bytes) same ∙ nothing_after begun.fresh begun.text bytes),
    )

-- a line ends where a carriage return comes and it isn't too long
pub line_ends : (begun next : Begun) (bytes front rest : List ℕ) → bytes ≡ front ++ 13 ∷ rest
    → (Contains front 13 → ⊥) → next ≡ begun_after begun front → next.too_long ≡ false
    → (lines_in begun bytes ≡ next.text ∷ lines_in after_return rest)
    × (begun_after begun bytes ≡ begun_after after_return rest)
line_ends begun next bytes front rest split none is short =
    let here : next ≡ begun_so next.fresh next.text false =
    ap (λ (l : Bool). begun_so next.fresh next.text l) short in (
      ap (lines_in begun) split
          ∙ (lines_append begun.fresh begun.text begun.too_long front (13 ∷ rest)
          ∙ rw (no_line_ends begun.fresh begun.text begun.too_long front none, ← is, here) refl),
      ap (begun_after begun) split
          ∙ (after_append begun.fresh begun.text begun.too_long front (13 ∷ rest) ∙ rw (← is, here) refl),
    )

-- and none where it has grown too long before
pub line_breaks : (begun next : Begun) (bytes front rest : List ℕ) → bytes ≡ front ++ 13 ∷ rest
    → (Contains front 13 → ⊥) → next ≡ begun_after begun front → next.too_long ≡ true
    → (lines_in begun bytes ≡ []) × (next ≡ begun_after begun bytes)
line_breaks begun next bytes front rest split none is long =
    let dead = nothing_heard next (13 ∷ rest) long in (
      ap (lines_in begun) split
          ∙ (lines_append begun.fresh begun.text begun.too_long front (13 ∷ rest)
          ∙ rw (no_line_ends begun.fresh begun.text begun.too_long front none, ← is) dead.0),
      dead.1 ∙ (ap (λ (b : Begun). begun_after b (13 ∷ rest)) is
          ∙ (sym (after_append begun.fresh begun.text begun.too_long front (13 ∷ rest))
          ∙ sym (ap (begun_after begun) split))),
    )
