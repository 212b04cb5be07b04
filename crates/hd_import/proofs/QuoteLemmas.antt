-- Quotes that aren't closed.
use Rattle.std.proofs.Common.{◌≡◌, ℕ, ◌+◌, ◌<◌, ◌≤◌, Bool, true, false, List, [], ◌∷◌, refl, ap, ◌∙◌, drop}
use Rattle.std.proofs.Common.{arith, get_or, length}
use Rattle.std.specs.Prelude.{◌||◌}
use Rattle.std.proofs.lemmas.List.{at_drop_all, at_drop_more}
use Rattle.csv.specs.Machine.{step}
use Rattle.csv.specs.Reading.{is_bom, strip_bom}
use Rattle.csv.specs.declared.parser.Config.{Config}
use Rattle.csv.specs.declared.parser.State.{State}
use Rattle.hd_import.specs.Quotes.{IsReading, goes_on, has_line_end, is_left_open, is_within}
use Rattle.hd_import.specs.declared.quotes.Reading.{Reading}

-- one byte later
pub left_open_more : (rules : Config) (at : State) (over : Bool) (text : List ℕ) (i d : ℕ) → i < length text
    → is_left_open rules at over (drop i text)
    ≡ (goes_on over at (step rules at (get_or text i d)).0
    || is_left_open rules (step rules at (get_or text i d)).0
    (has_line_end over (step rules at (get_or text i d)).0 (get_or text i d)) (drop (i + 1) text))
unfolding is_left_open
left_open_more rules at over text i d l = at_drop_more (is_left_open rules at over) text i d l

-- at the end
pub left_open_at_end : (rules : Config) (at : State) (over : Bool) (text : List ℕ) (i : ℕ) → length text ≤ i
    → is_left_open rules at over (drop i text) ≡ is_within at
unfolding is_left_open
left_open_at_end rules at over text i past = at_drop_all (is_left_open rules at over) text i past

-- no quote is left open by one byte more, so that it is the rest that decides
pub goes_further : (rules : Config) (at : State) (over : Bool) (text : List ℕ) (i d : ℕ) (whole : Bool)
    (next : Reading) → i < length text → whole ≡ is_left_open rules at over (drop i text)
    → IsReading next (step rules at (get_or text i d)).0
    (has_line_end over (step rules at (get_or text i d)).0 (get_or text i d))
    → goes_on over at (step rules at (get_or text i d)).0 ≡ false
    → (later : State) × (then : Bool) × IsReading next later then
    × (whole ≡ is_left_open rules later then (drop (i + 1) text))
goes_further rules at over text i d whole next l so reads stops =
    let later = (step rules at (get_or text i d)).0 in
    let then = has_line_end over later (get_or text i d) in (
      later,
      then,
      reads,
      so ∙ left_open_more rules at over text i d l
          ∙ ap (λ goes. goes || is_left_open rules later then (drop (i + 1) text)) stops,
    )

-- a quote is left open by one byte more
pub goes_behind : (rules : Config) (at : State) (over : Bool) (text : List ℕ) (i d : ℕ) (whole : Bool)
    → i < length text → whole ≡ is_left_open rules at over (drop i text)
    → goes_on over at (step rules at (get_or text i d)).0 ≡ true → whole ≡ true
goes_behind rules at over text i d whole l so goes =
    let later = (step rules at (get_or text i d)).0 in
    let then = has_line_end over later (get_or text i d) in
    so ∙ left_open_more rules at over text i d l
    ∙ ap (λ goes. goes || is_left_open rules later then (drop (i + 1) text)) goes

-- a text with the mark
pub marked : (text : List ℕ) (c d e : ℕ) → 3 ≤ length text
    → is_bom (get_or text 0 c) (get_or text 1 d) (get_or text 2 e) ≡ true → drop 3 text ≡ strip_bom text
unfolding strip_bom
marked [] c d e l is = absurd (omega (arith, l))
marked (x ∷ []) c d e l is = absurd (omega (arith, l))
marked (x ∷ y ∷ []) c d e l is = absurd (omega (arith, l))
marked (x ∷ y ∷ z ∷ rest) c d e l is = rw is refl

-- a text without it
pub not_marked : (text : List ℕ) (c d e : ℕ)
    → is_bom (get_or text 0 c) (get_or text 1 d) (get_or text 2 e) ≡ false → text ≡ strip_bom text
unfolding strip_bom
not_marked [] c d e is = refl
not_marked (x ∷ []) c d e is = refl
not_marked (x ∷ y ∷ []) c d e is = refl
not_marked (x ∷ y ∷ z ∷ rest) c d e is = rw is refl

pub too_short : (text : List ℕ) → length text < 3 → text ≡ strip_bom text
unfolding strip_bom
too_short [] l = refl
too_short (x ∷ []) l = refl
too_short (x ∷ y ∷ []) l = refl
too_short (x ∷ y ∷ z ∷ rest) l = absurd (omega (arith, l))
