-- What is kept, after one more turn.
use Rattle.std.proofs.Common.{arith, ◌≡◌, ◌≢◌, refl, sym, ◌∙◌, ap, subst, ℕ, zero, suc, ◌<◌, ◌==◌, Bool, true}
use Rattle.std.proofs.Common.{false, cond, List, [], ◌∷◌}
use Rattle.std.proofs.Common.{◌++◌, length, get_or, set, slice_get, Option, Some, None, length-append}
use Rattle.std.proofs.lemmas.Bool.{eqb-true, eqb-false}
use Rattle.std.proofs.lemmas.List.{get_or-set_same, get_or-set_other}
use Rattle.hd_rules.specs.Turns.{kept_of}
use Rattle.hd_rules.specs.Journal.{Turn}
use Rattle.hd_journal.specs.TurnLog.{kept_turn, kept_at, kept_in, with_turn, AreTurns}

-- a turn that stands among those before
same_turn : (turns : List Turn) (turn : Turn) (i : ℕ) → i < length turns
    → slice_get (turns ++ turn ∷ []) i ≡ slice_get turns i
same_turn [] turn i below = absurd (omega arith)
same_turn (x ∷ xs) turn zero below = refl
same_turn (x ∷ xs) turn (suc i) below = same_turn xs turn i (omega arith)

-- the last turn
last_turn : (turns : List Turn) (turn : Turn) → slice_get (turns ++ turn ∷ []) (length turns) ≡ Some turn
last_turn [] turn = refl
last_turn (x ∷ xs) turn = last_turn xs turn

same_kept : (turns : List Turn) (turn : Turn) (o : Option ℕ) → ((i : ℕ) → o ≡ Some i → i < length turns)
    → kept_at (turns ++ turn ∷ []) o ≡ kept_at turns o
same_kept turns turn None within = refl
same_kept turns turn (Some i) within = ap kept_turn (same_turn turns turn i (within i refl))

-- a turn more leaves what is kept
pub kept_after_repeat : (turns : List Turn) (turn : Turn) (places : List (Option ℕ)) → AreTurns turns places
    → kept_in (turns ++ turn ∷ []) places ≡ kept_in turns places
kept_after_repeat turns turn places are = λ j t. same_kept turns turn (get_or places t None) (are t) j

-- unless its place is set
pub kept_after : (turns : List Turn) (turn : Turn) (places : List (Option ℕ)) (terminal : ℕ)
    → AreTurns turns places
    → terminal < length places → terminal ≡ turn.message.terminal
    → kept_in (turns ++ turn ∷ []) (set places terminal (Some (length turns)))
    ≡ with_turn turn (kept_in turns places)
kept_after turns turn places terminal are below own =
    λ j t. (at t (t == terminal) refl
    ∙ ap (λ (n : ℕ). cond (t == n) (kept_of turn.message.line turn.message.asked turn.reply)
    (kept_at turns (get_or places t None))) own) j
  where
    at : (t : ℕ) (b : Bool) → (t == terminal) ≡ b
        → kept_at (turns ++ turn ∷ []) (get_or (set places terminal (Some (length turns))) t None)
        ≡ cond b (kept_of turn.message.line turn.message.asked turn.reply)
        (kept_at turns (get_or places t None))
    at t true is =
        let same : t ≡ terminal = eqb-true t terminal is in
        ap (λ (n : ℕ). kept_at (turns ++ turn ∷ [])
        (get_or (set places terminal (Some (length turns))) n None)) same
        ∙ ap (kept_at (turns ++ turn ∷ [])) (get_or-set_same places terminal (Some (length turns)) None below)
        ∙ ap kept_turn (last_turn turns turn)
    at t false is =
        let other : t ≢ terminal = eqb-false t terminal is in
        ap (kept_at (turns ++ turn ∷ []))
        (get_or-set_other places terminal t (Some (length turns)) None other)
        ∙ same_kept turns turn (get_or places t None) (are t)

-- the places are still those of turns
pub turns_after_repeat : (turns : List Turn) (turn : Turn) (places : List (Option ℕ)) → AreTurns turns places
    → AreTurns (turns ++ turn ∷ []) places
turns_after_repeat turns turn places are t i is =
    let low : i < length turns = are t i is in omega (arith, length-append turns (turn ∷ []))

some_is : (a b : ℕ) → (let x : Option ℕ = Some a in x ≡ Some b) → a ≡ b
some_is a b e = cc

pub turns_after : (turns : List Turn) (turn : Turn) (places : List (Option ℕ)) (terminal : ℕ)
    → AreTurns turns places
    → terminal < length places → AreTurns (turns ++ turn ∷ []) (set places terminal (Some (length turns)))
turns_after turns turn places terminal are below t i is = by_test (t == terminal) refl
  where
    by_test : (b : Bool) → (t == terminal) ≡ b → i < length (turns ++ turn ∷ [])
    by_test true same =
        let e : t ≡ terminal = eqb-true t terminal same in
        let at : get_or (set places terminal (Some (length turns))) terminal None ≡ Some i =
        ap (λ (n : ℕ). get_or (set places terminal (Some (length turns))) n None) (sym e) ∙ is in
        let last : length turns ≡ i =
        some_is (length turns) i (sym (get_or-set_same places terminal (Some (length turns)) None below)
        ∙ at) in
        omega (arith, length-append turns (turn ∷ []))
    by_test false other =
        let low : i < length turns =
        are t i (sym (get_or-set_other places terminal t (Some (length turns)) None
        (eqb-false t terminal other)) ∙ is) in
        omega (arith, length-append turns (turn ∷ []))

-- where the places read the same
pub kept_same : (turns more : List Turn) (places longer : List (Option ℕ)) → more ≡ turns
    → ((t : ℕ) → get_or longer t None ≡ get_or places t None) → kept_in more longer ≡ kept_in turns places
kept_same turns more places longer same reads = λ j t. kept_at (same j) (reads t j)

pub turns_same : (turns more : List Turn) (places longer : List (Option ℕ)) → more ≡ turns
    → ((t : ℕ) → get_or longer t None ≡ get_or places t None) → AreTurns turns places → AreTurns more longer
turns_same turns more places longer same reads are t i is =
    subst (λ (xs : List Turn). i < length xs) (sym same) (are t i (sym (reads t) ∙ is))

-- the same of a list and a place that are equal to these
pub record Set (turns items : List Turn) (turn : Turn) (places : List (Option ℕ))
    (terminal at : ℕ) : Type 0 where
  pub goes_on : items ≡ turns ++ turn ∷ []
  pub place : at ≡ length turns
  pub own : terminal ≡ turn.message.terminal
  pub below : terminal < length places
  pub are : AreTurns turns places

pub turns_set : (turns items : List Turn) (turn : Turn) (places : List (Option ℕ)) (terminal place : ℕ)
    → Set turns items turn places terminal place → AreTurns items (set places terminal (Some place))
turns_set turns items turn places terminal place h =
    subst (λ (xs : List Turn). AreTurns xs (set places terminal (Some place))) (sym h.goes_on)
    (subst (λ (n : ℕ). AreTurns (turns ++ turn ∷ []) (set places terminal (Some n))) (sym h.place)
    (turns_after turns turn places terminal h.are h.below))

pub kept_set : (turns items : List Turn) (turn : Turn) (places : List (Option ℕ)) (terminal place : ℕ)
    → Set turns items turn places terminal place
    → kept_in items (set places terminal (Some place)) ≡ with_turn turn (kept_in turns places)
kept_set turns items turn places terminal place h =
    (λ j. kept_in (h.goes_on j) (set places terminal (Some (h.place j))))
    ∙ kept_after turns turn places terminal h.are h.below h.own
