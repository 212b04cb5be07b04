-- Pieces that name no session.
use Rattle.std.proofs.Common.{◌≡◌, ◌∙◌, ◌<◌, ◌≤◌, ◌+◌, ℕ, suc, ap, sym, subst, arith, length, take, drop}
use Rattle.std.proofs.Common.{get_or, List, [], ◌∷◌, ◌++◌}
use Rattle.std.proofs.Common.{take-append-drop}
use Rattle.std.proofs.lemmas.List.{drop_more, get_or-map, length-map, length-take-le, take_all, take_more}
use Rattle.std.proofs.lemmas.List.Elements.{All-append, All-cons, All-nil}
use Rattle.std.specs.Borrow.{Bor}
use Rattle.std.specs.List.{All}
use Rattle.hd_date.specs.Stamps.{Stamp}
use Rattle.hd_session.specs.Scripts.{IsStrangerAt, Step, named_in, steps_of}

-- a piece as it is handed in: the session that it names, and the step that it is
abbrev pub named : ℕ × Bor (List ℕ) → ℕ
named piece = piece.0

abbrev pub step_of : Stamp → ℕ × Bor (List ℕ) → Step
step_of now piece = record { session = piece.0; piece = record { now = now; bytes = piece.1.now } }

-- those behind the first
pub all_behind : {X : Type 0} (P : X → Type 0) (x : X) (xs : List X) → All P (x ∷ xs) → All P xs
all_behind P x xs all k d within = all (suc k) d (omega (arith, within))

-- one more names a session
pub one_more : (sessions : ℕ) (pieces : List (ℕ × Bor (List ℕ))) (i : ℕ) (d : ℕ × Bor (List ℕ))
    → i < length pieces
    → (get_or pieces i d).0 < sessions → All (λ n. n < sessions) (take i (named_in pieces))
    → All (λ n. n < sessions) (take (i + 1) (named_in pieces))
one_more sessions pieces i d within known all =
    let here : get_or (named_in pieces) i (named d)
    ≡ named (get_or pieces i d) = get_or-map named pieces i d (named d) within in
    let more = take_more (named_in pieces) i (named d) (rw (length-map pieces named) within) in
    rw (more, here) (All-append (λ (n : ℕ). n < sessions) (take i (named_in pieces))
    (named (get_or pieces i d) ∷ []) all
    (All-cons (λ (n : ℕ). n < sessions) (named (get_or pieces i d)) [] known
    (All-nil (λ (n : ℕ). n < sessions))))

-- all do
pub all_known : (sessions : ℕ) (pieces : List (ℕ × Bor (List ℕ))) (i : ℕ) → length pieces ≤ i
    → All (λ n. n < sessions) (take i (named_in pieces)) → All (λ n. n < sessions) (named_in pieces)
all_known sessions pieces i past all =
    rw (take_all i (named_in pieces) (rw (length-map pieces named) past)) at all

-- the first that names none
pub stranger_at : (sessions : ℕ) (pieces : List (ℕ × Bor (List ℕ))) (i : ℕ) (d : ℕ × Bor (List ℕ))
    → i < length pieces
    → sessions ≤ (get_or pieces i d).0 → All (λ n. n < sessions) (take i (named_in pieces))
    → IsStrangerAt sessions (named_in pieces) i
stranger_at sessions pieces i d within stranger all =
    let here : get_or (named_in pieces) i (named d)
    ≡ named (get_or pieces i d) = get_or-map named pieces i d (named d) within in
    let long : i < length (named_in pieces) = rw (length-map pieces named) within in
    record {
      before = take i (named_in pieces);
      stranger = named (get_or pieces i d);
      later = drop (i + 1) (named_in pieces);
      split = sym (take-append-drop i (named_in pieces)) ∙ ap (λ (l : List ℕ). take i (named_in pieces) ++ l)
          (drop_more (named_in pieces) i (named d) long
          ∙ ap (λ (n : ℕ). n ∷ drop (i + 1) (named_in pieces)) here);
      place = sym (length-take-le i (named_in pieces) (omega (arith, long)));
      known = all;
      none = stranger;
    }

-- where all do, each does
pub one_known : (sessions : ℕ) (pieces : List (ℕ × Bor (List ℕ))) (i : ℕ) (d : ℕ × Bor (List ℕ))
    → i < length pieces
    → All (λ n. n < sessions) (named_in pieces) → (get_or pieces i d).0 < sessions
one_known sessions pieces i d within all =
    subst (λ (n : ℕ). n < sessions) (get_or-map named pieces i d (named d) within)
    (all i (named d) (rw (length-map pieces named) within))

-- one step more
pub steps_more : (now : Stamp) (pieces : List (ℕ × Bor (List ℕ))) (i : ℕ) (d : ℕ × Bor (List ℕ))
    → i < length pieces
    → take (i + 1) (steps_of now pieces)
    ≡ take i (steps_of now pieces) ++ step_of now (get_or pieces i d) ∷ []
steps_more now pieces i d within =
    take_more (steps_of now pieces) i (step_of now d) (rw (length-map pieces (step_of now)) within)
    ∙ ap (λ (s : Step). take i (steps_of now pieces) ++ s ∷ [])
    (get_or-map (step_of now) pieces i d (step_of now d) within)
