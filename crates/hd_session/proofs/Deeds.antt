-- What an office does, one deed after the other.
use Rattle.std.proofs.Common.{◌≡◌, List, [], ◌∷◌, ◌++◌, refl, sym, ap, subst, append_assoc, append-nil}
use Rattle.hd_rules.specs.Journal.{Turn}
use Rattle.hd_catalogue.specs.Contents.{Contents}
use Rattle.hd_journal.specs.Books.{Book}
use Rattle.hd_exchange.specs.Deeds.{AreShown, AreTurns, Deed, Made, Looked, turns_in}

-- the turns of some deeds, and of some more
pub turns_append : (xs ys : List Deed) → turns_in (xs ++ ys) ≡ turns_in xs ++ turns_in ys
turns_append [] ys = refl
turns_append (Made turn ∷ xs) ys = ap (λ (t : List Turn). turn ∷ t) (turns_append xs ys)
turns_append (Looked shown ∷ xs) ys = turns_append xs ys

-- no look is among them
pub are_turns_append : (xs ys : List Deed) → AreTurns xs → AreTurns ys → AreTurns (xs ++ ys)
are_turns_append [] ys p q = q
are_turns_append (Made turn ∷ xs) ys p q = are_turns_append xs ys p q
are_turns_append (Looked shown ∷ xs) ys p q = absurd p

module _ (k : Contents) (shows : List Turn → Book → Type 0) where
  -- each look of some deeds, and of some more
  pub shown_append : (turns : List Turn) (xs ys : List Deed) → AreShown k shows turns xs
      → AreShown k shows (turns ++ turns_in xs) ys
      → AreShown k shows turns (xs ++ ys)
  shown_append turns [] ys p q = subst (λ (t : List Turn). AreShown k shows t ys) (append-nil turns) q
  shown_append turns (Made turn ∷ xs) ys p q =
      shown_append (turns ++ turn ∷ []) xs ys p
      (subst (λ (t : List Turn). AreShown k shows t ys) (sym (append_assoc turns (turn ∷ []) (turns_in xs)))
      q)
  shown_append turns (Looked shown ∷ xs) ys p q = (p.0, shown_append turns xs ys p.1 q)

  -- of the first of them
  pub shown_before : (turns : List Turn) (xs ys : List Deed) → AreShown k shows turns (xs ++ ys)
      → AreShown k shows turns xs
  shown_before turns [] ys p = tt
  shown_before turns (Made turn ∷ xs) ys p = shown_before (turns ++ turn ∷ []) xs ys p
  shown_before turns (Looked shown ∷ xs) ys p = (p.0, shown_before turns xs ys p.1)

  -- and of those behind
  pub shown_behind : (turns : List Turn) (xs ys : List Deed) → AreShown k shows turns (xs ++ ys)
      → AreShown k shows (turns ++ turns_in xs) ys
  shown_behind turns [] ys p = subst (λ (t : List Turn). AreShown k shows t ys) (sym (append-nil turns)) p
  shown_behind turns (Made turn ∷ xs) ys p =
      subst (λ (t : List Turn). AreShown k shows t ys) (append_assoc turns (turn ∷ []) (turns_in xs))
      (shown_behind (turns ++ turn ∷ []) xs ys p)
  shown_behind turns (Looked shown ∷ xs) ys p = shown_behind turns xs ys p.1

  -- where there is none
  pub none_shown : (turns : List Turn) (did : List Deed) → AreTurns did → AreShown k shows turns did
  none_shown turns [] none = tt
  none_shown turns (Made turn ∷ did) none = none_shown (turns ++ turn ∷ []) did none
  none_shown turns (Looked shown ∷ did) none = absurd none
