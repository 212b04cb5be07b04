-- What stands before the last byte of a kind.
use Rattle.std.proofs.Common.{arith, ◌≡◌, ◌∙◌, refl, sym, ap, ap₂, subst, ℕ, zero, suc, List, [], ◌∷◌, ◌++◌}
use Rattle.std.proofs.Common.{Contains, append_assoc, drop, get_or}
use Rattle.hd_door_client.specs.Rows.{with_comma}

-- a byte stands in a text that has it
there : (byte : ℕ) (front rest : List ℕ) → Contains (front ++ byte ∷ rest) byte
there byte [] rest = (zero, omega arith, refl)
there byte (first ∷ front) rest =
    let in_front = there byte front rest in
    (suc in_front.0, let within = in_front.1 in omega (arith, within), in_front.2)

-- what stands before the last of them is one text
pub one_front : (byte : ℕ) (front other rest behind : List ℕ) → (Contains rest byte → ⊥)
    → (Contains behind byte → ⊥) → front ++ byte ∷ rest ≡ other ++ byte ∷ behind → front ≡ other
one_front byte [] [] rest behind none also same = refl
one_front byte [] (x ∷ other) rest behind none also same =
    absurd (none (subst (λ (t : List ℕ). Contains t byte) (sym (ap (drop 1) same)) (there byte other behind)))
one_front byte (x ∷ front) [] rest behind none also same =
    absurd (also (subst (λ (t : List ℕ). Contains t byte) (ap (drop 1) same) (there byte front rest)))
one_front byte (x ∷ front) (y ∷ other) rest behind none also same =
    ap₂ (λ (b : ℕ) (t : List ℕ). b ∷ t) (ap (λ (t : List ℕ). get_or t 0 0) same)
    (one_front byte front other rest behind none also (ap (drop 1) same))

-- at the last of them: what stands before it is the front
pub front_at : (byte : ℕ) (text left front behind : List ℕ)
    → text ≡ left ++ behind → left ≡ front ++ byte ∷ [] → (Contains behind byte → ⊥) → (other rest : List ℕ) → text ≡ other ++ byte ∷ rest
    → (Contains rest byte → ⊥) → front ≡ other
front_at byte text left front behind whole split none other rest is also =
    one_front byte front other behind rest none also
    (sym (append_assoc front (byte ∷ []) behind)
    ∙ (ap (λ (t : List ℕ). t ++ behind) (sym split) ∙ (sym whole ∙ is)))

-- where there is none, there is no such front
pub no_front : (byte : ℕ) (text left behind : List ℕ) → text ≡ left ++ behind → left ≡ []
    → (Contains behind byte → ⊥) → (other rest : List ℕ) → text ≡ other ++ byte ∷ rest → ⊥
no_front byte text left behind whole empty none other rest is =
    none (subst (λ (t : List ℕ). Contains t byte) (sym is ∙ (whole ∙ ap (λ (t : List ℕ). t ++ behind) empty))
    (there byte other rest))

-- none is in nothing
pub none_behind : (byte : ℕ) → Contains [] byte → ⊥
none_behind byte (i, within, is) = omega (arith, within)

-- rows without the comma behind them
pub without_comma : (rows text left : List ℕ) → ((front : List ℕ) → text ≡ front ++ 44 ∷ [] → left ≡ front)
    → (text ≡ [] → left ≡ []) → text ≡ with_comma rows → left ≡ rows
without_comma [] text left some none is = none is
without_comma (byte ∷ rows) text left some none is = some (byte ∷ rows) is
