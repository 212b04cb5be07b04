-- A hold that a copy is given to is the hold of its patron, and has no copy.
use Rattle.std.proofs.Common.{◌≡◌, refl, sym, subst, ℕ, Bool, true, false, cond, Option, Some, None}
use Rattle.std.specs.Prelude.{is_none}
use Rattle.hd_rules.specs.Words.{Hold}
use Rattle.hd_rules.specs.Facts.{Facts}
use Rattle.hd_rules.specs.Desk.{Desk}
use Rattle.hd_rules.specs.Choose.{may_have, candidate, FirstCandidate}
use Rattle.hd_rules.specs.Find.{choice}
use Rattle.hd_rules.specs.Sound.{HoldsFit}
use Rattle.hd_rules.proofs.Tests.{and_left, some_is}
use Rattle.hd_rules.proofs.First.{choice_is_first}

is_none_is : (o : Option ℕ) → is_none o ≡ true → o ≡ None
is_none_is None is = refl
is_none_is (Some c) is = cc

-- a candidate is the hold itself, which has no copy
pub candidate_is : (k : Facts) (c day : ℕ) (o : Option Hold) (h : Hold) → candidate k c day o ≡ Some h
    → (o ≡ Some h) × (h.copy ≡ None)
candidate_is k c day None h is = cc
candidate_is k c day (Some g) h is = by_test (may_have k c day g) refl is
  where
    by_test : (b : Bool) → may_have k c day g ≡ b → cond b (Some g) None ≡ Some h
        → (let x : Option Hold = Some g in x ≡ Some h) × (h.copy ≡ None)
    by_test true may is =
        (is, subst (λ (x : Hold). x.copy ≡ None) (some_is g h is) (is_none_is g.copy (and_left _ _ may)))
    by_test false may is = cc

-- the chosen hold stands under its own patron
pub record Chosen (k : Facts) (d : Desk) (c : ℕ) (h : Hold) : Type 0 where
  pub has : d.hold (k.title_of c) h.patron ≡ Some h
  pub none : h.copy ≡ None

pub chosen : (k : Facts) (n : ℕ) (d : Desk) (c : ℕ) (b : ℕ) (day : ℕ) (h : Hold) → HoldsFit n d.hold
    → choice k d c b day ≡ Some h → Chosen k d c h
chosen k n d c b day h fit is =
    let first : FirstCandidate k d c b day (Some h) =
    subst (FirstCandidate k d c b day) is (choice_is_first k d c b day) in
    let found : (d.hold (k.title_of c) first.0.0 ≡ Some h) × (h.copy ≡ None) =
    candidate_is k c day (d.hold (k.title_of c) first.0.0) h first.0.2 in
    record {
      has = subst (λ (p : ℕ). d.hold (k.title_of c) p ≡ Some h)
          (sym (fit.named (k.title_of c) first.0.0 h found.0)) found.0;
      none = found.1;
    }
