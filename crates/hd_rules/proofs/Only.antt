-- The least free place and the first candidate are the only ones.
use Rattle.std.proofs.Common.{arith, ◌≡◌, refl, sym, ◌∙◌, ap, subst, ℕ, ◌<◌, ◌≤◌, Bool, true, false, cond}
use Rattle.std.proofs.Common.{◌↔◌, Option, Some, None}
use Rattle.std.specs.Prelude.{nat_lt}
use Rattle.std.proofs.lemmas.Bool.{ltb-false}
use Rattle.hd_rules.specs.Words.{Hold}
use Rattle.hd_rules.specs.Facts.{Facts}
use Rattle.hd_rules.specs.Desk.{Desk}
use Rattle.hd_rules.specs.Choose.{is_local, precedes, FirstCandidate, stands_at, LeastFree}
use Rattle.hd_rules.specs.Find.{choice, place}
use Rattle.hd_rules.specs.Sound.{IsFit}
use Rattle.hd_rules.proofs.Chosen.{candidate_is}
use Rattle.hd_rules.proofs.First.{choice_is_first}
use Rattle.hd_rules.proofs.Place.{place_is_least}

not_less : (k : Facts) (d : Desk) (b f g : ℕ) → LeastFree k d b f → LeastFree k d b g → f < g → ⊥
not_less k d b f g at_f at_g lt =
    let taken : (c : ℕ) × (c < k.copies) × (stands_at b f (d.copy c) ≡ true) =
    at_g.least f at_f.from_one lt in
    let free : stands_at b f (d.copy taken.0) ≡ false = at_f.free taken.0 taken.1 in
    let stands : stands_at b f (d.copy taken.0) ≡ true = taken.2 in
    let e : true ≡ false = sym stands ∙ free in cc

pub place_is_only : (k : Facts) (d : Desk) (b f : ℕ) → LeastFree k d b f ↔ (f ≡ place k d b)
place_is_only k d b f = (
  (λ at_f.
      let below : f < place k d b → ⊥ = not_less k d b f (place k d b) at_f (place_is_least k d b) in
      let above : place k d b < f → ⊥ = not_less k d b (place k d b) f (place_is_least k d b) at_f in
      let same : f ≡ place k d b = omega arith in same),
  (λ e. subst (LeastFree k d b) (sym e) (place_is_least k d b)),
)

-- of two holds neither of which precedes the other, the stamps are one
level : (x y : Bool) (m n : ℕ) → cond x (cond y (nat_lt m n) true) (cond y false (nat_lt m n)) ≡ false
    → cond y (cond x (nat_lt n m) true) (cond x false (nat_lt n m)) ≡ false → m ≡ n
level true true m n h g = let a : n ≤ m = ltb-false m n h in let b : m ≤ n = ltb-false n m g in omega arith
level false false m n h g = let a : n ≤ m = ltb-false m n h in let b : m ≤ n = ltb-false n m g in omega arith
level true false m n h g = cc
level false true m n h g = cc

first_is_only : (k : Facts) (d : Desk) (c b day : ℕ) (o v : Option Hold) → IsFit k d
    → FirstCandidate k d c b day o → FirstCandidate k d c b day v → o ≡ v
first_is_only k d c b day None None fit one other = refl
first_is_only k d c b day None (Some h) fit one other =
    let e : None ≡ Some h = sym (one other.0.0 other.0.1) ∙ other.0.2 in cc
first_is_only k d c b day (Some g) None fit one other =
    let e : None ≡ Some g = sym (other one.0.0 one.0.1) ∙ one.0.2 in cc
first_is_only k d c b day (Some g) (Some h) fit one other =
    let its : (d.hold (k.title_of c) one.0.0 ≡ Some g) × (g.copy ≡ None) =
    candidate_is k c day (d.hold (k.title_of c) one.0.0) g one.0.2 in
    let that : (d.hold (k.title_of c) other.0.0 ≡ Some h) × (h.copy ≡ None) =
    candidate_is k c day (d.hold (k.title_of c) other.0.0) h other.0.2 in
    let not_before : precedes (k.priority (k.title_of c)) b g h ≡ false = other.1 one.0.0 g one.0.1 one.0.2 in
    let not_after : precedes (k.priority (k.title_of c)) b h g ≡ false =
    one.1 other.0.0 h other.0.1 other.0.2 in
    let stamps : g.stamp ≡ h.stamp =
    level (is_local (k.priority (k.title_of c)) b g)
    (is_local (k.priority (k.title_of c)) b h) g.stamp h.stamp not_before not_after in
    let same : one.0.0 ≡ other.0.0 = fit.stamps (k.title_of c) one.0.0 other.0.0 g h its.0 that.0 stamps in
    sym its.0 ∙ ap (λ (p : ℕ). d.hold (k.title_of c) p) same ∙ that.0

pub choice_is_only : (k : Facts) (d : Desk) (c b day : ℕ) (o : Option Hold) → IsFit k d
    → FirstCandidate k d c b day o ↔ (o ≡ choice k d c b day)
choice_is_only k d c b day o fit = (
  (λ first. first_is_only k d c b day o (choice k d c b day) fit first (choice_is_first k d c b day)),
  (λ e. subst (FirstCandidate k d c b day) (sym e) (choice_is_first k d c b day)),
)
