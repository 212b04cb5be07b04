-- The choice is the first of the candidates.
use Rattle.std.proofs.Common.{arith, ◌≡◌, refl, sym, ◌∙◌, ap, subst, ℕ, ◌<◌, zero, suc, ◌⊎◌, inl, inr, Bool}
use Rattle.std.proofs.Common.{true, false, cond, Option}
use Rattle.std.proofs.Common.{Some, None}
use Rattle.std.specs.Prelude.{nat_lt}
use Rattle.std.proofs.lemmas.Bool.{ltb-true, lt-ltb, le-ltb}
use Rattle.hd_rules.specs.Words.{Hold}
use Rattle.hd_rules.specs.Facts.{Facts}
use Rattle.hd_rules.specs.Desk.{Desk}
use Rattle.hd_rules.specs.Choose.{candidate, is_local, precedes, FirstCandidate}
use Rattle.hd_rules.specs.Find.{earlier, first_of, choice}
use Rattle.hd_rules.proofs.Place.{last_or_below}
use Rattle.hd_rules.proofs.Tests.{some_is}

abbrev ahead : Bool → Bool → ℕ → ℕ → Bool
ahead x y m n = cond x (cond y (nat_lt m n) true) (cond y false (nat_lt m n))

ahead_trans : (x y z : Bool) (l m n : ℕ) → ahead x y l m ≡ true → ahead y z m n ≡ true → ahead x z l n ≡ true
ahead_trans true true true l m n h g = let a : l < m = ltb-true l m h in let b : m < n = ltb-true m n g in
    lt-ltb l n (omega arith)
ahead_trans true true false l m n h g = refl
ahead_trans true false true l m n h g = cc
ahead_trans true false false l m n h g = refl
ahead_trans false true z l m n h g = cc
ahead_trans false false true l m n h g = cc
ahead_trans false false false l m n h g = let a : l < m = ltb-true l m h in let b : m < n = ltb-true m n g in
    lt-ltb l n (omega arith)

ahead_self : (x : Bool) (n : ℕ) → ahead x x n n ≡ false
ahead_self true n = le-ltb n n (omega arith)
ahead_self false n = le-ltb n n (omega arith)

-- the same for candidates by number
abbrev First : Bool → ℕ → (ℕ → Option Hold) → ℕ → Option Hold → Type 0
First priority b has n None = (m : ℕ) → m < n → has m ≡ None
First priority b has n (Some h) =
    ((m : ℕ) × (m < n) × (has m ≡ Some h))
    × ((m : ℕ) (g : Hold) → m < n → has m ≡ Some g → precedes priority b g h ≡ false)

one_more : (priority : Bool) (b : ℕ) (has : ℕ → Option Hold) (n : ℕ) (x y : Option Hold) → has n ≡ y
    → First priority b has n x → First priority b has (suc n) (earlier priority b x y)
one_more priority b has n None None last before = λ m lt. cases m (last_or_below m n lt)
  where
    cases : (m : ℕ) → (m ≡ n) ⊎ (m < n) → has m ≡ None
    cases m (inl e) = ap has e ∙ last
    cases m (inr lt) = before m lt
one_more priority b has n None (Some g) last before =
    ((n, (let lt : n < suc n = omega arith in lt), last), λ m f lt is. cases m f is (last_or_below m n lt))
  where
    cases : (m : ℕ) (f : Hold) → has m ≡ Some f → (m ≡ n) ⊎ (m < n) → precedes priority b f g ≡ false
    cases m f is (inl e) =
        subst (λ (x : Hold). precedes priority b x g ≡ false) (some_is g f (sym last ∙ sym (ap has e) ∙ is))
        (ahead_self (is_local priority b g) g.stamp)
    cases m f is (inr lt) = let no_ : None ≡ Some f = sym (before m lt) ∙ is in cc
one_more priority b has n (Some h) None last before = (
  (
    before.0.0,
    (let lt : before.0.0 < n = before.0.1 in let up : before.0.0 < suc n = omega arith in up),
    before.0.2,
  ),
  λ m f lt is. cases m f is (last_or_below m n lt),
)
  where
    cases : (m : ℕ) (f : Hold) → has m ≡ Some f → (m ≡ n) ⊎ (m < n) → precedes priority b f h ≡ false
    cases m f is (inl e) = let no_ : None ≡ Some f = sym last ∙ sym (ap has e) ∙ is in cc
    cases m f is (inr lt) = before.1 m f lt is
one_more priority b has n (Some h) (Some g) last before = by_test (precedes priority b g h) refl
  where
    not_first : (f : Hold) → precedes priority b g h ≡ true → precedes priority b f h ≡ false → (t : Bool)
        → precedes priority b f g ≡ t → t ≡ false
    not_first f sooner later_ false is = refl
    not_first f sooner later_ true is =
        let both : precedes priority b f h ≡ true =
        ahead_trans (is_local priority b f) (is_local priority b g)
        (is_local priority b h) f.stamp g.stamp h.stamp is sooner in cc

    under_new : precedes priority b g h ≡ true → (m : ℕ) (f : Hold) → has m ≡ Some f → (m ≡ n) ⊎ (m < n)
        → precedes priority b f g ≡ false
    under_new sooner m f is (inl e) =
        subst (λ (x : Hold). precedes priority b x g ≡ false) (some_is g f (sym last ∙ sym (ap has e) ∙ is))
        (ahead_self (is_local priority b g) g.stamp)
    under_new sooner m f is (inr lt) = not_first f sooner (before.1 m f lt is) (precedes priority b f g) refl

    under_old : precedes priority b g h ≡ false → (m : ℕ) (f : Hold) → has m ≡ Some f → (m ≡ n) ⊎ (m < n)
        → precedes priority b f h ≡ false
    under_old later_ m f is (inl e) =
        subst (λ (x : Hold). precedes priority b x h ≡ false)
        (some_is g f (sym last ∙ sym (ap has e) ∙ is)) later_
    under_old later_ m f is (inr lt) = before.1 m f lt is

    by_test : (t : Bool) → precedes priority b g h ≡ t
        → First priority b has (suc n) (cond t (Some g) (Some h))
    by_test true sooner = (
      (n, (let lt : n < suc n = omega arith in lt), last),
      λ m f lt is. under_new sooner m f is (last_or_below m n lt),
    )
    by_test false later_ = (
      (
        before.0.0,
        (let lt : before.0.0 < n = before.0.1 in let up : before.0.0 < suc n = omega arith in up),
        before.0.2,
      ),
      λ m f lt is. under_old later_ m f is (last_or_below m n lt),
    )

first_is : (k : Facts) (c : ℕ) (b : ℕ) (day : ℕ) (holds : ℕ → Option Hold) (n : ℕ)
    → First (k.priority (k.title_of c)) b (λ m. candidate k c day (holds m)) n (first_of k c b day holds n)
first_is k c b day holds zero = λ m lt. absurd (let none : ⊥ = omega arith in none)
first_is k c b day holds (suc n) =
    one_more (k.priority (k.title_of c)) b (λ m. candidate k c day (holds m)) n (first_of k c b day holds n)
    (candidate k c day (holds n))
    refl (first_is k c b day holds n)

by_patron : (k : Facts) (d : Desk) (c : ℕ) (b : ℕ) (day : ℕ) (o : Option Hold)
    → First (k.priority (k.title_of c)) b (λ m. candidate k c day (d.hold (k.title_of c) m)) k.patrons o
    → FirstCandidate k d c b day o
by_patron k d c b day None first = λ p lt. first p lt
by_patron k d c b day (Some h) first = ((first.0.0, first.0.1, first.0.2), λ p g lt is. first.1 p g lt is)

pub choice_is_first : (k : Facts) (d : Desk) (c : ℕ) (b : ℕ) (day : ℕ)
    → FirstCandidate k d c b day (choice k d c b day)
choice_is_first k d c b day =
    by_patron k d c b day (choice k d c b day) (first_is k c b day (d.hold (k.title_of c)) k.patrons)
