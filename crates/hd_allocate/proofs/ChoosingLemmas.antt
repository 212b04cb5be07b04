-- The first of three lists is the choice.
use Rattle.std.proofs.Common.{◌≡◌, ℕ, ◌<◌, ◌≤◌, Bool, true, false, cond, ◌==◌, ◌&&◌, ◌||◌, ◌⊎◌, nat_lt}
use Rattle.std.proofs.Common.{is_none, None, Some, Option, IfSome}
use Rattle.std.proofs.Common.{Bor, List, [], ◌∷◌, filter, refl, sym, ap, ◌∙◌, subst, inl, inr, arith}
use Rattle.std.specs.Option.{option_copied}
use Rattle.std.proofs.lemmas.Bool.Decides.{nat_tests, Decides-eqb}
use Rattle.std.proofs.lemmas.Bool.{cases_Bool, ltb-true, ltb-false, le-ltb, or_right}
use Rattle.std.proofs.lemmas.Option.{same_Some}
use Rattle.hd_rules.specs.declared.holds.Hold.{Hold}
use Rattle.hd_rules.specs.declared.holds.HoldKind.{HoldKind}
use Rattle.hd_rules.specs.declared.holds.HoldKind.TheVariants.{Any, One, AtBranch}
use Rattle.hd_rules.specs.Facts.{Facts}
use Rattle.hd_rules.specs.Desk.{Desk}
use Rattle.hd_rules.specs.Choose.{admits, may_have, candidate, is_local, precedes, FirstCandidate}
use Rattle.hd_rules.specs.Find.{earlier, choice}
use Rattle.hd_rules.specs.Laws.{ChoiceIsTheFirstCandidate}
use Rattle.hd_queue.specs.Holds.{hold_of, IsInOrder, HasPatronsOnce}
use Rattle.hd_queue.specs.Waiting.{is_any, is_at_branch, names, waits_for_any, waits_for, waits_at}
use Rattle.hd_allocate.specs.declared.facts.CopyFacts.{CopyFacts}
use Rattle.hd_allocate.specs.Choosing.{AreOfPatrons, IsAt, Waits, is_open, front}
use Rattle.hd_allocate.proofs.FrontLemmas.{IsFirst, opens, patron-hold_of, stamps_apart, front_is_first}

-- the order of two holds, by whether each is local and by stamp
abbrev ahead : Bool → Bool → ℕ → ℕ → Bool
ahead x y m n = cond x (cond y (nat_lt m n) true) (cond y false (nat_lt m n))

not_both : (x y : Bool) (m n : ℕ) → ahead x y m n ≡ true → ahead y x n m ≡ false
not_both true true m n h = let lt : m < n = ltb-true m n h in le-ltb n m (omega arith)
not_both false false m n h = let lt : m < n = ltb-true m n h in le-ltb n m (omega arith)
not_both true false m n h = refl
not_both false true m n h = cc

not_ahead : (x y z : Bool) (l m n : ℕ) → ahead x y l m ≡ false → ahead y z m n ≡ false → ahead x z l n ≡ false
not_ahead true true true l m n h g = let a : m ≤ l = ltb-false l m h in let b : n ≤ m = ltb-false m n g in
    le-ltb l n (omega arith)
not_ahead true true false l m n h g = cc
not_ahead true false z l m n h g = cc
not_ahead false true true l m n h g = refl
not_ahead false true false l m n h g = cc
not_ahead false false true l m n h g = refl
not_ahead false false false l m n h g = let a : m ≤ l = ltb-false l m h in let b : n ≤ m = ltb-false m n g in
    le-ltb l n (omega arith)

level : (x y : Bool) (m n : ℕ) → ahead x y m n ≡ false → ahead y x n m ≡ false → m ≡ n
level true true m n h g = let a : n ≤ m = ltb-false m n h in let b : m ≤ n = ltb-false n m g in omega arith
level false false m n h g = let a : n ≤ m = ltb-false m n h in let b : m ≤ n = ltb-false n m g in omega arith
level true false m n h g = cc
level false true m n h g = cc

-- what doesn't precede a hold doesn't precede one that this doesn't precede
past : (priority : Bool) (b : ℕ) (f g h : Hold) → precedes priority b f g ≡ false → precedes priority b g h
    ≡ false →
    precedes priority b f h ≡ false
past priority b f g h one two =
    not_ahead (is_local priority b f) (is_local priority b g) (is_local priority b h) f.stamp g.stamp h.stamp
    one two

back : (priority : Bool) (b : ℕ) (g h : Hold) → precedes priority b g h ≡ true → precedes priority b h g
    ≡ false
back priority b g h one = not_both (is_local priority b g) (is_local priority b h) g.stamp h.stamp one

or_cases : (x y : Bool) → (x || y) ≡ true → (x ≡ true) ⊎ (y ≡ true)
or_cases true y is = inl refl
or_cases false y is = inr is

or_left : (x y : Bool) → x ≡ true → (x || y) ≡ true
or_left x y is = rw is refl

or_false : (x y : Bool) → x ≡ false → y ≡ false → (x || y) ≡ false
or_false x y one two = rw (one, two) refl

-- the first of those that pass one of two tests
pub join : (priority : Bool) (b : ℕ) (s t : Hold → Bool) (hs : List Hold) (x y : Option Hold)
    → IsFirst priority b s hs x →
    IsFirst priority b t hs y → IsFirst priority b (λ g. s g || t g) hs (earlier priority b x y)
join priority b s t hs None None one two =
    record { fails = λ p g m. or_false (s g) (t g) (one.fails p g m) (two.fails p g m) }
join priority b s t hs None (Some h) one two = record {
  queued = two.queued;
  passes = or_right (s h) (t h) two.passes;
  first = λ p g m is. two.first p g m (sym (rw (one.fails p g m)) ∙ is);
}
join priority b s t hs (Some h) None one two = record {
  queued = one.queued;
  passes = or_left (s h) (t h) one.passes;
  first = λ p g m is. elim (or_cases (s g) (t g) is) [
    | inl e ↦ one.first p g m e
    | inr e ↦ absurd (let both : ◌≡◌ {A = Bool} true false = sym e ∙ two.fails p g m in cc)
  ];
}
join priority b s t hs (Some g) (Some h) one two = elim (cases_Bool (precedes priority b h g)) [
  | inl sooner ↦ rw sooner record {
    queued = two.queued;
    passes = or_right (s h) (t h) two.passes;
    first = λ p f m is. elim (or_cases (s f) (t f) is) [
      | inl e ↦ past priority b f g h (one.first p f m e) (back priority b h g sooner)
      | inr e ↦ two.first p f m e
    ];
  }
  | inr later ↦ rw later record {
    queued = one.queued;
    passes = or_left (s g) (t g) one.passes;
    first = λ p f m is. elim (or_cases (s f) (t f) is) [
      | inl e ↦ one.first p f m e
      | inr e ↦ past priority b f h g (two.first p f m e) later
    ];
  }
]

-- tests that agree have one first
same_test : (priority : Bool) (b : ℕ) (s t : Hold → Bool) (hs : List Hold) (o : Option Hold)
    → ((g : Hold) → s g ≡ t g) →
    IsFirst priority b s hs o → IsFirst priority b t hs o
same_test priority b s t hs None same one = record { fails = λ p g m. sym (same g) ∙ one.fails p g m }
same_test priority b s t hs (Some h) same one = record {
  queued = one.queued;
  passes = sym (same h) ∙ one.passes;
  first = λ p g m is. one.first p g m (same g ∙ is);
}

-- in a queue there is one first
unique : (priority : Bool) (b : ℕ) (t : Hold → Bool) (hs : List Hold) (x y : Option Hold) → IsInOrder hs
    → IsFirst priority b t hs x →
    IsFirst priority b t hs y → x ≡ y
unique priority b t hs None None ordered one two = refl
unique priority b t hs None (Some h) ordered one two =
    absurd (let both : ◌≡◌ {A = Bool} true false = sym two.passes ∙ one.fails h.patron h two.queued in cc)
unique priority b t hs (Some g) None ordered one two =
    absurd (let both : ◌≡◌ {A = Bool} true false = sym one.passes ∙ two.fails g.patron g one.queued in cc)
unique priority b t hs (Some g) (Some h) ordered one two =
    let stamps : g.stamp ≡ h.stamp =
    level (is_local priority b g) (is_local priority b h) g.stamp h.stamp
    (two.first g.patron g one.queued one.passes)
    (one.first h.patron h two.queued two.passes) in
    ap Some (stamps_apart hs g.patron h.patron g h ordered one.queued two.queued stamps)

known : (m : ℕ) (hs : List Hold) (p : ℕ) (g : Hold) → AreOfPatrons m hs → hold_of hs p ≡ Some g → p < m
known m [] p g are is = let none : ◌≡◌ {A = Option Hold} None (Some g) = is in cc
known m (x ∷ hs) p g are is = elim (cases_Bool (x.patron == p)) [
  | inl e ↦ let same : x.patron ≡ p = (Decides-eqb x.patron p).0 e in rw (← same) are.0
  | inr e ↦ known m hs p g are.1 (sym (rw e) ∙ is)
]

no_candidate : (k : Facts) (c day : ℕ) (o : Option Hold) (g : Hold) → o ≡ Some g → candidate k c day o ≡ None
    → may_have k c day g ≡ false
no_candidate k c day o g is none = elim (cases_Bool (may_have k c day g)) [
  | inl e ↦ absurd (let some : ◌≡◌ {A = Option Hold} (Some g) None = sym (rw (is, e)) ∙ none in cc)
  | inr e ↦ e
]

a_candidate : (k : Facts) (c day : ℕ) (o : Option Hold) (g : Hold) → o ≡ Some g → may_have k c day g ≡ true
    → candidate k c day o ≡ Some g
a_candidate k c day o g is e = rw (is, e)

candidate_is : (k : Facts) (c day : ℕ) (o : Option Hold) (h : Hold) → candidate k c day o ≡ Some h →
    (o ≡ Some h) × (may_have k c day h ≡ true)
candidate_is k c day None h is = let none : ◌≡◌ {A = Option Hold} None (Some h) = is in cc
candidate_is k c day (Some g) h is = elim (cases_Bool (may_have k c day g)) [
  | inl e ↦
      let same : g ≡ h = same_Some g h (sym (rw e) ∙ is) in
      (ap Some same, sym (ap (may_have k c day) same) ∙ e)
  | inr e ↦ absurd (let none : ◌≡◌ {A = Option Hold} None (Some h) = sym (rw e) ∙ is in cc)
]

first_here : (k : Facts) (d : Desk) (holds : List Hold) (copy : CopyFacts) (b day : ℕ) (o : Option Hold)
    → IsAt k d holds copy →
    FirstCandidate k d copy.copy b day o
    → IsFirst (k.priority (k.title_of copy.copy)) b (may_have k copy.copy day) holds o
first_here k d holds copy b day None at none = record {
  fails = λ p g m. no_candidate k copy.copy day (d.hold (k.title_of copy.copy) p) g (at.queue p ∙ m)
      (none p (known k.patrons holds p g at.patrons m));
}
first_here k d holds copy b day (Some h) at some =
    let its : (d.hold (k.title_of copy.copy) some.0.0 ≡ Some h) × (may_have k copy.copy day h ≡ true) =
    candidate_is k copy.copy day (d.hold (k.title_of copy.copy) some.0.0) h some.0.2 in
    let there : hold_of holds some.0.0 ≡ Some h = sym (at.queue some.0.0) ∙ its.0 in
    record {
      queued = ap (hold_of holds) (patron-hold_of holds some.0.0 h there) ∙ there;
      passes = its.1;
      first = λ p g m is. some.1 p g (known k.patrons holds p g at.patrons m)
          (a_candidate k copy.copy day (d.hold (k.title_of copy.copy) p) g (at.queue p ∙ m) is);
    }

-- open, and waiting for the copy in one of the three ways
abbrev pub wants : ℕ → ℕ → ℕ → Hold → Bool
wants c home day g = (opens waits_for_any day g || opens (waits_for c) day g) || opens (waits_at home) day g

of_kind : (k : Facts) (c home : ℕ) → k.home c ≡ home
    → (copy : Option ℕ) (kind : HoldKind) (pickup : ℕ) (open_ : Bool) →
    ((is_none copy && is_any kind && open_) || (is_none copy && names c kind && open_) ||
    ((is_none copy && (is_at_branch kind && (pickup == home))) && open_))
    ≡ (is_none copy && (admits k kind pickup c && open_))
of_kind k c home is (Some x) kind pickup open_ = refl
of_kind k c home is None Any pickup true = refl
of_kind k c home is None Any pickup false = refl
of_kind k c home is None (One x) pickup open_ = grind (arith, nat_tests)
of_kind k c home is None AtBranch pickup open_ = grind (arith, nat_tests)

wants_may_have : (k : Facts) (c home day : ℕ) → k.home c ≡ home → (g : Hold) → wants c home day g
    ≡ may_have k c day g
wants_may_have k c home day is g = of_kind k c home is g.copy g.kind g.pickup (is_open day g)

-- the first of the three fronts is the first that wants the copy
pub first_of_three : (copy : CopyFacts) (b day : ℕ) (hs : List Hold) → IsInOrder hs → HasPatronsOnce hs
    → (x y z : Option Hold) →
    x ≡ front copy.priority b day (filter waits_for_any hs) → y
    ≡ front copy.priority b day (filter (waits_for copy.copy) hs) →
    z ≡ front copy.priority b day (filter (waits_at copy.home) hs) →
    IsFirst copy.priority b (wants copy.copy copy.home day) hs
    (earlier copy.priority b (earlier copy.priority b x y) z)
first_of_three copy b day hs ordered once x y z is_x is_y is_z =
    join copy.priority b (λ g. opens waits_for_any day g || opens (waits_for copy.copy) day g)
    (opens (waits_at copy.home) day) hs
    (earlier copy.priority b x y) z
    (join copy.priority b (opens waits_for_any day) (opens (waits_for copy.copy) day) hs x y
    (subst (IsFirst copy.priority b (opens waits_for_any day) hs) (sym is_x)
    (front_is_first copy.priority b day waits_for_any hs ordered once))
    (subst (IsFirst copy.priority b (opens (waits_for copy.copy) day) hs) (sym is_y)
    (front_is_first copy.priority b day (waits_for copy.copy) hs ordered once)))
    (subst (IsFirst copy.priority b (opens (waits_at copy.home) day) hs) (sym is_z)
    (front_is_first copy.priority b day (waits_at copy.home) hs ordered once))

-- the three lists, their fronts, and what is made of them
pub record Found (copy : CopyFacts) (b day : ℕ) (hs any named home : List Hold)
    (x y z v w : Option Hold) : Type 0 where
  pub any_is : any ≡ filter waits_for_any hs
  pub named_is : named ≡ filter (waits_for copy.copy) hs
  pub home_is : home ≡ filter (waits_at copy.home) hs
  pub x_is : x ≡ front copy.priority b day any
  pub y_is : y ≡ front copy.priority b day named
  pub z_is : z ≡ front copy.priority b day home
  pub v_is : v ≡ earlier copy.priority b x y
  pub w_is : w ≡ earlier copy.priority b v z

pub found_first : (copy : CopyFacts) (b day : ℕ) (hs any named home : List Hold) (x y z v w : Option Hold)
    → IsInOrder hs →
    HasPatronsOnce hs → Found copy b day hs any named home x y z v w
    → IsFirst copy.priority b (wants copy.copy copy.home day) hs w
found_first copy b day hs any named home x y z v w ordered once f =
    subst (IsFirst copy.priority b (wants copy.copy copy.home day) hs)
    (sym (f.w_is ∙ ap (λ (o : Option Hold). earlier copy.priority b o z) f.v_is))
    (first_of_three copy b day hs ordered once x y z
    (f.x_is ∙ ap (front copy.priority b day) f.any_is)
    (f.y_is ∙ ap (front copy.priority b day) f.named_is)
    (f.z_is ∙ ap (front copy.priority b day) f.home_is))

-- and that is the choice of the rules
pub first_is_choice : ChoiceIsTheFirstCandidate
    → (k : Facts) (d : Desk) (holds : List Hold) (copy : CopyFacts) (b day : ℕ) (o : Option Hold)
    → IsInOrder holds →
    IsAt k d holds copy → IsFirst copy.priority b (wants copy.copy copy.home day) holds o → o
    ≡ choice k d copy.copy b day
first_is_choice law k d holds copy b day o ordered at first =
    unique copy.priority b (may_have k copy.copy day) holds o (choice k d copy.copy b day) ordered
    (same_test copy.priority b (wants copy.copy copy.home day) (may_have k copy.copy day) holds o
    (wants_may_have k copy.copy copy.home day at.home) first)
    (subst (λ (t : Bool). IsFirst t b (may_have k copy.copy day) holds (choice k d copy.copy b day))
    at.priority
    (first_here k d holds copy b day (choice k d copy.copy b day) at (law.first k d copy.copy b day)))

no_copy : (c home : ℕ) (copy : Option ℕ) (kind : HoldKind) (pickup : ℕ) (open_ : Bool) →
    ((is_none copy && is_any kind && open_) || (is_none copy && names c kind && open_) ||
    ((is_none copy && (is_at_branch kind && (pickup == home))) && open_)) ≡ true → copy ≡ None
no_copy c home None kind pickup open_ is = refl
no_copy c home (Some x) kind pickup open_ is = cc

-- whatever is first waits
pub first_waits : (priority : Bool) (c home b day : ℕ) (holds : List Hold) (o : Option (Bor Hold)) →
    IsFirst priority b (wants c home day) holds (option_copied o) → IfSome o (λ h. Waits holds h.now)
first_waits priority c home b day holds None first = tt
first_waits priority c home b day holds (Some h) first = record {
  queued = first.queued;
  copy = no_copy c home h.now.copy h.now.kind h.now.pickup (is_open day h.now) first.passes;
}
