-- A question about things of a catalogue has the same answer at a grown desk.
use Rattle.std.proofs.Common.{arith, ◌≡◌, refl, sym, ◌∙◌, ap, subst, ℕ, ◌+◌, ◌<◌, ◌≤◌, ◌⊎◌, inl, inr}
use Rattle.std.proofs.Common.{Bool, true, false, ◌==◌, ◌&&◌, cond, Option, Some, None, suc, zero}
use Rattle.std.specs.Prelude.{nat_lt, not, is_none, is_some}
use Rattle.std.proofs.lemmas.Bool.{ltb-true, ltb-false}
use Rattle.hd_rules.specs.Words.{Hold, HoldKind, Any, One, AtBranch, CopyState}
use Rattle.hd_rules.specs.Facts.{Facts, AreInRange}
use Rattle.hd_rules.specs.Desk.{Desk}
use Rattle.hd_rules.specs.Choose.{admits, candidate, count_below, stands_at, is_lent_to, is_before}
use Rattle.hd_rules.specs.Choose.{is_on_shelf, has_expired, LeastFree, loans, position, on_shelf}
use Rattle.hd_rules.specs.Find.{earlier, first_of, choice, place}
use Rattle.hd_rules.specs.Growth.{IsOnItsWay, IsGrownDesk, Grows}
use Rattle.hd_rules.proofs.Only.{place_is_only}
use Rattle.hd_rules.proofs.Place.{place_is_least}

-- counts
count_same : (test more : ℕ → Bool) (n : ℕ) → ((i : ℕ) → i < n → more i ≡ test i)
    → count_below more n ≡ count_below test n
count_same test more zero same = refl
count_same test more (suc n) same =
    let here : more n ≡ test n = same n (omega arith) in
    let rest : count_below more n ≡ count_below test n =
    count_same test more n (λ i lt. same i (omega arith)) in
    λ i. cond (here i) 1 0 + rest i

-- a number is one of the first catalogue, or new
pub old_or_new : (i n : ℕ) → (i < n) ⊎ (n ≤ i)
old_or_new i n = by_test (nat_lt i n) refl
  where
    by_test : (b : Bool) → nat_lt i n ≡ b → (i < n) ⊎ (n ≤ i)
    by_test true is = inl (ltb-true i n is)
    by_test false is = inr (ltb-false i n is)

count_grown : (test more : ℕ → Bool) (m n : ℕ) → m ≤ n → ((i : ℕ) → i < m → more i ≡ test i)
    → ((i : ℕ) → m ≤ i → i < n → more i ≡ false) → count_below more n ≡ count_below test m
count_grown test more m zero le same none =
    let e : m ≡ 0 = omega arith in ap (count_below test) (sym e)
count_grown test more m (suc n) le same none = cases (old_or_new n m)
    (λ below. count_grown test more m n below same (λ i low lt. none i low (omega arith)))
  where
    cases : (n < m) ⊎ (m ≤ n) → (m ≤ n → count_below more n ≡ count_below test m)
        → count_below more (suc n) ≡ count_below test m
    cases (inl lt) rest =
        let e : m ≡ suc n = omega arith in
        count_same test more (suc n) (λ i low. same i (omega arith)) ∙ ap (count_below test) (sym e)
    cases (inr below) rest =
        let here : more n ≡ false = none n below (omega arith) in
        let nought : 0 + count_below more n ≡ count_below more n = omega arith in
        ap (λ (b : Bool). cond b 1 0 + count_below more n) here ∙ nought ∙ rest below

-- what is on its way is nowhere else
on_no_shelf : (k : Facts) (s : CopyState) → IsOnItsWay k s → is_on_shelf s ≡ false
on_no_shelf k s way = ap is_on_shelf way.is

lent_to_nobody : (p : ℕ) (k : Facts) (s : CopyState) → IsOnItsWay k s → is_lent_to p s ≡ false
lent_to_nobody p k s way = ap (is_lent_to p) way.is

at_no_place : (b spot : ℕ) (k : Facts) (s : CopyState) → IsOnItsWay k s → stands_at b spot s ≡ false
at_no_place b spot k s way = ap (stands_at b spot) way.is

and_not : (a b c : Bool) → c ≡ false → (a && (b && c)) ≡ false
and_not true true c is = is
and_not true false c is = refl
and_not false b c is = refl

module _ (k j : Facts) (grows : Grows k j) where
  pub admits_same : (kind : HoldKind) (pickup c : ℕ) → c < k.copies → admits j kind pickup c ≡ admits k kind pickup c
  admits_same Any pickup c in_c = refl
  admits_same (One x) pickup c in_c = refl
  admits_same AtBranch pickup c in_c = ap (λ (b : ℕ). b == pickup) (grows.longer.home c in_c)

  candidate_same : (c day : ℕ) (o : Option Hold) → c < k.copies → candidate j c day o ≡ candidate k c day o
  candidate_same c day None in_c = refl
  candidate_same c day (Some h) in_c = ap (λ (b : Bool). cond b (Some h) None)
      (ap (λ (b : Bool). is_none h.copy && (b && not (has_expired h.expiry day)))
      (admits_same h.kind h.pickup c in_c))

earlier_none : (pr : Bool) (b : ℕ) (o : Option Hold) → earlier pr b o None ≡ o
earlier_none pr b None = refl
earlier_none pr b (Some g) = refl

module _ (k j : Facts) (grows : Grows k j) (range : AreInRange k) where
  title_known : (c : ℕ) → c < k.copies → k.title_of c < k.titles
  title_known c in_c = range.title_of c in_c

  priority_same : (c : ℕ) → c < k.copies → j.priority (j.title_of c) ≡ k.priority (k.title_of c)
  priority_same c in_c =
      ap j.priority (grows.longer.title_of c in_c) ∙ grows.longer.priority (k.title_of c) (title_known c in_c)

  first_same : (c b day : ℕ) (holds more : ℕ → Option Hold) (n : ℕ) → c < k.copies
      → ((i : ℕ) → i < n → more i ≡ holds i)
      → first_of j c b day more n ≡ first_of k c b day holds n
  first_same c b day holds more zero in_c same = refl
  first_same c b day holds more (suc n) in_c same =
      let rest : first_of j c b day more n ≡ first_of k c b day holds n =
      first_same c b day holds more n in_c (λ i lt. same i (omega arith)) in
      let here : candidate j c day (more n) ≡ candidate k c day (holds n) =
      candidate_same k j grows c day (more n) in_c ∙ ap (candidate k c day) (same n (omega arith)) in
      λ i. earlier (priority_same c in_c i) b (rest i) (here i)

  first_grown : (c b day : ℕ) (holds more : ℕ → Option Hold) (m n : ℕ) → c < k.copies → m ≤ n
      → ((i : ℕ) → i < m → more i ≡ holds i) → ((i : ℕ) → m ≤ i → more i ≡ None)
      → first_of j c b day more n ≡ first_of k c b day holds m
  first_grown c b day holds more m zero in_c le same none =
      let e : m ≡ 0 = omega arith in
      ap (first_of k c b day holds) (sym e)
  first_grown c b day holds more m (suc n) in_c le same none = cases (old_or_new n m)
      (λ below. first_grown c b day holds more m n in_c below same none)
    where
      cases : (n < m) ⊎ (m ≤ n) → (m ≤ n → first_of j c b day more n ≡ first_of k c b day holds m)
          → first_of j c b day more (suc n) ≡ first_of k c b day holds m
      cases (inl lt) rest =
          let e : m ≡ suc n = omega arith in
          first_same c b day holds more (suc n) in_c (λ i low. same i (omega arith))
          ∙ ap (first_of k c b day holds) (sym e)
      cases (inr below) rest =
          ap (λ (o : Option Hold). earlier (j.priority (j.title_of c)) b (first_of j c b day more n)
          (candidate j c day o)) (none n below)
          ∙ earlier_none (j.priority (j.title_of c)) b (first_of j c b day more n)
          ∙ rest below

  module _ (d e : Desk) (grown : IsGrownDesk k j d e) where
    pub new_copy : (c : ℕ) → k.copies ≤ c → c < j.copies → IsOnItsWay j (e.copy c)
    new_copy c new in_c =
        subst (IsOnItsWay j) (sym (grown.new_copies c new)) (grows.on_the_way c new in_c)

    pub new_hold : (t p : ℕ) → (k.titles ≤ t) ⊎ (k.patrons ≤ p) → e.hold t p ≡ None
    new_hold t p new = grown.new_holds t p new ∙ grows.not_held t p new

    pub choice_same : (c b day : ℕ) → c < k.copies → choice j e c b day ≡ choice k d c b day
    choice_same c b day in_c =
        ap (λ (t : ℕ). first_of j c b day (e.hold t) j.patrons) (grows.longer.title_of c in_c)
        ∙ first_grown c b day (d.hold (k.title_of c)) (e.hold (k.title_of c)) k.patrons j.patrons in_c
        grows.longer.patrons
        (λ p in_p. grown.holds (k.title_of c) p (title_known c in_c) in_p)
        (λ p new. new_hold (k.title_of c) p (inr new))

    pub place_same : (b : ℕ) → place j e b ≡ place k d b
    place_same b =
        let at : LeastFree k d b (place k d b) = place_is_least k d b in
        sym ((place_is_only j e b (place k d b)).0 (record {
          from_one = at.from_one;
          free = λ c in_c. cases at c in_c (old_or_new c k.copies);
          least = λ g one lt.
              let taken : (c : ℕ) × (c < k.copies) × (stands_at b g (d.copy c) ≡ true) = at.least g one lt in
              (taken.0, further taken.0 taken.1, ap (stands_at b g) (grown.copies taken.0 taken.1) ∙ taken.2);
        }))
      where
        further : (c : ℕ) → c < k.copies → c < j.copies
        further c in_c = let le : k.copies ≤ j.copies = grows.longer.copies in omega arith

        cases : LeastFree k d b (place k d b) → (c : ℕ) → c < j.copies → (c < k.copies) ⊎ (k.copies ≤ c)
            → stands_at b (place k d b) (e.copy c) ≡ false
        cases at c in_c (inl old) =
            ap (stands_at b (place k d b)) (grown.copies c old) ∙ at.free c old
        cases at c in_c (inr new) = at_no_place b (place k d b) j (e.copy c) (new_copy c new in_c)

    pub loans_same : (p : ℕ) → loans j e p ≡ loans k d p
    loans_same p = count_grown (λ n. is_lent_to p (d.copy n)) (λ n. is_lent_to p (e.copy n)) k.copies j.copies
        grows.longer.copies (λ c in_c. ap (is_lent_to p) (grown.copies c in_c))
        (λ c new in_c. lent_to_nobody p j (e.copy c) (new_copy c new in_c))

    pub position_same : (t stamp : ℕ) → t < k.titles → position j e t stamp ≡ position k d t stamp
    position_same t stamp in_t = ap (λ (n : ℕ). n + 1)
        (count_grown (λ n. is_before stamp (d.hold t n)) (λ n. is_before stamp (e.hold t n)) k.patrons j.patrons
        grows.longer.patrons (λ p in_p. ap (is_before stamp) (grown.holds t p in_t in_p))
        (λ p new in_p. ap (is_before stamp) (new_hold t p (inr new))))

    pub on_shelf_same : (t : ℕ) (kind : HoldKind) (pickup : ℕ)
        → on_shelf j e t kind pickup ≡ on_shelf k d t kind pickup
    on_shelf_same t kind pickup = count_grown
        (λ c. (k.title_of c == t) && (admits k kind pickup c && is_on_shelf (d.copy c)))
        (λ c. (j.title_of c == t) && (admits j kind pickup c && is_on_shelf (e.copy c)))
        k.copies j.copies grows.longer.copies
        (λ c in_c i. (grows.longer.title_of c in_c i == t)
        && (admits_same k j grows kind pickup c in_c i && is_on_shelf (grown.copies c in_c i)))
        (λ c new in_c. and_not (j.title_of c == t) (admits j kind pickup c) (is_on_shelf (e.copy c))
        (on_no_shelf j (e.copy c) (new_copy c new in_c)))

    -- as many holds of a title
    pub holds_same : (t : ℕ) → t < k.titles
        → count_below (λ p. is_some (e.hold t p)) j.patrons ≡ count_below (λ p. is_some (d.hold t p)) k.patrons
    holds_same t in_t = count_grown (λ p. is_some (d.hold t p)) (λ p. is_some (e.hold t p)) k.patrons j.patrons
        grows.longer.patrons (λ p in_p. ap is_some (grown.holds t p in_t in_p))
        (λ p new in_p. ap is_some (new_hold t p (inr new)))
