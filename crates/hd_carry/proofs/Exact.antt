-- The obstacles that are told are those that are in the way.
use Rattle.std.proofs.Common.{◌≡◌, refl, sym, ◌∙◌, subst, ℕ, zero, suc, ◌<◌, ◌≤◌, ◌==◌, ◌⊎◌, ◌↔◌, inl, inr}
use Rattle.std.proofs.Common.{Bool, true, false, Option}
use Rattle.std.proofs.Common.{◌+◌, nat_lt, eqb-true, ltb-true, lt-ltb, Some, None, List, [], ◌∷◌, ◌++◌, cond}
use Rattle.std.proofs.Common.{find, flat_map, arith}
use Rattle.std.proofs.lemmas.Bool.{cases_lt}
use Rattle.hd_rules.specs.declared.holds.Hold.{Hold}
use Rattle.hd_rules.specs.declared.holds.HoldKind.{HoldKind}
use Rattle.hd_rules.specs.declared.holds.HoldKind.TheVariants.{Any, One, AtBranch}
use Rattle.hd_rules.specs.declared.copies.CopyState.{CopyState}
use Rattle.hd_rules.specs.declared.copies.CopyState.TheVariants.{Shelf, OnLoan, OnHoldShelf, InTransit}
use Rattle.hd_rules.specs.declared.copies.Transit.{Transit}
use Rattle.hd_rules.specs.declared.limits.TheConstants.{MOST_GIVEN}
use Rattle.hd_rules.specs.Desk.{Desk}
use Rattle.hd_rules.specs.Facts.{Facts}
use Rattle.hd_rules.specs.Choose.{is_on_shelf}
use Rattle.hd_rules.specs.Run.{IsAmong}
use Rattle.hd_rules.specs.Sound.{AreNamed}
use Rattle.hd_rules.specs.Carry.{Renumbering}
use Rattle.hd_queue.specs.Holds.{HasPatronsOnce}
use Rattle.hd_desk.specs.Asking.{IsQueueOf, AreQueuesOf}
use Rattle.hd_carry.specs.declared.obstacle.Obstacle.{Obstacle}
use Rattle.hd_carry.specs.declared.obstacle.Obstacle.TheVariants.{MissingCopy, MissingBorrower, MissingHolder}
use Rattle.hd_carry.specs.declared.obstacle.Obstacle.TheVariants.{MissingTitle}
use Rattle.hd_carry.specs.declared.obstacle.Obstacle.TheVariants.{MissingBranch, MissingWayEnd, MissingPickup}
use Rattle.hd_carry.specs.declared.obstacle.Obstacle.TheVariants.{MissingOnlyCopy, NumbersUsedUp}
use Rattle.hd_carry.specs.Obstacles.{number_obstacles, where_lacking, shelf_obstacles, arrival_obstacles}
use Rattle.hd_carry.specs.Obstacles.{copy_obstacles, kind_obstacles}
use Rattle.hd_carry.specs.Obstacles.{hold_obstacles, copies_obstacles, titles_obstacles, obstacles}
use Rattle.hd_carry.specs.InTheWay.{IsLentTo, IsBranchOf, IsOnWay, IsInTheWay}
use Rattle.hd_carry.proofs.Numbers.{none_hold, below_or_this}
use Rattle.hd_carry.proofs.Queues.{find_first, of_rest_at}

-- of two lists, the first or the second
pub among_two : (x : Obstacle) (a b : List Obstacle) → IsAmong x (a ++ b) → IsAmong x a ⊎ IsAmong x b
among_two x [] b is = inr is
among_two x (y ∷ a) b (inl this) = inl (inl this)
among_two x (y ∷ a) b (inr later) = by_case (among_two x a b later)
  where
    by_case : IsAmong x a ⊎ IsAmong x b → IsAmong x (y ∷ a) ⊎ IsAmong x b
    by_case (inl first) = inl (inr first)
    by_case (inr second) = inr second

among_first : (x : Obstacle) (a b : List Obstacle) → IsAmong x a → IsAmong x (a ++ b)
among_first x [] b is = absurd is
among_first x (y ∷ a) b (inl this) = inl this
among_first x (y ∷ a) b (inr later) = inr (among_first x a b later)

among_second : (x : Obstacle) (a b : List Obstacle) → IsAmong x b → IsAmong x (a ++ b)
among_second x [] b is = is
among_second x (y ∷ a) b is = inr (among_second x a b is)

-- the one that is told where a number is lacking
pub lacked : (x z : Obstacle) (o : Option ℕ) → IsAmong x (where_lacking o z) → (x ≡ z) × (o ≡ None)
lacked x z None (inl this) = (this, refl)
lacked x z None (inr later) = absurd later
lacked x z (Some m) is = absurd is

lacking : (z : Obstacle) (o : Option ℕ) → o ≡ None → IsAmong z (where_lacking o z)
lacking z o none = subst (λ (n : Option ℕ). IsAmong z (where_lacking n z)) (sym none) (inl refl)

module _ (k j : Facts) (r : Renumbering) (d : Desk) (last : ℕ) where
  abbrev Way : Obstacle → Type 0
  Way x = IsInTheWay k j r d last x

  is_way : (x z : Obstacle) → x ≡ z → Way z → Way x
  is_way x z same way = subst (λ (y : Obstacle). Way y) (sym same) way

  -- those of a copy
  module _ (c : ℕ) (in_c : c < k.copies) where
    gone_way : (x : Obstacle) (s : CopyState) → d.copy c ≡ s → is_on_shelf s ≡ false
        → IsAmong x (where_lacking (r.copy c) (MissingCopy c s)) → Way x
    gone_way x s is away told =
        let this : (x ≡ MissingCopy c s) × (r.copy c ≡ None) = lacked x (MissingCopy c s) (r.copy c) told in
        is_way x (MissingCopy c s) this.0 (in_c, is, away, this.1)

    copy_way : (x : Obstacle) (s : CopyState) → d.copy c ≡ s → IsAmong x (copy_obstacles r c s) → Way x
    copy_way x (Shelf b) is told = by_copy (r.copy c) refl told
      where
        by_copy : (o : Option ℕ) → r.copy c ≡ o → IsAmong x (shelf_obstacles r c o b) → Way x
        by_copy None same told = absurd told
        by_copy (Some y) same told =
            let this : (x ≡ MissingBranch b c) × (r.branch b ≡ None) =
            lacked x (MissingBranch b c) (r.branch b) told in
            is_way x (MissingBranch b c) this.0 (
              in_c,
              subst (λ (s : CopyState). IsBranchOf b (r.copy c) s) (sym is)
                  (subst (λ (o : Option ℕ). IsBranchOf b o (Shelf b)) (sym same) refl),
              this.1,
            )
    copy_way x (OnLoan l) is told =
        by_case
        (among_two x (where_lacking (r.copy c) (MissingCopy c (OnLoan l)))
        (where_lacking (r.patron l.patron) (MissingBorrower c l.patron)) told)
      where
        by_case : IsAmong x (where_lacking (r.copy c) (MissingCopy c (OnLoan l)))
            ⊎ IsAmong x (where_lacking (r.patron l.patron) (MissingBorrower c l.patron)) → Way x
        by_case (inl told) = gone_way x (OnLoan l) is refl told
        by_case (inr told) =
            let this : (x ≡ MissingBorrower c l.patron) × (r.patron l.patron ≡ None) =
            lacked x (MissingBorrower c l.patron) (r.patron l.patron) told in
            is_way x (MissingBorrower c l.patron) this.0
            (in_c, subst (λ (s : CopyState). IsLentTo l.patron s) (sym is) refl, this.1)
    copy_way x (OnHoldShelf s) is told =
        by_case
        (among_two x (where_lacking (r.copy c) (MissingCopy c (OnHoldShelf s)))
        (where_lacking (r.branch s.branch) (MissingBranch s.branch c))
        told)
      where
        by_case : IsAmong x (where_lacking (r.copy c) (MissingCopy c (OnHoldShelf s)))
            ⊎ IsAmong x (where_lacking (r.branch s.branch) (MissingBranch s.branch c)) → Way x
        by_case (inl told) = gone_way x (OnHoldShelf s) is refl told
        by_case (inr told) =
            let this : (x ≡ MissingBranch s.branch c) × (r.branch s.branch ≡ None) =
            lacked x (MissingBranch s.branch c) (r.branch s.branch) told in
            is_way x (MissingBranch s.branch c) this.0 (
              in_c,
              subst (λ (w : CopyState). IsBranchOf s.branch (r.copy c) w) (sym is) (here (r.copy c)),
              this.1,
            )
          where
            here : (o : Option ℕ) → IsBranchOf s.branch o (OnHoldShelf s)
            here None = refl
            here (Some y) = refl
    copy_way x (InTransit t) is told =
        by_last
        (among_two x (where_lacking (r.copy c) (MissingCopy c (InTransit t)) ++ where_lacking
        (r.branch t.from) (MissingWayEnd t.from c))
        (arrival_obstacles r c t.from t.to) told)
      where
        on_way : (b : ℕ) → (t.from ≡ b) ⊎ (t.to ≡ b)
            → IsAmong x (where_lacking (r.branch b) (MissingWayEnd b c)) → Way x
        on_way b which told =
            let this : (x ≡ MissingWayEnd b c) × (r.branch b ≡ None) =
            lacked x (MissingWayEnd b c) (r.branch b) told in
            is_way x (MissingWayEnd b c) this.0
            (in_c, subst (λ (w : CopyState). IsOnWay b w) (sym is) which, this.1)

        arrived : (same : Bool)
            → IsAmong x (cond same [] (where_lacking (r.branch t.to) (MissingWayEnd t.to c)))
            → IsAmong x (where_lacking (r.branch t.to) (MissingWayEnd t.to c))
        arrived true told = absurd told
        arrived false told = told

        by_first : IsAmong x (where_lacking (r.copy c) (MissingCopy c (InTransit t)))
            ⊎ IsAmong x (where_lacking (r.branch t.from) (MissingWayEnd t.from c)) → Way x
        by_first (inl told) = gone_way x (InTransit t) is refl told
        by_first (inr told) = on_way t.from (inl refl) told

        by_last : IsAmong x (where_lacking (r.copy c) (MissingCopy c (InTransit t)) ++ where_lacking
            (r.branch t.from) (MissingWayEnd t.from c))
            ⊎ IsAmong x (arrival_obstacles r c t.from t.to) → Way x
        by_last (inl told) =
            by_first
            (among_two x (where_lacking (r.copy c) (MissingCopy c (InTransit t)))
            (where_lacking (r.branch t.from) (MissingWayEnd t.from c)) told)
        by_last (inr told) = on_way t.to (inr refl) (arrived (t.to == t.from) told)

  copies_way : (x : Obstacle) (n : ℕ) → n ≤ k.copies → IsAmong x (copies_obstacles r d n) → Way x
  copies_way x zero le told = absurd told
  copies_way x (suc c) le told =
      by_case (among_two x (copies_obstacles r d c) (copy_obstacles r c (d.copy c)) told)
      (copies_way x c (omega (arith, le)))
    where
      by_case : IsAmong x (copies_obstacles r d c) ⊎ IsAmong x (copy_obstacles r c (d.copy c))
          → (IsAmong x (copies_obstacles r d c) → Way x)
          → Way x
      by_case (inl told) before = before told
      by_case (inr told) before = copy_way c (omega (arith, le)) x (d.copy c) refl told

  -- those of a hold, by what it names
  abbrev title : ℕ → Hold → List Obstacle
  title t g = where_lacking (r.title t) (MissingTitle t g.patron)

  abbrev patron : ℕ → Hold → List Obstacle
  patron t g = where_lacking (r.patron g.patron) (MissingHolder t g.patron)

  abbrev pickup : ℕ → Hold → List Obstacle
  pickup t g = where_lacking (r.branch g.pickup) (MissingPickup g.pickup t g.patron)

  abbrev kind : ℕ → Hold → List Obstacle
  kind t g = kind_obstacles r t g.patron g.kind

  hold_way : (x : Obstacle) (t : ℕ) (g : Hold) → d.hold t g.patron ≡ Some g → IsAmong x (hold_obstacles r t g)
      → Way x
  hold_way x t g is told = by_kind (among_two x (title t g ++ patron t g ++ pickup t g) (kind t g) told)
    where
      by_patron : IsAmong x (title t g) ⊎ IsAmong x (patron t g) → Way x
      by_patron (inl told) =
          let this : (x ≡ MissingTitle t g.patron) × (r.title t ≡ None) =
          lacked x (MissingTitle t g.patron) (r.title t) told in
          is_way x (MissingTitle t g.patron) this.0 ((g, is), this.1)
      by_patron (inr told) =
          let this : (x ≡ MissingHolder t g.patron) × (r.patron g.patron ≡ None) =
          lacked x (MissingHolder t g.patron) (r.patron g.patron) told in
          is_way x (MissingHolder t g.patron) this.0 ((g, is), this.1)

      by_pickup : IsAmong x (title t g ++ patron t g) ⊎ IsAmong x (pickup t g) → Way x
      by_pickup (inl told) = by_patron (among_two x (title t g) (patron t g) told)
      by_pickup (inr told) =
          let this : (x ≡ MissingPickup g.pickup t g.patron) × (r.branch g.pickup ≡ None) =
          lacked x (MissingPickup g.pickup t g.patron) (r.branch g.pickup) told in
          is_way x (MissingPickup g.pickup t g.patron) this.0 (g, is, refl, this.1)

      only_copy : (kind : HoldKind) → g.kind ≡ kind → IsAmong x (kind_obstacles r t g.patron kind) → Way x
      only_copy Any same told = absurd told
      only_copy AtBranch same told = absurd told
      only_copy (One c) same told =
          let this : (x ≡ MissingOnlyCopy t g.patron c) × (r.copy c ≡ None) =
          lacked x (MissingOnlyCopy t g.patron c) (r.copy c) told in
          is_way x (MissingOnlyCopy t g.patron c) this.0 (g, is, same, this.1)

      by_kind : IsAmong x (title t g ++ patron t g ++ pickup t g) ⊎ IsAmong x (kind t g) → Way x
      by_kind (inl told) = by_pickup (among_two x (title t g ++ patron t g) (pickup t g) told)
      by_kind (inr told) = only_copy g.kind refl told

  queue_way : (x : Obstacle) (t : ℕ) (queue : List Hold) → HasPatronsOnce queue
      → ((p : ℕ) (h : Hold) → find (λ y. y.patron == p) queue ≡ Some h → d.hold t p ≡ Some h)
      → IsAmong x (flat_map (hold_obstacles r t) queue) → Way x
  queue_way x t [] once of told = absurd told
  queue_way x t (g ∷ queue) once of told =
      by_case (among_two x (hold_obstacles r t g) (flat_map (hold_obstacles r t) queue) told)
      (queue_way x t queue once.1 (of_rest_at d t g queue once.0 of))
    where
      by_case : IsAmong x (hold_obstacles r t g) ⊎ IsAmong x (flat_map (hold_obstacles r t) queue)
          → (IsAmong x (flat_map (hold_obstacles r t) queue) → Way x) → Way x
      by_case (inl told) later = hold_way x t g (of g.patron g (find_first g queue)) told
      by_case (inr told) later = later told

  titles_way : (queues : ℕ → List Hold) → AreQueuesOf k d queues → (x : Obstacle) (n : ℕ) → n ≤ k.titles
      → IsAmong x (titles_obstacles r queues n) → Way x
  titles_way queues its x zero le told = absurd told
  titles_way queues its x (suc t) le told =
      by_case (among_two x (titles_obstacles r queues t) (flat_map (hold_obstacles r t) (queues t)) told)
      (titles_way queues its x t (omega (arith, le)))
    where
      by_case : IsAmong x (titles_obstacles r queues t) ⊎ IsAmong x (flat_map (hold_obstacles r t) (queues t))
          → (IsAmong x (titles_obstacles r queues t) → Way x) → Way x
      by_case (inl told) before = before told
      by_case (inr told) before =
          let queue : IsQueueOf k d t (queues t) = its.queue t (omega (arith, le)) in
          queue_way x t (queues t) queue.once (λ p h is. queue.each p ∙ is) told

  -- what is told is in the way
  told_way : (queues : ℕ → List Hold) → AreQueuesOf k d queues → (x : Obstacle)
      → IsAmong x (obstacles r k d queues) → Way x
  told_way queues its x told =
      by_case (among_two x (copies_obstacles r d k.copies) (titles_obstacles r queues k.titles) told)
    where
      by_case : IsAmong x (copies_obstacles r d k.copies) ⊎ IsAmong x (titles_obstacles r queues k.titles)
          → Way x
      by_case (inl told) = copies_way x k.copies (omega arith) told
      by_case (inr told) = titles_way queues its x k.titles (omega arith) told

  -- one of a copy is told
  of_copy : (x : Obstacle) (c n : ℕ) → c < n → IsAmong x (copy_obstacles r c (d.copy c))
      → IsAmong x (copies_obstacles r d n)
  of_copy x c zero l told = absurd (omega (arith, l))
  of_copy x c (suc n) l told = by_case (below_or_this c n l) (λ below. of_copy x c n below told)
    where
      by_case : (c < n) ⊎ (c ≡ n) → (c < n → IsAmong x (copies_obstacles r d n))
          → IsAmong x (copies_obstacles r d (suc n))
      by_case (inl below) before =
          among_first x (copies_obstacles r d n) (copy_obstacles r n (d.copy n)) (before below)
      by_case (inr this) before =
          among_second x (copies_obstacles r d n) (copy_obstacles r n (d.copy n))
          (subst (λ (m : ℕ). IsAmong x (copy_obstacles r m (d.copy m))) this told)

  -- one of a hold is told
  in_queue : (x : Obstacle) (t p : ℕ) (g : Hold) (queue : List Hold) → find (λ h. h.patron == p) queue
      ≡ Some g
      → IsAmong x (hold_obstacles r t g) → IsAmong x (flat_map (hold_obstacles r t) queue)
  in_queue x t p g [] is told = absurd (none_hold g None refl is)
  in_queue x t p g (h ∷ queue) is told =
      by_test (h.patron == p) refl (λ later. in_queue x t p g queue later told)
    where
      by_test : (b : Bool) → (h.patron == p) ≡ b
          → (find (λ y. y.patron == p) queue ≡ Some g → IsAmong x (flat_map (hold_obstacles r t) queue))
          → IsAmong x (flat_map (hold_obstacles r t) (h ∷ queue))
      by_test true same rest =
          let first : Some h ≡ Some g =
          subst (λ (b : Bool). cond b (Some h) (find (λ y. y.patron == p) queue) ≡ Some g) same is in
          let one : h ≡ g = cc in
          among_first x (hold_obstacles r t h) (flat_map (hold_obstacles r t) queue)
          (subst (λ (y : Hold). IsAmong x (hold_obstacles r t y)) (sym one) told)
      by_test false other rest =
          among_second x (hold_obstacles r t h) (flat_map (hold_obstacles r t) queue)
          (rest (subst (λ (b : Bool). cond b (Some h) (find (λ y. y.patron == p) queue) ≡ Some g) other is))

  of_title : (x : Obstacle) (queues : ℕ → List Hold) (t n : ℕ) → t < n
      → IsAmong x (flat_map (hold_obstacles r t) (queues t))
      → IsAmong x (titles_obstacles r queues n)
  of_title x queues t zero l told = absurd (omega (arith, l))
  of_title x queues t (suc n) l told =
      by_case (below_or_this t n l) (λ below. of_title x queues t n below told)
    where
      by_case : (t < n) ⊎ (t ≡ n) → (t < n → IsAmong x (titles_obstacles r queues n))
          → IsAmong x (titles_obstacles r queues (suc n))
      by_case (inl below) before =
          among_first x (titles_obstacles r queues n) (flat_map (hold_obstacles r n) (queues n))
          (before below)
      by_case (inr this) before =
          among_second x (titles_obstacles r queues n) (flat_map (hold_obstacles r n) (queues n))
          (subst (λ (m : ℕ). IsAmong x (flat_map (hold_obstacles r m) (queues m))) this told)

  module _ (queues : ℕ → List Hold) (its : AreQueuesOf k d queues) (named : AreNamed d.hold) where
    abbrev every : List Obstacle
    every = obstacles r k d queues

    by_copy_told : (x : Obstacle) (c : ℕ) → c < k.copies → (s : CopyState) → d.copy c ≡ s
        → IsAmong x (copy_obstacles r c s) → IsAmong x every
    by_copy_told x c in_c s is told =
        among_first x (copies_obstacles r d k.copies) (titles_obstacles r queues k.titles)
        (of_copy x c k.copies in_c
        (subst (λ (w : CopyState). IsAmong x (copy_obstacles r c w)) (sym is) told))

    by_hold_told : (x : Obstacle) (t p : ℕ) (g : Hold) → d.hold t p ≡ Some g
        → IsAmong x (hold_obstacles r t g) → IsAmong x every
    by_hold_told x t p g is told = by_case (cases_lt t k.titles)
      where
        by_case : (t < k.titles) ⊎ (k.titles ≤ t) → IsAmong x every
        by_case (inl in_t) =
            let queue : IsQueueOf k d t (queues t) = its.queue t in_t in
            among_second x (copies_obstacles r d k.copies) (titles_obstacles r queues k.titles)
            (of_title x queues t k.titles in_t (in_queue x t p g (queues t) (sym (queue.each p) ∙ is) told))
        by_case (inr past) = absurd (none_hold g (d.hold t p) (its.past t p past) is)

    -- a hold under its own patron
    held : (x : Obstacle) (t p : ℕ) (g : Hold) → d.hold t p ≡ Some g
        → (g.patron ≡ p → IsAmong x (hold_obstacles r t g)) → IsAmong x every
    held x t p g is told = by_hold_told x t p g is (told (named t p g is))

    -- what is in the way is told
    way_told : (x : Obstacle) → (x ≡ NumbersUsedUp → ⊥) → Way x → IsAmong x every
    way_told (MissingCopy c s) other way = by_state s way.1 way.2
      where
        by_state : (s : CopyState) → d.copy c ≡ s → is_on_shelf s ≡ false → IsAmong (MissingCopy c s) every
        by_state (Shelf b) is away = absurd (let never : true ≡ false = away in cc)
        by_state (OnLoan l) is away =
            by_copy_told (MissingCopy c (OnLoan l)) c way.0 (OnLoan l) is
            (among_first (MissingCopy c (OnLoan l)) (where_lacking (r.copy c) (MissingCopy c (OnLoan l)))
            (where_lacking (r.patron l.patron) (MissingBorrower c l.patron))
            (lacking (MissingCopy c (OnLoan l)) (r.copy c) way.3))
        by_state (OnHoldShelf w) is away =
            by_copy_told (MissingCopy c (OnHoldShelf w)) c way.0 (OnHoldShelf w) is
            (among_first (MissingCopy c (OnHoldShelf w))
            (where_lacking (r.copy c) (MissingCopy c (OnHoldShelf w)))
            (where_lacking (r.branch w.branch) (MissingBranch w.branch c))
            (lacking (MissingCopy c (OnHoldShelf w)) (r.copy c) way.3))
        by_state (InTransit t) is away =
            by_copy_told (MissingCopy c (InTransit t)) c way.0 (InTransit t) is
            (among_first (MissingCopy c (InTransit t))
            (where_lacking (r.copy c) (MissingCopy c (InTransit t)) ++ where_lacking (r.branch t.from)
            (MissingWayEnd t.from c))
            (arrival_obstacles r c t.from t.to)
            (among_first (MissingCopy c (InTransit t))
            (where_lacking (r.copy c) (MissingCopy c (InTransit t)))
            (where_lacking (r.branch t.from) (MissingWayEnd t.from c))
            (lacking (MissingCopy c (InTransit t)) (r.copy c) way.3)))
    way_told (MissingBorrower c p) other way = by_state (d.copy c) refl way.1
      where
        by_state : (s : CopyState) → d.copy c ≡ s → IsLentTo p s → IsAmong (MissingBorrower c p) every
        by_state (Shelf b) is lent = absurd lent
        by_state (OnHoldShelf w) is lent = absurd lent
        by_state (InTransit t) is lent = absurd lent
        by_state (OnLoan l) is lent =
            by_copy_told (MissingBorrower c p) c way.0 (OnLoan l) is
            (among_second (MissingBorrower c p) (where_lacking (r.copy c) (MissingCopy c (OnLoan l)))
            (where_lacking (r.patron l.patron) (MissingBorrower c l.patron))
            (subst (λ (q : ℕ). IsAmong (MissingBorrower c p)
            (where_lacking (r.patron q) (MissingBorrower c q))) (sym lent)
            (lacking (MissingBorrower c p) (r.patron p) way.2)))
    way_told (MissingBranch b c) other way = by_state (d.copy c) refl way.1
      where
        on_shelf : (a : ℕ) (o : Option ℕ) → IsBranchOf b o (Shelf a)
            → IsAmong (MissingBranch b c) (shelf_obstacles r c o a)
        on_shelf a None at = absurd at
        on_shelf a (Some x) at =
            subst (λ (m : ℕ). IsAmong (MissingBranch b c) (where_lacking (r.branch m) (MissingBranch m c)))
            (sym at)
            (lacking (MissingBranch b c) (r.branch b) way.2)

        by_state : (s : CopyState) → d.copy c ≡ s → IsBranchOf b (r.copy c) s
            → IsAmong (MissingBranch b c) every
        by_state (Shelf a) is at =
            by_copy_told (MissingBranch b c) c way.0 (Shelf a) is (on_shelf a (r.copy c) at)
        by_state (OnHoldShelf w) is at =
            by_copy_told (MissingBranch b c) c way.0 (OnHoldShelf w) is
            (among_second (MissingBranch b c) (where_lacking (r.copy c) (MissingCopy c (OnHoldShelf w)))
            (where_lacking (r.branch w.branch) (MissingBranch w.branch c))
            (subst (λ (m : ℕ). IsAmong (MissingBranch b c) (where_lacking (r.branch m) (MissingBranch m c)))
            (sym at)
            (lacking (MissingBranch b c) (r.branch b) way.2)))
        by_state (OnLoan l) is at = absurd at
        by_state (InTransit t) is at = absurd at
    way_told (MissingWayEnd b c) other way = by_state (d.copy c) refl way.1
      where
        at_branch : (m : ℕ) → m ≡ b
            → IsAmong (MissingWayEnd b c) (where_lacking (r.branch m) (MissingWayEnd m c))
        at_branch m same =
            subst (λ (n : ℕ). IsAmong (MissingWayEnd b c) (where_lacking (r.branch n) (MissingWayEnd n c)))
            (sym same)
            (lacking (MissingWayEnd b c) (r.branch b) way.2)

        sent : (t : Transit) → d.copy c ≡ InTransit t → t.from ≡ b → IsAmong (MissingWayEnd b c) every
        sent t is from =
            by_copy_told (MissingWayEnd b c) c way.0 (InTransit t) is
            (among_first (MissingWayEnd b c)
            (where_lacking (r.copy c) (MissingCopy c (InTransit t)) ++ where_lacking (r.branch t.from)
            (MissingWayEnd t.from c))
            (arrival_obstacles r c t.from t.to)
            (among_second (MissingWayEnd b c) (where_lacking (r.copy c) (MissingCopy c (InTransit t)))
            (where_lacking (r.branch t.from) (MissingWayEnd t.from c)) (at_branch t.from from)))

        -- told as the one that gets the copy, unless it sent it too
        got : (t : Transit) → d.copy c ≡ InTransit t → t.to ≡ b → (same : Bool) → (t.to == t.from) ≡ same
            → IsAmong (MissingWayEnd b c) every
        got t is to true same = sent t is (sym (eqb-true t.to t.from same) ∙ to)
        got t is to false apart =
            by_copy_told (MissingWayEnd b c) c way.0 (InTransit t) is
            (among_second (MissingWayEnd b c)
            (where_lacking (r.copy c) (MissingCopy c (InTransit t)) ++ where_lacking (r.branch t.from)
            (MissingWayEnd t.from c))
            (arrival_obstacles r c t.from t.to)
            (subst (λ (same : Bool). IsAmong (MissingWayEnd b c)
            (cond same [] (where_lacking (r.branch t.to) (MissingWayEnd t.to c))))
            (sym apart) (at_branch t.to to)))

        by_state : (s : CopyState) → d.copy c ≡ s → IsOnWay b s → IsAmong (MissingWayEnd b c) every
        by_state (Shelf a) is at = absurd at
        by_state (OnLoan l) is at = absurd at
        by_state (OnHoldShelf w) is at = absurd at
        by_state (InTransit t) is (inl from) = sent t is from
        by_state (InTransit t) is (inr to) = got t is to (t.to == t.from) refl
    way_told (MissingTitle t p) other way = by_hold way.0.0 way.0.1
      where
        by_hold : (g : Hold) → d.hold t p ≡ Some g → IsAmong (MissingTitle t p) every
        by_hold g is =
            held (MissingTitle t p) t p g is (λ own.
            subst (λ (q : ℕ). IsAmong (MissingTitle t q) (hold_obstacles r t g)) own
            (among_first (MissingTitle t g.patron)
            (title t g ++ patron t g ++ pickup t g)
            (kind t g)
            (among_first (MissingTitle t g.patron)
            (title t g ++ patron t g)
            (pickup t g)
            (among_first (MissingTitle t g.patron) (title t g)
            (patron t g) (lacking (MissingTitle t g.patron) (r.title t) way.1)))))
    way_told (MissingHolder t p) other way = by_hold way.0.0 way.0.1
      where
        by_hold : (g : Hold) → d.hold t p ≡ Some g → IsAmong (MissingHolder t p) every
        by_hold g is =
            held (MissingHolder t p) t p g is (λ own.
            subst (λ (q : ℕ). IsAmong (MissingHolder t q) (hold_obstacles r t g)) own
            (among_first (MissingHolder t g.patron)
            (title t g ++ patron t g ++ pickup t g)
            (kind t g)
            (among_first (MissingHolder t g.patron)
            (title t g ++ patron t g)
            (pickup t g)
            (among_second (MissingHolder t g.patron) (title t g)
            (patron t g)
            (lacking (MissingHolder t g.patron) (r.patron g.patron)
            (subst (λ (q : ℕ). r.patron q ≡ None) (sym own) way.1))))))
    way_told (MissingPickup b t p) other way = by_hold way.0 way.1 way.2
      where
        by_hold : (g : Hold) → d.hold t p ≡ Some g → g.pickup ≡ b → IsAmong (MissingPickup b t p) every
        by_hold g is at =
            held (MissingPickup b t p) t p g is (λ own.
            subst (λ (q : ℕ). IsAmong (MissingPickup b t q) (hold_obstacles r t g)) own
            (subst (λ (m : ℕ). IsAmong (MissingPickup m t g.patron) (hold_obstacles r t g)) at
            (among_first (MissingPickup g.pickup t g.patron)
            (title t g ++ patron t g ++ pickup t g)
            (kind t g)
            (among_second (MissingPickup g.pickup t g.patron)
            (title t g ++ patron t g)
            (pickup t g)
            (lacking (MissingPickup g.pickup t g.patron) (r.branch g.pickup)
            (subst (λ (m : ℕ). r.branch m ≡ None) (sym at) way.3))))))
    way_told (MissingOnlyCopy t p c) other way = by_hold way.0 way.1 way.2
      where
        by_hold : (g : Hold) → d.hold t p ≡ Some g → g.kind ≡ One c → IsAmong (MissingOnlyCopy t p c) every
        by_hold g is same =
            held (MissingOnlyCopy t p c) t p g is (λ own.
            subst (λ (q : ℕ). IsAmong (MissingOnlyCopy t q c) (hold_obstacles r t g)) own
            (among_second (MissingOnlyCopy t g.patron c)
            (title t g ++ patron t g ++ pickup t g)
            (kind t g)
            (subst (λ (kind : HoldKind). IsAmong (MissingOnlyCopy t g.patron c)
            (kind_obstacles r t g.patron kind)) (sym same)
            (lacking (MissingOnlyCopy t g.patron c) (r.copy c) way.3))))
    way_told NumbersUsedUp other way = absurd (other refl)

    -- that the numbers are used up
    used_up : (x : Obstacle) → IsAmong x (number_obstacles last j) → Way x
    used_up x told = by_test (nat_lt MOST_GIVEN (last + j.command_limit)) refl told
      where
        by_test : (b : Bool) → nat_lt MOST_GIVEN (last + j.command_limit) ≡ b
            → IsAmong x (cond b (NumbersUsedUp ∷ []) []) → Way x
        by_test false is told = absurd told
        by_test true is (inl this) =
            is_way x NumbersUsedUp this (ltb-true MOST_GIVEN (last + j.command_limit) is)
        by_test true is (inr later) = absurd later

    numbers_told : Way NumbersUsedUp → IsAmong NumbersUsedUp (number_obstacles last j)
    numbers_told l =
        subst (λ (b : Bool). IsAmong NumbersUsedUp (cond b (NumbersUsedUp ∷ []) []))
        (sym (lt-ltb MOST_GIVEN (last + j.command_limit) l)) (inl refl)

    all_told : (x : Obstacle) → IsAmong x (every ++ number_obstacles last j) → Way x
    all_told x told = by_case (among_two x every (number_obstacles last j) told)
      where
        by_case : IsAmong x every ⊎ IsAmong x (number_obstacles last j) → Way x
        by_case (inl told) = told_way queues its x told
        by_case (inr told) = used_up x told

    way_of_all : (x : Obstacle) → Way x → IsAmong x (every ++ number_obstacles last j)
    way_of_all NumbersUsedUp way =
        among_second NumbersUsedUp every (number_obstacles last j) (numbers_told way)
    way_of_all (MissingCopy c s) way =
        among_first (MissingCopy c s) every (number_obstacles last j)
        (way_told (MissingCopy c s) (λ e. cc) way)
    way_of_all (MissingBorrower c p) way =
        among_first (MissingBorrower c p) every (number_obstacles last j)
        (way_told (MissingBorrower c p) (λ e. cc) way)
    way_of_all (MissingHolder t p) way =
        among_first (MissingHolder t p) every (number_obstacles last j)
        (way_told (MissingHolder t p) (λ e. cc) way)
    way_of_all (MissingTitle t p) way =
        among_first (MissingTitle t p) every (number_obstacles last j)
        (way_told (MissingTitle t p) (λ e. cc) way)
    way_of_all (MissingBranch b c) way =
        among_first (MissingBranch b c) every (number_obstacles last j)
        (way_told (MissingBranch b c) (λ e. cc) way)
    way_of_all (MissingWayEnd b c) way =
        among_first (MissingWayEnd b c) every (number_obstacles last j)
        (way_told (MissingWayEnd b c) (λ e. cc) way)
    way_of_all (MissingPickup b t p) way =
        among_first (MissingPickup b t p) every (number_obstacles last j)
        (way_told (MissingPickup b t p) (λ e. cc) way)
    way_of_all (MissingOnlyCopy t p c) way =
        among_first (MissingOnlyCopy t p c) every (number_obstacles last j)
        (way_told (MissingOnlyCopy t p c) (λ e. cc) way)

    pub told_exactly : (x : Obstacle) → IsAmong x (every ++ number_obstacles last j) ↔ Way x
    told_exactly x = (all_told x, way_of_all x)
