-- Where a desk is carried over, nothing was in the way.
use Rattle.std.proofs.Common.{◌≡◌, refl, sym, ◌∙◌, subst, ℕ, zero, suc, ◌<◌, ◌≤◌, ◌==◌, ◌⊎◌, inl, inr, Bool}
use Rattle.std.proofs.Common.{true, false, cond, Option}
use Rattle.std.proofs.Common.{Some, None}
use Rattle.std.proofs.Common.{List, [], ◌∷◌, ◌++◌, find, flat_map, arith}
use Rattle.hd_rules.specs.declared.holds.Hold.{Hold}
use Rattle.hd_rules.specs.declared.holds.HoldKind.{HoldKind}
use Rattle.hd_rules.specs.declared.holds.HoldKind.TheVariants.{Any, One, AtBranch}
use Rattle.hd_rules.specs.declared.copies.CopyState.{CopyState}
use Rattle.hd_rules.specs.declared.copies.CopyState.TheVariants.{Shelf, OnLoan, OnHoldShelf, InTransit}
use Rattle.hd_rules.specs.Desk.{Desk}
use Rattle.hd_rules.specs.Facts.{Facts}
use Rattle.hd_rules.specs.Choose.{is_on_shelf}
use Rattle.hd_rules.specs.Carry.{Renumbering, IsByNames, IsSamePlace, IsSameKind, IsSameHeld, Stayed, IsAdded}
use Rattle.hd_rules.specs.Carry.{Later}
use Rattle.hd_rules.specs.Carry.{IsCarriedOver}
use Rattle.hd_queue.specs.Holds.{HasPatronsOnce}
use Rattle.hd_desk.specs.Asking.{IsQueueOf, AreQueuesOf}
use Rattle.hd_carry.specs.declared.obstacle.Obstacle.{Obstacle}
use Rattle.hd_carry.specs.declared.obstacle.Obstacle.TheVariants.{MissingCopy, MissingBorrower, MissingHolder}
use Rattle.hd_carry.specs.declared.obstacle.Obstacle.TheVariants.{MissingTitle}
use Rattle.hd_carry.specs.declared.obstacle.Obstacle.TheVariants.{MissingBranch, MissingWayEnd, MissingPickup}
use Rattle.hd_carry.specs.declared.obstacle.Obstacle.TheVariants.{MissingOnlyCopy}
use Rattle.hd_carry.specs.Obstacles.{where_lacking, shelf_obstacles, arrival_obstacles, copy_obstacles}
use Rattle.hd_carry.specs.Obstacles.{kind_obstacles, hold_obstacles}
use Rattle.hd_carry.specs.Obstacles.{copies_obstacles, titles_obstacles, obstacles}
use Rattle.hd_carry.proofs.Queues.{find_first, of_rest_at}

no_obstacle : (o : Option ℕ) (z : Obstacle) (m : ℕ) → o ≡ Some m → where_lacking o z ≡ []
no_obstacle o z m is = subst (λ (x : Option ℕ). where_lacking x z ≡ []) (sym is) refl

two_empty : (a b : List Obstacle) → a ≡ [] → b ≡ [] → a ++ b ≡ []
two_empty [] b one two = two
two_empty (x ∷ a) b one two = cc

module _ (k j : Facts) (r : Renumbering) (d e : Desk) (names : IsByNames k j r)
    (over : IsCarriedOver r k j d e) where
  -- a copy that is there stands as it stood
  place : (c x : ℕ) → r.copy c ≡ Some x → IsSamePlace r (d.copy c) (e.copy x)
  place c x same = by_case (over.copies x)
    where
      by_case : Stayed r k d e x ⊎ IsAdded r j e x → IsSamePlace r (d.copy c) (e.copy x)
      by_case (inl stayed) =
          subst (λ (m : ℕ). IsSamePlace r (d.copy m) (e.copy x))
          (names.copies stayed.copy c x stayed.same same) stayed.place
      by_case (inr added) = absurd (added.none c same)

  -- a copy that isn't on an open shelf is there
  there : (c : ℕ) → c < k.copies → is_on_shelf (d.copy c) ≡ false → (x : ℕ) × (r.copy c ≡ Some x)
  there c in_c away = by_copy (r.copy c) refl
    where
      by_copy : (o : Option ℕ) → r.copy c ≡ o → (x : ℕ) × (r.copy c ≡ Some x)
      by_copy None same = absurd (let never : true ≡ false = sym (over.gone c in_c same) ∙ away in cc)
      by_copy (Some x) same = (x, same)

  no_arrival : (c from to m : ℕ) → r.branch to ≡ Some m → arrival_obstacles r c from to ≡ []
  no_arrival c from to m is = by_ends (to == from)
    where
      by_ends : (same : Bool) → cond same [] (where_lacking (r.branch to) (MissingWayEnd to c)) ≡ []
      by_ends true = refl
      by_ends false = no_obstacle (r.branch to) (MissingWayEnd to c) m is

  -- what a place names has new numbers
  free_place : (c : ℕ) → c < k.copies → (s : CopyState) → d.copy c ≡ s → copy_obstacles r c s ≡ []
  free_place c in_c (Shelf b) is = by_copy (r.copy c) refl
    where
      at_new : (x : ℕ) (t : CopyState) → IsSamePlace r (Shelf b) t
          → where_lacking (r.branch b) (MissingBranch b c) ≡ []
      at_new x (Shelf a) same = no_obstacle (r.branch b) (MissingBranch b c) a same
      at_new x (OnLoan l) same = absurd same
      at_new x (OnHoldShelf s) same = absurd same
      at_new x (InTransit t) same = absurd same

      by_copy : (o : Option ℕ) → r.copy c ≡ o → shelf_obstacles r c o b ≡ []
      by_copy None same = refl
      by_copy (Some x) same =
          at_new x (e.copy x) (subst (λ (s : CopyState). IsSamePlace r s (e.copy x)) is (place c x same))
  free_place c in_c (OnLoan l) is =
      let new : (x : ℕ) × (r.copy c ≡ Some x) =
      there c in_c (subst (λ (s : CopyState). is_on_shelf s ≡ false) (sym is) refl) in
      two_empty (where_lacking (r.copy c) (MissingCopy c (OnLoan l)))
      (where_lacking (r.patron l.patron) (MissingBorrower c l.patron))
      (no_obstacle (r.copy c) (MissingCopy c (OnLoan l)) new.0 new.1)
      (at_new (e.copy new.0)
      (subst (λ (s : CopyState). IsSamePlace r s (e.copy new.0)) is (place c new.0 new.1)))
    where
      at_new : (t : CopyState) → IsSamePlace r (OnLoan l) t
          → where_lacking (r.patron l.patron) (MissingBorrower c l.patron) ≡ []
      at_new (OnLoan m) same = no_obstacle (r.patron l.patron) (MissingBorrower c l.patron) m.patron same.0
      at_new (Shelf a) same = absurd same
      at_new (OnHoldShelf s) same = absurd same
      at_new (InTransit t) same = absurd same
  free_place c in_c (OnHoldShelf s) is =
      let new : (x : ℕ) × (r.copy c ≡ Some x) =
      there c in_c (subst (λ (s : CopyState). is_on_shelf s ≡ false) (sym is) refl) in
      two_empty (where_lacking (r.copy c) (MissingCopy c (OnHoldShelf s)))
      (where_lacking (r.branch s.branch) (MissingBranch s.branch c))
      (no_obstacle (r.copy c) (MissingCopy c (OnHoldShelf s)) new.0 new.1)
      (at_new (e.copy new.0)
      (subst (λ (s : CopyState). IsSamePlace r s (e.copy new.0)) is (place c new.0 new.1)))
    where
      at_new : (t : CopyState) → IsSamePlace r (OnHoldShelf s) t
          → where_lacking (r.branch s.branch) (MissingBranch s.branch c) ≡ []
      at_new (OnHoldShelf z) same = no_obstacle (r.branch s.branch) (MissingBranch s.branch c) z.branch same.0
      at_new (Shelf a) same = absurd same
      at_new (OnLoan m) same = absurd same
      at_new (InTransit t) same = absurd same
  free_place c in_c (InTransit t) is =
      let new : (x : ℕ) × (r.copy c ≡ Some x) =
      there c in_c (subst (λ (s : CopyState). is_on_shelf s ≡ false) (sym is) refl) in
      at_new (no_obstacle (r.copy c) (MissingCopy c (InTransit t)) new.0 new.1) (e.copy new.0)
      (subst (λ (s : CopyState). IsSamePlace r s (e.copy new.0)) is (place c new.0 new.1))
    where
      at_new : where_lacking (r.copy c) (MissingCopy c (InTransit t)) ≡ [] → (u : CopyState)
          → IsSamePlace r (InTransit t) u
          → copy_obstacles r c (InTransit t) ≡ []
      at_new free (InTransit u) same =
          two_empty
          (where_lacking (r.copy c) (MissingCopy c (InTransit t)) ++ where_lacking (r.branch t.from)
          (MissingWayEnd t.from c))
          (arrival_obstacles r c t.from t.to)
          (two_empty (where_lacking (r.copy c) (MissingCopy c (InTransit t)))
          (where_lacking (r.branch t.from) (MissingWayEnd t.from c)) free
          (no_obstacle (r.branch t.from) (MissingWayEnd t.from c) u.from same.0))
          (no_arrival c t.from t.to u.to same.1)
      at_new free (Shelf a) same = absurd same
      at_new free (OnLoan m) same = absurd same
      at_new free (OnHoldShelf s) same = absurd same

  free_copies : (n : ℕ) → n ≤ k.copies → copies_obstacles r d n ≡ []
  free_copies zero le = refl
  free_copies (suc c) le =
      two_empty (copies_obstacles r d c) (copy_obstacles r c (d.copy c)) (free_copies c (omega (arith, le)))
      (free_place c (omega (arith, le)) (d.copy c) refl)

  free_kind : (t p : ℕ) (a b : HoldKind) → IsSameKind r a b → kind_obstacles r t p a ≡ []
  free_kind t p Any b same = refl
  free_kind t p AtBranch b same = refl
  free_kind t p (One c) (One x) same = no_obstacle (r.copy c) (MissingOnlyCopy t p c) x same
  free_kind t p (One c) Any same = absurd same
  free_kind t p (One c) AtBranch same = absurd same

  -- what a hold names has new numbers
  free_hold : (t : ℕ) (g : Hold) → d.hold t g.patron ≡ Some g → hold_obstacles r t g ≡ []
  free_hold t g is =
      let later : Later r t g.patron = over.kept t g.patron g is in
      by_new later (e.hold later.title later.patron)
      (subst (λ (o : Option Hold). IsSameHeld r o (e.hold later.title later.patron)) is
      (over.holds t later.title g.patron later.patron later.same_title later.same_patron))
    where
      by_new : Later r t g.patron → (o : Option Hold) → IsSameHeld r (Some g) o → hold_obstacles r t g ≡ []
      by_new later None same = absurd same
      by_new later (Some h) same =
          let title : List Obstacle = where_lacking (r.title t) (MissingTitle t g.patron) in
          let patron : List Obstacle = where_lacking (r.patron g.patron) (MissingHolder t g.patron) in
          let pickup : List Obstacle =
          where_lacking (r.branch g.pickup) (MissingPickup g.pickup t g.patron) in
          two_empty (title ++ patron ++ pickup) (kind_obstacles r t g.patron g.kind)
          (two_empty (title ++ patron) pickup
          (two_empty title patron
          (no_obstacle (r.title t) (MissingTitle t g.patron) later.title later.same_title)
          (no_obstacle (r.patron g.patron) (MissingHolder t g.patron) later.patron later.same_patron))
          (no_obstacle (r.branch g.pickup) (MissingPickup g.pickup t g.patron) h.pickup same.pickup))
          (free_kind t g.patron g.kind h.kind same.kind)

  free_queue : (t : ℕ) (queue : List Hold) → HasPatronsOnce queue
      → ((p : ℕ) (h : Hold) → find (λ x. x.patron == p) queue ≡ Some h → d.hold t p ≡ Some h)
      → flat_map (hold_obstacles r t) queue ≡ []
  free_queue t [] once of = refl
  free_queue t (g ∷ queue) once of =
      two_empty (hold_obstacles r t g) (flat_map (hold_obstacles r t) queue)
      (free_hold t g (of g.patron g (find_first g queue)))
      (free_queue t queue once.1 (of_rest_at d t g queue once.0 of))

  module _ (queues : ℕ → List Hold) (its : AreQueuesOf k d queues) where
    free_titles : (n : ℕ) → n ≤ k.titles → titles_obstacles r queues n ≡ []
    free_titles zero le = refl
    free_titles (suc t) le =
        let queue : IsQueueOf k d t (queues t) = its.queue t (omega (arith, le)) in
        two_empty (titles_obstacles r queues t) (flat_map (hold_obstacles r t) (queues t))
        (free_titles t (omega (arith, le)))
        (free_queue t (queues t) queue.once (λ p h is. queue.each p ∙ is))

    pub nothing_is_in_the_way : obstacles r k d queues ≡ []
    nothing_is_in_the_way =
        two_empty (copies_obstacles r d k.copies) (titles_obstacles r queues k.titles)
        (free_copies k.copies (omega arith))
        (free_titles k.titles (omega arith))
