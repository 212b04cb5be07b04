-- No obstacle is told twice.
use Rattle.std.proofs.Common.{◌≡◌, refl, sym, subst, ℕ, zero, suc, ◌<◌, ◌≤◌, ◌==◌, ◌⊎◌, inl, inr, Bool, true}
use Rattle.std.proofs.Common.{false, Option}
use Rattle.std.proofs.Common.{◌+◌, nat_lt, Some, None, List, [], ◌∷◌, ◌++◌, cond, find, flat_map, append-nil}
use Rattle.std.proofs.Common.{arith}
use Rattle.hd_rules.specs.declared.holds.Hold.{Hold}
use Rattle.hd_rules.specs.declared.holds.HoldKind.{HoldKind}
use Rattle.hd_rules.specs.declared.holds.HoldKind.TheVariants.{Any, One, AtBranch}
use Rattle.hd_rules.specs.declared.copies.CopyState.{CopyState}
use Rattle.hd_rules.specs.declared.copies.CopyState.TheVariants.{Shelf, OnLoan, OnHoldShelf, InTransit}
use Rattle.hd_rules.specs.declared.limits.TheConstants.{MOST_GIVEN}
use Rattle.hd_rules.specs.Desk.{Desk}
use Rattle.hd_rules.specs.Facts.{Facts}
use Rattle.hd_rules.specs.Run.{IsAmong}
use Rattle.hd_rules.specs.Carry.{Renumbering}
use Rattle.hd_queue.specs.Holds.{HasPatronsOnce}
use Rattle.hd_carry.specs.declared.obstacle.Obstacle.{Obstacle}
use Rattle.hd_carry.specs.declared.obstacle.Obstacle.TheVariants.{MissingCopy, MissingBorrower, MissingHolder}
use Rattle.hd_carry.specs.declared.obstacle.Obstacle.TheVariants.{MissingTitle}
use Rattle.hd_carry.specs.declared.obstacle.Obstacle.TheVariants.{MissingBranch, MissingWayEnd, MissingPickup}
use Rattle.hd_carry.specs.declared.obstacle.Obstacle.TheVariants.{MissingOnlyCopy, NumbersUsedUp}
use Rattle.hd_carry.specs.Faults.{IsEachOnce}
use Rattle.hd_carry.specs.Obstacles.{number_obstacles, where_lacking, shelf_obstacles, copy_obstacles}
use Rattle.hd_carry.specs.Obstacles.{kind_obstacles, hold_obstacles, copies_obstacles, titles_obstacles}
use Rattle.hd_carry.specs.Obstacles.{obstacles}
use Rattle.hd_carry.proofs.Exact.{among_two, lacked}
use Rattle.hd_carry.proofs.Numbers.{none_hold}
use Rattle.hd_lemmas.proofs.Tests.{number_not}

-- each of these is so
abbrev Each : (Obstacle → Type 0) → List Obstacle → Type 0
Each P xs = (x : Obstacle) → IsAmong x xs → P x

each_two : (P : Obstacle → Type 0) (a b : List Obstacle) → Each P a → Each P b → Each P (a ++ b)
each_two P a b one two x told = by_case (among_two x a b told)
  where
    by_case : IsAmong x a ⊎ IsAmong x b → P x
    by_case (inl told) = one x told
    by_case (inr told) = two x told

each_lacking : (P : Obstacle → Type 0) (o : Option ℕ) (z : Obstacle) → P z → Each P (where_lacking o z)
each_lacking P o z is x told = subst P (sym (lacked x z o told).0) is

-- two lists, where none of the one is in the other
once_two : (P : Obstacle → Type 0) (a b : List Obstacle) → Each P a → Each (λ x. P x → ⊥) b → IsEachOnce a
    → IsEachOnce b
    → IsEachOnce (a ++ b)
once_two P [] b are not one two = two
once_two P (x ∷ a) b are not one two =
    (λ later. by_case (among_two x a b later), once_two P a b (λ y told. are y (inr told)) not one.1 two)
  where
    by_case : IsAmong x a ⊎ IsAmong x b → ⊥
    by_case (inl first) = one.0 first
    by_case (inr second) = not x second (are x (inl refl))

once_lacking : (o : Option ℕ) (z : Obstacle) → IsEachOnce (where_lacking o z)
once_lacking None z = (λ later. later, tt)
once_lacking (Some m) z = tt

-- where an obstacle stands in the list: those of copies, those of holds by what they name, that of numbers
abbrev rank : Obstacle → ℕ
rank (MissingCopy c s) = 0
rank (MissingBorrower c p) = 1
rank (MissingBranch b c) = 1
rank (MissingWayEnd b c) = 1
rank (MissingTitle t p) = 2
rank (MissingHolder t p) = 3
rank (MissingPickup b t p) = 4
rank (MissingOnlyCopy t p c) = 5
rank NumbersUsedUp = 6

-- the number of its copy; of its title; of its patron
abbrev copy_in : Obstacle → ℕ
copy_in (MissingCopy c s) = c
copy_in (MissingBorrower c p) = c
copy_in (MissingBranch b c) = c
copy_in (MissingWayEnd b c) = c
copy_in x = 0

abbrev title_in : Obstacle → ℕ
title_in (MissingTitle t p) = t
title_in (MissingHolder t p) = t
title_in (MissingPickup b t p) = t
title_in (MissingOnlyCopy t p c) = t
title_in x = 0

abbrev patron_in : Obstacle → ℕ
patron_in (MissingTitle t p) = p
patron_in (MissingHolder t p) = p
patron_in (MissingPickup b t p) = p
patron_in (MissingOnlyCopy t p c) = p
patron_in x = 0

-- lists in order of a number
once_below : (f : Obstacle → ℕ) (n : ℕ) (a b : List Obstacle) → Each (λ x. f x < n) a → Each (λ x. n ≤ f x) b
    → IsEachOnce a
    → IsEachOnce b → IsEachOnce (a ++ b)
once_below f n a b under over one two =
    once_two (λ x. f x < n) a b under
    (λ x told less. (let above : n ≤ f x = over x told in absurd (omega (arith, less, above)))) one two

module _ (r : Renumbering) where
  -- those of a copy
  module _ (c : ℕ) where
    abbrev gone : CopyState → List Obstacle
    gone s = where_lacking (r.copy c) (MissingCopy c s)

    abbrev sender : ℕ → List Obstacle
    sender from = where_lacking (r.branch from) (MissingWayEnd from c)

    each_shelf : (P : Obstacle → Type 0) (o : Option ℕ) (b : ℕ) → P (MissingBranch b c)
        → Each P (shelf_obstacles r c o b)
    each_shelf P None b is x told = absurd told
    each_shelf P (Some y) b is x told = each_lacking P (r.branch b) (MissingBranch b c) is x told

    abbrev arrival : Bool → ℕ → List Obstacle
    arrival same to = cond same [] (where_lacking (r.branch to) (MissingWayEnd to c))

    each_arrival : (P : Obstacle → Type 0) (same : Bool) (to : ℕ) → P (MissingWayEnd to c)
        → Each P (arrival same to)
    each_arrival P true to is x told = absurd told
    each_arrival P false to is x told = each_lacking P (r.branch to) (MissingWayEnd to c) is x told

    -- all that is told of a copy is so, where it is so of each that could be
    each_copy : (P : Obstacle → Type 0) → ((s : CopyState) → P (MissingCopy c s))
        → ((p : ℕ) → P (MissingBorrower c p))
        → ((b : ℕ) → P (MissingBranch b c)) → ((b : ℕ) → P (MissingWayEnd b c)) → (s : CopyState)
        → Each P (copy_obstacles r c s)
    each_copy P copy patron branch end (Shelf b) = each_shelf P (r.copy c) b (branch b)
    each_copy P copy patron branch end (OnLoan l) =
        each_two P (gone (OnLoan l)) (where_lacking (r.patron l.patron) (MissingBorrower c l.patron))
        (each_lacking P (r.copy c) (MissingCopy c (OnLoan l)) (copy (OnLoan l)))
        (each_lacking P (r.patron l.patron) (MissingBorrower c l.patron) (patron l.patron))
    each_copy P copy patron branch end (OnHoldShelf s) =
        each_two P (gone (OnHoldShelf s)) (where_lacking (r.branch s.branch) (MissingBranch s.branch c))
        (each_lacking P (r.copy c) (MissingCopy c (OnHoldShelf s)) (copy (OnHoldShelf s)))
        (each_lacking P (r.branch s.branch) (MissingBranch s.branch c) (branch s.branch))
    each_copy P copy patron branch end (InTransit t) =
        each_two P (gone (InTransit t) ++ sender t.from) (arrival (t.to == t.from) t.to)
        (each_two P (gone (InTransit t)) (sender t.from)
        (each_lacking P (r.copy c) (MissingCopy c (InTransit t)) (copy (InTransit t)))
        (each_lacking P (r.branch t.from) (MissingWayEnd t.from c) (end t.from)))
        (each_arrival P (t.to == t.from) t.to (end t.to))

    once_shelf : (o : Option ℕ) (b : ℕ) → IsEachOnce (shelf_obstacles r c o b)
    once_shelf None b = tt
    once_shelf (Some y) b = once_lacking (r.branch b) (MissingBranch b c)

    once_copy : (s : CopyState) → IsEachOnce (copy_obstacles r c s)
    once_copy (Shelf b) = once_shelf (r.copy c) b
    once_copy (OnLoan l) =
        once_below rank 1 (gone (OnLoan l)) (where_lacking (r.patron l.patron) (MissingBorrower c l.patron))
        (each_lacking (λ x. rank x < 1) (r.copy c) (MissingCopy c (OnLoan l)) (omega arith))
        (each_lacking (λ x. 1 ≤ rank x) (r.patron l.patron) (MissingBorrower c l.patron) (omega arith))
        (once_lacking (r.copy c) (MissingCopy c (OnLoan l)))
        (once_lacking (r.patron l.patron) (MissingBorrower c l.patron))
    once_copy (OnHoldShelf s) =
        once_below rank 1 (gone (OnHoldShelf s))
        (where_lacking (r.branch s.branch) (MissingBranch s.branch c))
        (each_lacking (λ x. rank x < 1) (r.copy c) (MissingCopy c (OnHoldShelf s)) (omega arith))
        (each_lacking (λ x. 1 ≤ rank x) (r.branch s.branch) (MissingBranch s.branch c) (omega arith))
        (once_lacking (r.copy c) (MissingCopy c (OnHoldShelf s)))
        (once_lacking (r.branch s.branch) (MissingBranch s.branch c))
    once_copy (InTransit t) = by_ends (t.to == t.from) refl
      where
        two : IsEachOnce (gone (InTransit t) ++ sender t.from)
        two =
            once_below rank 1 (gone (InTransit t)) (sender t.from)
            (each_lacking (λ x. rank x < 1) (r.copy c) (MissingCopy c (InTransit t)) (omega arith))
            (each_lacking (λ x. 1 ≤ rank x) (r.branch t.from) (MissingWayEnd t.from c) (omega arith))
            (once_lacking (r.copy c) (MissingCopy c (InTransit t)))
            (once_lacking (r.branch t.from) (MissingWayEnd t.from c))

        -- the other end of the way isn't told yet
        not_yet : (t.to == t.from) ≡ false
            → Each (λ x. x ≡ MissingWayEnd t.to c → ⊥) (gone (InTransit t) ++ sender t.from)
        not_yet apart =
            each_two (λ x. x ≡ MissingWayEnd t.to c → ⊥) (gone (InTransit t)) (sender t.from)
            (each_lacking (λ x. x ≡ MissingWayEnd t.to c → ⊥) (r.copy c) (MissingCopy c (InTransit t))
            (λ e. cc))
            (each_lacking (λ x. x ≡ MissingWayEnd t.to c → ⊥) (r.branch t.from) (MissingWayEnd t.from c)
            (λ e. number_not t.to t.from apart (let one : t.from ≡ t.to = cc in sym one)))

        by_ends : (same : Bool) → (t.to == t.from) ≡ same
            → IsEachOnce ((gone (InTransit t) ++ sender t.from) ++ arrival same t.to)
        by_ends true is = subst IsEachOnce (sym (append-nil (gone (InTransit t) ++ sender t.from))) two
        by_ends false is =
            once_two (λ x. x ≡ MissingWayEnd t.to c → ⊥) (gone (InTransit t) ++ sender t.from)
            (where_lacking (r.branch t.to) (MissingWayEnd t.to c)) (not_yet is)
            (λ x told other. other (lacked x (MissingWayEnd t.to c) (r.branch t.to) told).0) two
            (once_lacking (r.branch t.to) (MissingWayEnd t.to c))

  each_copies : (d : Desk) (n : ℕ) → Each (λ x. (copy_in x < n) × (rank x < 2)) (copies_obstacles r d n)
  each_copies d zero x told = absurd told
  each_copies d (suc c) x told =
      each_two (λ x. (copy_in x < suc c) × (rank x < 2)) (copies_obstacles r d c)
      (copy_obstacles r c (d.copy c))
      (λ y is. (let before = each_copies d c y is in (omega (arith, before.0), before.1)))
      (each_copy c (λ x. (copy_in x < suc c) × (rank x < 2)) (λ s. (omega arith, omega arith))
      (λ p. (omega arith, omega arith))
      (λ b. (omega arith, omega arith)) (λ b. (omega arith, omega arith)) (d.copy c)) x told

  once_copies : (d : Desk) (n : ℕ) → IsEachOnce (copies_obstacles r d n)
  once_copies d zero = tt
  once_copies d (suc c) =
      once_below copy_in c (copies_obstacles r d c) (copy_obstacles r c (d.copy c))
      (λ x told. (each_copies d c x told).0)
      (each_copy c (λ x. c ≤ copy_in x) (λ s. omega arith) (λ p. omega arith) (λ b. omega arith)
      (λ b. omega arith) (d.copy c))
      (once_copies d c) (once_copy c (d.copy c))

  -- those of a hold, by what it names
  module _ (t : ℕ) where
    abbrev title : Hold → List Obstacle
    title g = where_lacking (r.title t) (MissingTitle t g.patron)

    abbrev patron : Hold → List Obstacle
    patron g = where_lacking (r.patron g.patron) (MissingHolder t g.patron)

    abbrev pickup : Hold → List Obstacle
    pickup g = where_lacking (r.branch g.pickup) (MissingPickup g.pickup t g.patron)

    each_kind : (P : Obstacle → Type 0) (p : ℕ) → ((c : ℕ) → P (MissingOnlyCopy t p c)) → (kind : HoldKind)
        → Each P (kind_obstacles r t p kind)
    each_kind P p is Any x told = absurd told
    each_kind P p is AtBranch x told = absurd told
    each_kind P p is (One c) x told = each_lacking P (r.copy c) (MissingOnlyCopy t p c) (is c) x told

    once_kind : (p : ℕ) (kind : HoldKind) → IsEachOnce (kind_obstacles r t p kind)
    once_kind p Any = tt
    once_kind p AtBranch = tt
    once_kind p (One c) = once_lacking (r.copy c) (MissingOnlyCopy t p c)

    each_hold : (P : Obstacle → Type 0) (g : Hold) → P (MissingTitle t g.patron)
        → P (MissingHolder t g.patron)
        → P (MissingPickup g.pickup t g.patron) → ((c : ℕ) → P (MissingOnlyCopy t g.patron c))
        → Each P (hold_obstacles r t g)
    each_hold P g one two three four =
        each_two P (title g ++ patron g ++ pickup g) (kind_obstacles r t g.patron g.kind)
        (each_two P (title g ++ patron g) (pickup g)
        (each_two P (title g) (patron g) (each_lacking P (r.title t) (MissingTitle t g.patron) one)
        (each_lacking P (r.patron g.patron) (MissingHolder t g.patron) two))
        (each_lacking P (r.branch g.pickup) (MissingPickup g.pickup t g.patron) three))
        (each_kind P g.patron four g.kind)

    once_hold : (g : Hold) → IsEachOnce (hold_obstacles r t g)
    once_hold g =
        once_below rank 5 (title g ++ patron g ++ pickup g) (kind_obstacles r t g.patron g.kind)
        (each_two (λ x. rank x < 5) (title g ++ patron g) (pickup g)
        (each_two (λ x. rank x < 5) (title g) (patron g)
        (each_lacking (λ x. rank x < 5) (r.title t) (MissingTitle t g.patron) (omega arith))
        (each_lacking (λ x. rank x < 5) (r.patron g.patron) (MissingHolder t g.patron) (omega arith)))
        (each_lacking (λ x. rank x < 5) (r.branch g.pickup) (MissingPickup g.pickup t g.patron)
        (omega arith)))
        (each_kind (λ x. 5 ≤ rank x) g.patron (λ c. omega arith) g.kind)
        (once_below rank 4 (title g ++ patron g) (pickup g)
        (each_two (λ x. rank x < 4) (title g) (patron g)
        (each_lacking (λ x. rank x < 4) (r.title t) (MissingTitle t g.patron) (omega arith))
        (each_lacking (λ x. rank x < 4) (r.patron g.patron) (MissingHolder t g.patron) (omega arith)))
        (each_lacking (λ x. 4 ≤ rank x) (r.branch g.pickup) (MissingPickup g.pickup t g.patron) (omega arith))
        (once_below rank 3 (title g) (patron g)
        (each_lacking (λ x. rank x < 3) (r.title t) (MissingTitle t g.patron) (omega arith))
        (each_lacking (λ x. 3 ≤ rank x) (r.patron g.patron) (MissingHolder t g.patron) (omega arith))
        (once_lacking (r.title t) (MissingTitle t g.patron))
        (once_lacking (r.patron g.patron) (MissingHolder t g.patron)))
        (once_lacking (r.branch g.pickup) (MissingPickup g.pickup t g.patron))) (once_kind g.patron g.kind)

    -- all of a queue are of the title
    each_queue : (queue : List Hold)
        → Each (λ x. (title_in x ≡ t) × (2 ≤ rank x) × (rank x < 6)) (flat_map (hold_obstacles r t) queue)
    each_queue [] x told = absurd told
    each_queue (g ∷ queue) x told =
        each_two (λ x. (title_in x ≡ t) × (2 ≤ rank x) × (rank x < 6)) (hold_obstacles r t g)
        (flat_map (hold_obstacles r t) queue)
        (each_hold (λ x. (title_in x ≡ t) × (2 ≤ rank x) × (rank x < 6)) g (refl, omega arith, omega arith)
        (refl, omega arith, omega arith) (refl, omega arith, omega arith)
        (λ c. (refl, omega arith, omega arith)))
        (each_queue queue) x told

    -- none is of a patron who has no hold there
    each_other : (p : ℕ) (queue : List Hold) → find (λ h. h.patron == p) queue ≡ None
        → Each (λ x. patron_in x ≡ p → ⊥) (flat_map (hold_obstacles r t) queue)
    each_other p [] none x told = absurd told
    each_other p (g ∷ queue) none x told =
        by_patron (g.patron == p) refl (λ rest. each_other p queue rest) x told
      where
        by_patron : (b : Bool) → (g.patron == p) ≡ b
            → (find (λ h. h.patron == p) queue ≡ None
            → Each (λ x. patron_in x ≡ p → ⊥) (flat_map (hold_obstacles r t) queue))
            → Each (λ x. patron_in x ≡ p → ⊥) (flat_map (hold_obstacles r t) (g ∷ queue))
        by_patron true same later =
            absurd (none_hold g (Some g)
            (subst (λ (b : Bool). cond b (Some g) (find (λ h. h.patron == p) queue) ≡ None) same none)
            refl)
        by_patron false apart later =
            let other : g.patron ≡ p → ⊥ = number_not g.patron p apart in
            each_two (λ x. patron_in x ≡ p → ⊥) (hold_obstacles r t g) (flat_map (hold_obstacles r t) queue)
            (each_hold (λ x. patron_in x ≡ p → ⊥) g other other other (λ c. other))
            (later (subst (λ (b : Bool). cond b (Some g) (find (λ h. h.patron == p) queue) ≡ None) apart
            none))

    once_queue : (queue : List Hold) → HasPatronsOnce queue → IsEachOnce (flat_map (hold_obstacles r t) queue)
    once_queue [] once = tt
    once_queue (g ∷ queue) once =
        once_two (λ x. patron_in x ≡ g.patron) (hold_obstacles r t g) (flat_map (hold_obstacles r t) queue)
        (each_hold (λ x. patron_in x ≡ g.patron) g refl refl refl (λ c. refl))
        (each_other g.patron queue once.0) (once_hold g)
        (once_queue queue once.1)

  each_titles : (queues : ℕ → List Hold) (n : ℕ)
      → Each (λ x. (title_in x < n) × (2 ≤ rank x) × (rank x < 6)) (titles_obstacles r queues n)
  each_titles queues zero x told = absurd told
  each_titles queues (suc t) x told =
      each_two (λ x. (title_in x < suc t) × (2 ≤ rank x) × (rank x < 6)) (titles_obstacles r queues t)
      (flat_map (hold_obstacles r t) (queues t))
      (λ y is. (let before = each_titles queues t y is in (omega (arith, before.0), before.1, before.2)))
      (λ y is. (let this = each_queue t (queues t) y is in (omega (arith, this.0), this.1, this.2))) x told

  once_titles : (queues : ℕ → List Hold) (n : ℕ) → ((t : ℕ) → t < n → HasPatronsOnce (queues t))
      → IsEachOnce (titles_obstacles r queues n)
  once_titles queues zero once = tt
  once_titles queues (suc t) once =
      once_below title_in t (titles_obstacles r queues t) (flat_map (hold_obstacles r t) (queues t))
      (λ x told. (each_titles queues t x told).0)
      (λ x told. (let this = each_queue t (queues t) x told in omega (arith, this.0)))
      (once_titles queues t (λ u l. once u (omega (arith, l))))
      (once_queue t (queues t) (once t (omega arith)))

  module _ (k j : Facts) (d : Desk) (last : ℕ) (queues : ℕ → List Hold) where
    numbers_last : (b : Bool) → Each (λ x. 6 ≤ rank x) (cond b (NumbersUsedUp ∷ []) [])
    numbers_last true x (inl this) = subst (λ (y : Obstacle). 6 ≤ rank y) (sym this) (omega arith)
    numbers_last true x (inr later) = absurd later
    numbers_last false x told = absurd told

    once_numbers : (b : Bool) → IsEachOnce (cond b (NumbersUsedUp ∷ []) [])
    once_numbers true = (λ later. later, tt)
    once_numbers false = tt

    pub once_told : ((t : ℕ) → t < k.titles → HasPatronsOnce (queues t))
        → IsEachOnce (obstacles r k d queues ++ number_obstacles last j)
    once_told once =
        once_below rank 6 (obstacles r k d queues) (number_obstacles last j)
        (each_two (λ x. rank x < 6) (copies_obstacles r d k.copies) (titles_obstacles r queues k.titles)
        (λ x told. (let of = each_copies d k.copies x told in omega (arith, of.1)))
        (λ x told. (each_titles queues k.titles x told).2))
        (numbers_last (nat_lt MOST_GIVEN (last + j.command_limit)))
        (once_below rank 2 (copies_obstacles r d k.copies) (titles_obstacles r queues k.titles)
        (λ x told. (each_copies d k.copies x told).1)
        (λ x told. (each_titles queues k.titles x told).1) (once_copies d k.copies)
        (once_titles queues k.titles once))
        (once_numbers (nat_lt MOST_GIVEN (last + j.command_limit)))
