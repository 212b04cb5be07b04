-- Where nothing is in the way, all that the old desk names has a new number.
use Rattle.std.proofs.Common.{◌≡◌, refl, sym, ap, subst, ℕ, zero, suc, ◌<◌, ◌==◌, ◌⊎◌, inl, inr, Bool, true}
use Rattle.std.proofs.Common.{false, cond, eqb-true}
use Rattle.std.proofs.Common.{Option, Some, None, List, [], ◌∷◌, ◌++◌}
use Rattle.std.proofs.Common.{map, filter_map, flat_map, option_map, arith}
use Rattle.hd_rules.specs.declared.holds.Hold.{Hold}
use Rattle.hd_rules.specs.declared.holds.HoldKind.{HoldKind}
use Rattle.hd_rules.specs.declared.holds.HoldKind.TheVariants.{Any, One, AtBranch}
use Rattle.hd_rules.specs.declared.rows.OpeningRow.{OpeningRow}
use Rattle.hd_rules.specs.Desk.{Desk}
use Rattle.hd_rules.specs.Settle.{with_copy}
use Rattle.hd_rules.specs.Carry.{Renumbering, IsSameKind, IsSameHold}
use Rattle.hd_carry.specs.declared.obstacle.Obstacle.{Obstacle}
use Rattle.hd_carry.specs.declared.obstacle.Obstacle.TheVariants.{MissingHolder, MissingTitle, MissingWayEnd}
use Rattle.hd_carry.specs.declared.obstacle.Obstacle.TheVariants.{MissingPickup, MissingOnlyCopy}
use Rattle.hd_carry.specs.CarriedRows.{hold_row, new_kind}
use Rattle.hd_carry.specs.Obstacles.{where_lacking, arrival_obstacles, copy_obstacles, kind_obstacles}
use Rattle.hd_carry.specs.Obstacles.{hold_obstacles}
use Rattle.hd_carry.specs.Obstacles.{copies_obstacles, titles_obstacles}
use Rattle.hd_carry.proofs.Numbers.{below_or_this}
use Rattle.hd_carry.proofs.Queues.{Numbered, to_row, AreNumbered}

pub left_empty : (a b : List Obstacle) → a ++ b ≡ [] → a ≡ []
left_empty [] b e = refl
left_empty (x ∷ a) b e = cc

pub right_empty : (a b : List Obstacle) → a ++ b ≡ [] → b ≡ []
right_empty [] b e = e
right_empty (x ∷ a) b e = cc

-- what isn't in the way has a new number
pub has_number : (o : Option ℕ) (z : Obstacle) → where_lacking o z ≡ [] → (m : ℕ) × (o ≡ Some m)
has_number None z e = cc
has_number (Some m) z e = (m, refl)

module _ (r : Renumbering) where
  -- the branch that gets a copy has one, where the one that sent it has
  pub has_arrival : (c from to b : ℕ) → r.branch from ≡ Some b → arrival_obstacles r c from to ≡ []
      → (m : ℕ) × (r.branch to ≡ Some m)
  has_arrival c from to b at none = by_ends (to == from) refl none
    where
      by_ends : (same : Bool) → (to == from) ≡ same
          → cond same [] (where_lacking (r.branch to) (MissingWayEnd to c)) ≡ []
          → (m : ℕ) × (r.branch to ≡ Some m)
      by_ends true is none = (b, subst (λ (m : ℕ). r.branch m ≡ Some b) (sym (eqb-true to from is)) at)
      by_ends false is none = has_number (r.branch to) (MissingWayEnd to c) none

  has_kind : (t p : ℕ) (kind : HoldKind) → kind_obstacles r t p kind ≡ []
      → (new : HoldKind) × (new_kind r kind ≡ Some new)
      × IsSameKind r kind new
  has_kind t p Any e = (Any, refl, tt)
  has_kind t p AtBranch e = (AtBranch, refl, tt)
  has_kind t p (One c) e =
      let copy : (m : ℕ) × (r.copy c ≡ Some m) = has_number (r.copy c) (MissingOnlyCopy t p c) e in
      (One copy.0, ap (λ o. option_map (λ x. One x) o) copy.1, copy.1)

  -- a hold by its new numbers
  pub record HasNumbers (t : ℕ) (g : Hold) : Type 0 where
    pub title : ℕ
    pub hold : Hold
    pub row : hold_row r t g ≡ Some (to_row (title, hold))
    pub same_title : r.title t ≡ Some title
    pub same : IsSameHold r (with_copy None g) hold

  hold_row_is : (t : ℕ) (g : Hold) (title patron pickup : ℕ) (kind : HoldKind) → r.title t ≡ Some title
      → r.patron g.patron ≡ Some patron
      → new_kind r g.kind ≡ Some kind → r.branch g.pickup ≡ Some pickup
      → hold_row r t g ≡ Some (to_row (
        title,
        record {
          patron = patron;
          stamp = g.stamp;
          kind = kind;
          pickup = pickup;
          expiry = g.expiry;
          copy = None;
        },
      ))
  hold_row_is t g title patron pickup kind a b c e = rw (a, b, c, e) refl

  -- in the way of its title, its patron and its pickup
  abbrev of_title : ℕ → Hold → List Obstacle
  of_title t g = where_lacking (r.title t) (MissingTitle t g.patron)

  abbrev of_patron : ℕ → Hold → List Obstacle
  of_patron t g = where_lacking (r.patron g.patron) (MissingHolder t g.patron)

  abbrev of_pickup : ℕ → Hold → List Obstacle
  of_pickup t g = where_lacking (r.branch g.pickup) (MissingPickup g.pickup t g.patron)

  has_numbers : (t : ℕ) (g : Hold) → hold_obstacles r t g ≡ [] → HasNumbers t g
  has_numbers t g e =
      let three : of_title t g ++ of_patron t g ++ of_pickup t g ≡ [] =
      left_empty (of_title t g ++ of_patron t g ++ of_pickup t g) (kind_obstacles r t g.patron g.kind) e in
      let two : of_title t g ++ of_patron t g
      ≡ [] = left_empty (of_title t g ++ of_patron t g) (of_pickup t g) three in
      let title : (m : ℕ) × (r.title t ≡ Some m) =
      has_number (r.title t) (MissingTitle t g.patron) (left_empty (of_title t g) (of_patron t g) two) in
      let patron : (m : ℕ) × (r.patron g.patron ≡ Some m) =
      has_number (r.patron g.patron) (MissingHolder t g.patron)
      (right_empty (of_title t g) (of_patron t g) two) in
      let pickup : (m : ℕ) × (r.branch g.pickup ≡ Some m) =
      has_number (r.branch g.pickup) (MissingPickup g.pickup t g.patron)
      (right_empty (of_title t g ++ of_patron t g) (of_pickup t g) three) in
      let kind : (new : HoldKind) × (new_kind r g.kind ≡ Some new) × IsSameKind r g.kind new =
      has_kind t g.patron g.kind
      (right_empty (of_title t g ++ of_patron t g ++ of_pickup t g) (kind_obstacles r t g.patron g.kind) e) in
      record {
        title = title.0;
        hold = record {
          patron = patron.0;
          stamp = g.stamp;
          kind = kind.0;
          pickup = pickup.0;
          expiry = g.expiry;
          copy = None;
        };
        row = hold_row_is t g title.0 patron.0 pickup.0 kind.0 title.1 patron.1 kind.1 pickup.1;
        same_title = title.1;
        same = record {
          patron = patron.1;
          stamp = refl;
          kind = kind.2;
          pickup = pickup.1;
          expiry = refl;
          copy = tt;
        };
      }

  -- a queue by its new numbers
  pub queue_numbered : (t : ℕ) (queue : List Hold) → flat_map (hold_obstacles r t) queue ≡ []
      → (made : List Numbered)
      × (filter_map (hold_row r t) queue ≡ map to_row made) × AreNumbered r t queue made
  queue_numbered t [] e = ([], refl, tt)
  queue_numbered t (g ∷ queue) e =
      let one : HasNumbers t g =
      has_numbers t g (left_empty (hold_obstacles r t g) (flat_map (hold_obstacles r t) queue) e) in
      let rest : (made : List Numbered) × (filter_map (hold_row r t) queue ≡ map to_row made) × AreNumbered r
      t queue made =
      queue_numbered t queue (right_empty (hold_obstacles r t g) (flat_map (hold_obstacles r t) queue) e) in (
        (one.title, one.hold) ∷ rest.0,
        rw one.row (ap (λ (rows : List OpeningRow). to_row (one.title, one.hold) ∷ rows) rest.1),
        (one.same_title, one.same, rest.2),
      )

  pub title_free : (queues : ℕ → List Hold) (m : ℕ) → titles_obstacles r queues m ≡ [] → (t : ℕ) → t < m
      → flat_map (hold_obstacles r t) (queues t) ≡ []
  title_free queues zero e t l = absurd (omega (arith, l))
  title_free queues (suc m) e t l =
      by_case (below_or_this t m l)
      (title_free queues m
      (left_empty (titles_obstacles r queues m) (flat_map (hold_obstacles r m) (queues m)) e) t)
    where
      by_case : (t < m) ⊎ (t ≡ m) → (t < m → flat_map (hold_obstacles r t) (queues t) ≡ [])
          → flat_map (hold_obstacles r t) (queues t) ≡ []
      by_case (inl below) before = before below
      by_case (inr this) before =
          subst (λ (n : ℕ). flat_map (hold_obstacles r n) (queues n) ≡ []) (sym this)
          (right_empty (titles_obstacles r queues m) (flat_map (hold_obstacles r m) (queues m)) e)

  pub copy_free : (d : Desk) (m : ℕ) → copies_obstacles r d m ≡ [] → (c : ℕ) → c < m
      → copy_obstacles r c (d.copy c) ≡ []
  copy_free d zero e c l = absurd (omega (arith, l))
  copy_free d (suc m) e c l =
      by_case (below_or_this c m l)
      (copy_free d m (left_empty (copies_obstacles r d m) (copy_obstacles r m (d.copy m)) e) c)
    where
      by_case : (c < m) ⊎ (c ≡ m) → (c < m → copy_obstacles r c (d.copy c) ≡ [])
          → copy_obstacles r c (d.copy c) ≡ []
      by_case (inl below) before = before below
      by_case (inr this) before =
          subst (λ (n : ℕ). copy_obstacles r n (d.copy n) ≡ []) (sym this)
          (right_empty (copies_obstacles r d m) (copy_obstacles r m (d.copy m)) e)
