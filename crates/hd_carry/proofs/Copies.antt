-- The rows of all copies, one after another.
use Rattle.std.proofs.Common.{◌≡◌, refl, sym, ◌∙◌, ap, subst, ℕ, zero, suc, ◌<◌, ◌≤◌, ◌==◌, ◌⊎◌, inl, inr}
use Rattle.std.proofs.Common.{Bool, true, false, cond, Option}
use Rattle.std.proofs.Common.{Some, None, List, [], ◌++◌, option_map, option_and_then, eqb-true, arith}
use Rattle.std.proofs.lemmas.Bool.{eqb-false}
use Rattle.hd_rules.specs.declared.copies.CopyState.{CopyState}
use Rattle.hd_rules.specs.declared.copies.CopyState.TheVariants.{Shelf, OnLoan, OnHoldShelf, InTransit}
use Rattle.hd_rules.specs.declared.copies.HoldPlace.{HoldPlace}
use Rattle.hd_rules.specs.declared.copies.Transit.{Transit}
use Rattle.hd_rules.specs.declared.copies.Loan.{Loan}
use Rattle.hd_rules.specs.declared.rows.OpeningRow.{OpeningRow}
use Rattle.hd_rules.specs.declared.rows.OpeningRow.TheVariants as row
use Rattle.hd_rules.specs.Desk.{Desk}
use Rattle.hd_rules.specs.Facts.{Facts}
use Rattle.hd_rules.specs.Choose.{is_on_shelf}
use Rattle.hd_rules.specs.Sound.{Tied, Sound}
use Rattle.hd_rules.specs.Carry.{Renumbering, IsByNames, IsSamePatron, IsSamePlace}
use Rattle.hd_rules.specs.Rows.{EachMayStand, MayKeep, kept_at, sent_from}
use Rattle.hd_carry.specs.declared.obstacle.Obstacle.{Obstacle}
use Rattle.hd_carry.specs.declared.obstacle.Obstacle.TheVariants.{MissingCopy, MissingBorrower, MissingBranch}
use Rattle.hd_carry.specs.declared.obstacle.Obstacle.TheVariants.{MissingWayEnd}
use Rattle.hd_carry.specs.CarriedRows.{row_or_none, way_row, place_row, copy_row, copy_rows}
use Rattle.hd_carry.specs.Obstacles.{where_lacking, arrival_obstacles, shelf_obstacles, copy_obstacles}
use Rattle.hd_carry.proofs.Numbers.{not_less}
use Rattle.hd_carry.proofs.Rows.{rows_from, rows_append, each_append, AreKnown, known_append}
use Rattle.hd_carry.proofs.Places.{Stood, Free, Placed, Moved, Untied, shelf_untied, missing, at_its_home}
use Rattle.hd_carry.proofs.Places.{stays, goes}
use Rattle.hd_carry.proofs.Given.{Kept, kept, waits, placed_given}
use Rattle.hd_carry.proofs.Lacking.{left_empty, right_empty, has_number, has_arrival}

module _ (k j : Facts) (r : Renumbering) (d : Desk) (stamp : ℕ) (names : IsByNames k j r)
    (sound : Sound k stamp d) where
  module _ (n : ℕ) (e : Desk) (state : Placed r j d n e) where
    -- what a copy's rows do
    abbrev Moves : Option OpeningRow → Type 0
    Moves o = Moved r j d stamp n e (row_or_none o)

    -- the copy stands where it stood
    abbrev Same : CopyState → Type 0
    Same v = IsSamePlace r (d.copy n) v

    same_as : (s v : CopyState) → d.copy n ≡ s → IsSamePlace r s v → Same v
    same_as s v is same = subst (λ (w : CopyState). IsSamePlace r w v) (sym is) same

    untied_as : (s : CopyState) → d.copy n ≡ s → Untied s → Untied (d.copy n)
    untied_as s is free = subst (λ (w : CopyState). Untied w) (sym is) free

    -- on an open shelf
    shelf_moved : (b : ℕ) → d.copy n ≡ Shelf b → shelf_obstacles r n (r.copy n) b ≡ []
        → Moves (copy_row r j n (Shelf b))
    shelf_moved b is none = by_copy (r.copy n) refl none
      where
        free : Untied (d.copy n)
        free = untied_as (Shelf b) is (shelf_untied (Shelf b) refl)

        by_home : (x : ℕ) → r.copy n ≡ Some x → (a : ℕ) → r.branch b ≡ Some a → (home : Bool)
            → (a == j.home x) ≡ home
            → Moves (cond home None (Some (row.OpenShelf x a)))
        by_home x same a at true home = record {
          each = tt;
          known = tt;
          placed = stays k j r d names sound.tie n e state x same free
              (same_as (Shelf b) (Shelf (j.home x)) is
              (at ∙ ap (λ (m : ℕ). Some m) (eqb-true a (j.home x) home)));
        }
        by_home x same a at false home = record {
          each = ((at_its_home k j r d names sound.tie n e state x same, eqb-false a (j.home x) home), tt);
          known = ((names.new_copy n x same, names.new_branch b a at), tt);
          placed = goes k j r d names sound.tie n e state x same free (Shelf a)
              (same_as (Shelf b) (Shelf a) is at);
        }

        by_copy : (o : Option ℕ) → r.copy n ≡ o → shelf_obstacles r n o b ≡ []
            → Moves (option_and_then (λ x. place_row r x (j.home x) (Shelf b)) o)
        by_copy None same none = record {
          each = tt;
          known = tt;
          placed = missing k j r d names sound.tie n e state same
              (subst (λ (s : CopyState). is_on_shelf s ≡ true) (sym is) refl);
        }
        by_copy (Some x) same none =
            let branch : (a : ℕ) × (r.branch b ≡ Some a) = has_number (r.branch b) (MissingBranch b n) none in
            subst (λ (o : Option ℕ). Moves
            (option_and_then (λ a. cond (a == j.home x) None (Some (row.OpenShelf x a))) o))
            (sym branch.1) (by_home x same branch.0 branch.1 (branch.0 == j.home x) refl)

    -- a row of a copy that is there
    of_copy : (s : CopyState) (x : ℕ) → r.copy n ≡ Some x → Moves (place_row r x (j.home x) s)
        → Moves (copy_row r j n s)
    of_copy s x same moved =
        subst (λ (o : Option ℕ). Moves (option_and_then (λ y. place_row r y (j.home y) s) o)) (sym same) moved

    loan_moved : (l : Loan) → d.copy n ≡ OnLoan l → copy_obstacles r n (OnLoan l) ≡ []
        → Moves (copy_row r j n (OnLoan l))
    loan_moved l is none =
        let copy : (x : ℕ) × (r.copy n ≡ Some x) =
        has_number (r.copy n) (MissingCopy n (OnLoan l))
        (left_empty (where_lacking (r.copy n) (MissingCopy n (OnLoan l)))
        (where_lacking (r.patron l.patron) (MissingBorrower n l.patron)) none) in
        let patron : (q : ℕ) × (r.patron l.patron ≡ Some q) =
        has_number (r.patron l.patron) (MissingBorrower n l.patron)
        (right_empty (where_lacking (r.copy n) (MissingCopy n (OnLoan l)))
        (where_lacking (r.patron l.patron) (MissingBorrower n l.patron)) none) in
        let new : Loan = record l { patron = patron.0 } in
        let moved : Moves (Some (row.Loan copy.0 new)) = record {
          each = (at_its_home k j r d names sound.tie n e state copy.0 copy.1, tt);
          known = ((names.new_copy n copy.0 copy.1, names.new_patron l.patron patron.0 patron.1), tt);
          placed = goes k j r d names sound.tie n e state copy.0 copy.1 (untied_as (OnLoan l) is (λ p b h. h))
              (OnLoan new)
              (same_as (OnLoan l) (OnLoan new) is (patron.1, refl, refl));
        } in
        of_copy (OnLoan l) copy.0 copy.1
        (subst (λ (o : Option ℕ). Moves (option_map (λ q. row.Loan copy.0 (record l { patron = q })) o))
        (sym patron.1) moved)

    -- no copy has the place yet
    place_free : (s : HoldPlace) → d.copy n ≡ OnHoldShelf s → (x : ℕ) → r.copy n ≡ Some x → (b : ℕ)
        → r.branch s.branch ≡ Some b → (y : ℕ)
        (z : HoldPlace) → e.copy y ≡ OnHoldShelf z → z.branch ≡ b → z.place ≡ s.place → ⊥
    place_free s is x same b branch y z at there spot = by_case (state.copies y)
      where
        by_old : (stood : Stood r d n e y) (w : CopyState) → d.copy stood.copy ≡ w
            → IsSamePlace r w (OnHoldShelf z) → ⊥
        by_old stood (Shelf a) was place = place
        by_old stood (OnLoan l) was place = place
        by_old stood (InTransit t) was place = place
        by_old stood (OnHoldShelf w) was place =
            let one : w.branch ≡ s.branch =
            names.branches w.branch s.branch z.branch place.0 (branch ∙ ap (λ (m : ℕ). Some m) (sym there)) in
            let two : stood.copy ≡ n =
            sound.places.apart stood.copy n w s (names.known stood.copy y stood.same) (names.known n x same)
            was is one
            (sym place.1 ∙ spot) in
            not_less n (subst (λ (c : ℕ). c < n) two stood.below)

        by_case : Stood r d n e y ⊎ Free r j n e y → ⊥
        by_case (inl stood) =
            by_old stood (d.copy stood.copy) refl
            (subst (λ (v : CopyState). IsSamePlace r (d.copy stood.copy) v) at stood.place)
        by_case (inr free) = let never : Shelf (j.home y) ≡ OnHoldShelf z = sym free.home ∙ at in cc

    kept_moved : (s : HoldPlace) → d.copy n ≡ OnHoldShelf s → copy_obstacles r n (OnHoldShelf s) ≡ []
        → Moves (copy_row r j n (OnHoldShelf s))
    kept_moved s is none =
        let copy : (x : ℕ) × (r.copy n ≡ Some x) =
        has_number (r.copy n) (MissingCopy n (OnHoldShelf s))
        (left_empty (where_lacking (r.copy n) (MissingCopy n (OnHoldShelf s)))
        (where_lacking (r.branch s.branch) (MissingBranch s.branch n)) none) in
        let tied : Tied (d.copy n) s.patron s.branch =
        subst (λ (w : CopyState). Tied w s.patron s.branch) (sym is) (refl, refl) in
        let to : Kept k j r d n e copy.0 s.patron s.branch =
        kept k j r d names sound.tie n e state copy.0 copy.1 s.patron s.branch tied in
        let may : MayKeep j e copy.0 to.patron s.place = record {
          home = at_its_home k j r d names sound.tie n e state copy.0 copy.1;
          waits = waits k j r d names sound.tie n e state copy.0 copy.1 s.patron s.branch tied to;
          from_one = sound.places.from_one n s is;
          free = λ y z in_y at there spot. place_free s is copy.0 copy.1 to.hold.pickup to.pickup y z at there
              spot;
        } in
        let moved : Moves (Some (row.HoldShelf copy.0 to.patron s.place)) = record {
          each = (may, tt);
          known = ((names.new_copy n copy.0 copy.1, names.new_patron s.patron to.patron to.same_patron), tt);
          placed = placed_given k j r d names sound.tie n e state copy.0 copy.1 s.patron s.branch tied to
              (kept_at to.patron s.place)
              (same_as (OnHoldShelf s) (kept_at to.patron s.place to.hold) is
              (to.pickup, refl, to.same_patron));
        } in
        of_copy (OnHoldShelf s) copy.0 copy.1
        (subst (λ (o : Option ℕ). Moves (option_map (λ q. row.HoldShelf copy.0 q s.place) o))
        (sym to.same_patron) moved)

    way_moved : (t : Transit) → d.copy n ≡ InTransit t → (x : ℕ) → r.copy n ≡ Some x → (from : ℕ)
        → r.branch t.from ≡ Some from
        → (to : ℕ) → r.branch t.to ≡ Some to → (o : Option ℕ) → t.patron ≡ o → Moves (way_row r x from o t.to)
    way_moved t is x same from at to there None nobody =
        let new : Transit = record { from = from; to = to; patron = None } in
        let free : Untied (InTransit t) = λ p b h. (let never : None ≡ Some p = sym nobody ∙ h.0 in cc) in
        let moved : Moves (Some (row.Transit x from to)) = record {
          each = (at_its_home k j r d names sound.tie n e state x same, tt);
          known = (
            (names.new_copy n x same, names.new_branch t.from from at, names.new_branch t.to to there),
            tt,
          );
          placed = goes k j r d names sound.tie n e state x same (untied_as (InTransit t) is free)
              (InTransit new)
              (same_as (InTransit t) (InTransit new) is
              (at, there, subst (λ (o : Option ℕ). IsSamePatron r o None) (sym nobody) tt));
        } in
        subst (λ (o : Option ℕ). Moves (option_map (λ b. row.Transit x from b) o)) (sym there) moved
    way_moved t is x same from at to there (Some p) whose =
        let tied : Tied (d.copy n) p t.to = subst (λ (w : CopyState). Tied w p t.to) (sym is) (whose, refl) in
        let held : Kept k j r d n e x p t.to = kept k j r d names sound.tie n e state x same p t.to tied in
        let moved : Moves (Some (row.HoldTransit x held.patron from)) = record {
          each = (
            (
              at_its_home k j r d names sound.tie n e state x same,
              waits k j r d names sound.tie n e state x same p t.to tied held,
            ),
            tt,
          );
          known = (
            (
              names.new_copy n x same,
              names.new_patron p held.patron held.same_patron,
              names.new_branch
                  t.from from at,
            ),
            tt,
          );
          placed = placed_given k j r d names sound.tie n e state x same p t.to tied held
              (sent_from held.patron from)
              (same_as (InTransit t) (sent_from held.patron from held.hold) is (
                at,
                held.pickup,
                subst (λ (o : Option ℕ). IsSamePatron r o (Some held.patron)) (sym whose)
                    held.same_patron,
              ));
        } in
        subst (λ (o : Option ℕ). Moves (option_map (λ q. row.HoldTransit x q from) o)) (sym held.same_patron)
        moved

    transit_moved : (t : Transit) → d.copy n ≡ InTransit t → copy_obstacles r n (InTransit t) ≡ []
        → Moves (copy_row r j n (InTransit t))
    transit_moved t is none =
        let gone : List Obstacle = where_lacking (r.copy n) (MissingCopy n (InTransit t)) in
        let sender : List Obstacle = where_lacking (r.branch t.from) (MissingWayEnd t.from n) in
        let aim : List Obstacle = arrival_obstacles r n t.from t.to in
        let two : gone ++ sender ≡ [] = left_empty (gone ++ sender) aim none in
        let copy : (x : ℕ) × (r.copy n ≡ Some x) =
        has_number (r.copy n) (MissingCopy n (InTransit t)) (left_empty gone sender two) in
        let from : (b : ℕ) × (r.branch t.from ≡ Some b) =
        has_number (r.branch t.from) (MissingWayEnd t.from n) (right_empty gone sender two) in
        let to : (b : ℕ) × (r.branch t.to ≡ Some b) =
        has_arrival r n t.from t.to from.0 from.1 (right_empty (gone ++ sender) aim none) in
        of_copy (InTransit t) copy.0 copy.1
        (subst (λ (o : Option ℕ). Moves (option_and_then (λ b. way_row r copy.0 b t.patron t.to) o))
        (sym from.1)
        (way_moved t is copy.0 copy.1 from.0 from.1 to.0 to.1 t.patron refl))

    by_state : (s : CopyState) → d.copy n ≡ s → copy_obstacles r n s ≡ [] → Moves (copy_row r j n s)
    by_state (Shelf b) is none = shelf_moved b is none
    by_state (OnLoan l) is none = loan_moved l is none
    by_state (OnHoldShelf s) is none = kept_moved s is none
    by_state (InTransit t) is none = transit_moved t is none

    copy_moved : copy_obstacles r n (d.copy n) ≡ [] → Moves (copy_row r j n (d.copy n))
    copy_moved none = by_state (d.copy n) refl none

  -- the rows of the copies below n may stand, and place them
  pub record AllMoved (n : ℕ) (e : Desk) : Type 0 where
    pub each : EachMayStand j stamp e (copy_rows r j d n)
    pub known : AreKnown j (copy_rows r j d n)
    pub placed : Placed r j d n (rows_from j e (copy_rows r j d n))

  pub copies_moved : (free : (c : ℕ) → c < k.copies → copy_obstacles r c (d.copy c) ≡ []) (e : Desk)
      → Placed r j d 0 e → (n : ℕ) → n ≤ k.copies
      → AllMoved n e
  copies_moved free e start zero le = record { each = tt; known = tt; placed = start }
  copies_moved free e start (suc n) le =
      let rows : List OpeningRow = copy_rows r j d n in
      let before : AllMoved n e = copies_moved free e start n (omega (arith, le)) in
      let this : Moved r j d stamp n (rows_from j e rows) (row_or_none (copy_row r j n (d.copy n))) =
      copy_moved n (rows_from j e rows) before.placed (free n (omega (arith, le))) in
      record {
        each = each_append j stamp e rows (row_or_none (copy_row r j n (d.copy n))) before.each this.each;
        known = known_append j rows (row_or_none (copy_row r j n (d.copy n))) before.known this.known;
        placed = subst (λ (f : Desk). Placed r j d (suc n) f)
            (sym (rows_append j e rows (row_or_none (copy_row r j n (d.copy n))))) this.placed;
      }
