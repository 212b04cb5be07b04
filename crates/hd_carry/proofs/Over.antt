-- The rows of an old desk lead to that desk, carried over.
use Rattle.std.proofs.Common.{◌≡◌, refl, sym, subst, ℕ, zero, suc, ◌<◌, ◌≤◌, ◌⊎◌, inl, inr, Option, Some}
use Rattle.std.proofs.Common.{None, List, [], ◌∷◌, ◌++◌}
use Rattle.std.proofs.Common.{map, filter_map, arith}
use Rattle.std.proofs.lemmas.Bool.{cases_lt}
use Rattle.hd_rules.specs.declared.holds.Hold.{Hold}
use Rattle.hd_rules.specs.declared.holds.HoldKind.{HoldKind}
use Rattle.hd_rules.specs.declared.holds.HoldKind.TheVariants.{Any, One, AtBranch}
use Rattle.hd_rules.specs.declared.rows.OpeningRow.{OpeningRow}
use Rattle.hd_rules.specs.Desk.{Desk, at_home}
use Rattle.hd_rules.specs.Facts.{Facts}
use Rattle.hd_rules.specs.Known.{IsKnownKind, IsKnownCopy, IsKnownHold, IsKnownHeld, IsKnownDesk}
use Rattle.hd_rules.specs.Settle.{with_copy}
use Rattle.hd_rules.specs.Sound.{Sound}
use Rattle.hd_rules.specs.Carry.{Renumbering, IsByNames, IsSameKind, IsSameHold, IsSameHeld, Stayed, IsAdded}
use Rattle.hd_rules.specs.Carry.{IsCarriedOver}
use Rattle.hd_desk.specs.Asking.{AreQueuesOf}
use Rattle.hd_carry.specs.CarriedRows.{hold_row, hold_rows, copy_rows, carried_rows}
use Rattle.hd_carry.specs.Laws.{CarryOver}
use Rattle.hd_carry.specs.Obstacles.{obstacles, copies_obstacles, titles_obstacles}
use Rattle.hd_lemmas.proofs.Options.{one_new}
use Rattle.hd_carry.proofs.Numbers.{none_hold, copy_below, below_all}
use Rattle.hd_carry.proofs.Rows.{rows_from, rows_append, each_append, AreKnown, known_append, known_all}
use Rattle.hd_carry.proofs.Rows.{in_bounds}
use Rattle.hd_carry.proofs.Gone.{Came, Went, hold_below, same_with, no_copy}
use Rattle.hd_carry.proofs.Queues.{Numbered, to_row, AreNumbered, Told, holds_told}
use Rattle.hd_carry.proofs.Places.{Each, Stood, Free, Placed}
use Rattle.hd_carry.proofs.Copies.{AllMoved, copies_moved}
use Rattle.hd_carry.proofs.Lacking.{left_empty, right_empty, queue_numbered, title_free, copy_free}

module _ (k j : Facts) (r : Renumbering) (d : Desk) (names : IsByNames k j r) where
  -- an old copy of a hold is one of the catalogue
  module _ (known : IsKnownDesk k d) (known_patron : (p q : ℕ) → r.patron p ≡ Some q → p < k.patrons)
      (past : (t p : ℕ) → k.titles ≤ t → d.hold t p ≡ None) where
    title_known : (t p : ℕ) (g : Hold) → d.hold t p ≡ Some g → t < k.titles
    title_known t p g is = by_case (cases_lt t k.titles)
      where
        by_case : (t < k.titles) ⊎ (k.titles ≤ t) → t < k.titles
        by_case (inl l) = l
        by_case (inr le) = absurd (none_hold g (d.hold t p) (past t p le) is)

    copy_known : (t p q : ℕ) (g : Hold) → d.hold t p ≡ Some g → r.patron p ≡ Some q → (c : ℕ) → g.copy
        ≡ Some c → c < k.copies
    copy_known t p q g is patron c has =
        let hold : IsKnownHold k g =
        subst (λ (o : Option Hold). IsKnownHeld k o) is
        (known.holds t p (title_known t p g is) (known_patron p q patron)) in
        subst (λ (o : Option ℕ). IsKnownCopy k o) has hold.copy

    whole : (t p q : ℕ) (g h : Hold) → d.hold t p ≡ Some g → r.patron p ≡ Some q
        → IsSameHold r (hold_below k.copies g) h → IsSameHold r g h
    whole t p q g h is patron same =
        same_with r g h (copy_below k.copies g.copy) g.copy
        (below_all k.copies g.copy (copy_known t p q g is patron)) same

    pub carried : (e : Desk) → Placed r j d k.copies e → IsCarriedOver r k j d e
    carried e placed = record {
      copies = λ x. copy_at x (placed.copies x);
      gone = λ c l none. placed.gone c l none;
      holds = λ t u p q title patron. hold_at t u p q title patron (d.hold t p) refl (e.hold u q) refl;
      older = λ u q h is.
          let came : Came r d Each k.copies u q h = placed.holds.from u q h is in
          record {
            title = came.title;
            patron = came.patron;
            same_title = came.same_title;
            same_patron = came.same_patron;
          };
      kept = λ t p g is.
          let went : Went r e k.copies t p g = placed.holds.to t p g tt is in
          record {
            title = went.title;
            patron = went.patron;
            same_title = went.same_title;
            same_patron = went.same_patron;
          };
    }
      where
        copy_at : (x : ℕ) → Stood r d k.copies e x ⊎ Free r j k.copies e x
            → Stayed r k d e x ⊎ IsAdded r j e x
        copy_at x (inl stood) = inl (record { copy = stood.copy; same = stood.same; place = stood.place })
        copy_at x (inr free) =
            inr (record { none = λ c at. free.none c (names.known c x at) at; home = free.home })

        hold_at : (t u p q : ℕ) → r.title t ≡ Some u → r.patron p ≡ Some q → (o : Option Hold) → d.hold t p
            ≡ o → (n : Option Hold)
            → e.hold u q ≡ n → IsSameHeld r (d.hold t p) (e.hold u q)
        hold_at t u p q title patron (Some g) is n now =
            let went : Went r e k.copies t p g = placed.holds.to t p g tt is in
            let one : went.title ≡ u = one_new r.title t went.title u went.same_title title in
            let two : went.patron ≡ q = one_new r.patron p went.patron q went.same_patron patron in
            let at : e.hold u q ≡ Some went.hold =
            subst (λ (m : ℕ). e.hold m q ≡ Some went.hold) one
            (subst (λ (m : ℕ). e.hold went.title m ≡ Some went.hold) two went.is) in
            subst (λ (o : Option Hold). IsSameHeld r o (e.hold u q)) (sym is)
            (subst (λ (o : Option Hold). IsSameHeld r (Some g) o) (sym at)
            (whole t p q g went.hold is patron went.same))
        hold_at t u p q title patron None is None now =
            subst (λ (o : Option Hold). IsSameHeld r o (e.hold u q)) (sym is)
            (subst (λ (o : Option Hold). IsSameHeld r None o) (sym now) tt)
        hold_at t u p q title patron None is (Some h) now =
            let came : Came r d Each k.copies u q h = placed.holds.from u q h now in
            let one : came.title ≡ t = names.titles came.title t u came.same_title title in
            let two : came.patron ≡ p = names.patrons came.patron p q came.same_patron patron in
            absurd (none_hold came.hold (d.hold t p) is
            (subst (λ (m : ℕ). d.hold m p ≡ Some came.hold) one
            (subst (λ (m : ℕ). d.hold came.title m ≡ Some came.hold) two came.is)))

  -- the rows of holds name things of the new catalogue
  module _ (new_title : (t u : ℕ) → r.title t ≡ Some u → u < j.titles) where
    kind_known : (a b : HoldKind) → IsSameKind r a b → IsKnownKind j b
    kind_known Any Any same = tt
    kind_known (One c) (One x) same = names.new_copy c x same
    kind_known AtBranch AtBranch same = tt
    kind_known Any (One x) same = absurd same
    kind_known Any AtBranch same = absurd same
    kind_known (One c) Any same = absurd same
    kind_known (One c) AtBranch same = absurd same
    kind_known AtBranch Any same = absurd same
    kind_known AtBranch (One x) same = absurd same

    hold_known : (g h : Hold) → IsSameHold r (with_copy None g) h → IsKnownHold j h
    hold_known g h same = record {
      patron = names.new_patron g.patron h.patron same.patron;
      kind = kind_known g.kind h.kind same.kind;
      pickup = names.new_branch g.pickup h.pickup same.pickup;
      copy = subst (λ (o : Option ℕ). IsKnownCopy j o) (sym (no_copy r h.copy same.copy)) tt;
    }

    queue_known : (t : ℕ) (queue : List Hold) (made : List Numbered) → AreNumbered r t queue made
        → AreKnown j (map to_row made)
    queue_known t [] [] are = tt
    queue_known t [] (m ∷ made) are = absurd are
    queue_known t (g ∷ queue) [] are = absurd are
    queue_known t (g ∷ queue) (m ∷ made) are =
        ((new_title t m.0 are.0, hold_known g m.1 are.1), queue_known t queue made are.2)

    titles_known : (queues : ℕ → List Hold) → ((t : ℕ) → t < k.titles → (made : List Numbered)
        × (filter_map (hold_row r t) (queues t) ≡ map to_row made) × AreNumbered r t (queues t) made)
        → (t : ℕ) → t ≤ k.titles
        → AreKnown j (hold_rows r queues t)
    titles_known queues numbered zero le = tt
    titles_known queues numbered (suc t) le =
        let made : (made : List Numbered) × (filter_map (hold_row r t) (queues t) ≡ map to_row made)
        × AreNumbered r t (queues t) made =
        numbered t (omega (arith, le)) in
        known_append j (hold_rows r queues t) (filter_map (hold_row r t) (queues t))
        (titles_known queues numbered t (omega (arith, le)))
        (subst (λ (rows : List OpeningRow). AreKnown j rows) (sym made.1)
        (queue_known t (queues t) made.0 made.2))

pub are_carried : (k j : Facts) (r : Renumbering) (n : ℕ) (d : Desk) (queues : ℕ → List Hold)
    → IsByNames k j r
    → ((p q : ℕ) → r.patron p ≡ Some q → p < k.patrons) → ((t u : ℕ) → r.title t ≡ Some u → u < j.titles)
    → Sound k n d
    → IsKnownDesk k d → AreQueuesOf k d queues → obstacles r k d queues ≡ []
    → CarryOver k j r n d (carried_rows r k j d queues)
are_carried k j r n d queues names known_patron new_title sound known its none =
    let no_copies : copies_obstacles r d k.copies ≡ [] =
    left_empty (copies_obstacles r d k.copies) (titles_obstacles r queues k.titles) none in
    let no_titles : titles_obstacles r queues k.titles ≡ [] =
    right_empty (copies_obstacles r d k.copies) (titles_obstacles r queues k.titles) none in
    let first : List OpeningRow = hold_rows r queues k.titles in
    let then_ : List OpeningRow = copy_rows r j d k.copies in
    let home : Desk = at_home j.home in
    let told : Told j r d n Each home first =
    holds_told k j r d n names sound.holds queues its (numbered no_titles) home (λ u q. refl) in
    let moved : AllMoved k j r d n names sound k.copies (rows_from j home first) =
    copies_moved k j r d n names sound (copy_free r d k.copies no_copies) (rows_from j home first)
    (start told) k.copies (omega arith) in
    record {
      stand = each_append j n home first then_ told.each moved.each;
      known = known_all j (first ++ then_)
          (known_append j first then_
          (titles_known k j r d names new_title queues (numbered no_titles) k.titles (omega arith))
          moved.known);
      bounds = in_bounds j n home (first ++ then_) (each_append j n home first then_ told.each moved.each);
      over = carried k j r d names known known_patron its.past (rows_from j home (first ++ then_))
          (subst (λ (f : Desk). Placed r j d k.copies f) (sym (rows_append j home first then_)) moved.placed);
    }
  where
    numbered : titles_obstacles r queues k.titles ≡ [] → (t : ℕ) → t < k.titles → (made : List Numbered)
        × (filter_map (hold_row r t) (queues t) ≡ map to_row made) × AreNumbered r t (queues t) made
    numbered free t l = queue_numbered r t (queues t) (title_free r queues k.titles free t l)

    start : Told j r d n Each (at_home j.home) (hold_rows r queues k.titles)
        → Placed r j d 0 (rows_from j (at_home j.home) (hold_rows r queues k.titles))
    start told = record {
      holds = told.gone;
      copies = λ x. inr (record { none = λ c l at. nothing c l; home = told.copies x });
      gone = λ c l at. absurd (nothing c l);
    }
      where
        nothing : (c : ℕ) → c < 0 → ⊥
        nothing c l = absurd (omega (arith, l))
