-- A desk that is carried over to another catalogue is as sound as it was.
use Rattle.std.proofs.Common.{◌≡◌, refl, sym, ◌∙◌, ap, subst, ℕ, ◌<◌, ◌≤◌, ◌⊎◌, inl, inr, Option, Some, None}
use Rattle.hd_rules.specs.Words.{Hold, HoldKind, Any, One, AtBranch, HoldPlace, CopyState, Shelf, OnLoan}
use Rattle.hd_rules.specs.Words.{OnHoldShelf, InTransit}
use Rattle.hd_rules.specs.Facts.{Facts, AreInRange}
use Rattle.hd_rules.specs.Known.{IsKnownKind, IsKnownPatron, IsKnownCopy, IsKnownState}
use Rattle.hd_rules.specs.Known.{IsKnownHeld, IsKnownDesk}
use Rattle.hd_rules.specs.Desk.{Desk}
use Rattle.hd_rules.specs.Sound.{Has, Tied, Tie, StampsApart, HoldsFit, PlacesFit, Sound}
use Rattle.hd_rules.specs.Carry.{Renumbering, IsByNames, IsSamePatron, IsSameCopy, IsSameKind}
use Rattle.hd_rules.specs.Carry.{IsSamePlace, IsSameHold, IsSameHeld}
use Rattle.hd_rules.specs.Carry.{Stayed, IsAdded, Pair, IsCarriedOver}

number_some : (x y : ℕ) → Some x ≡ Some y → x ≡ y
number_some x y e = cc

-- one number of a name
pub one_new : (to : ℕ → Option ℕ) (x y z : ℕ) → to x ≡ Some y → to x ≡ Some z → y ≡ z
one_new to x y z e f = number_some y z (sym e ∙ f)

-- an old hold that a new one is
pub record WasHold (r : Renumbering) (d : Desk) (u q : ℕ) (h : Hold) : Type 0 where
  pub title : ℕ
  pub patron : ℕ
  pub hold : Hold
  pub same_title : r.title title ≡ Some u
  pub same_patron : r.patron patron ≡ Some q
  pub is : d.hold title patron ≡ Some hold
  pub same : IsSameHold r hold h

was_hold : (k j : Facts) (r : Renumbering) (d e : Desk) → IsCarriedOver r k j d e → (u q : ℕ) (h : Hold)
    → e.hold u q ≡ Some h → WasHold r d u q h
was_hold k j r d e over u q h is =
    let pair : Pair r u q = over.older u q h is in
    cases pair (d.hold pair.title pair.patron) refl
    (subst (IsSameHeld r (d.hold pair.title pair.patron)) is
    (over.holds pair.title u pair.patron q pair.same_title pair.same_patron))
  where
    cases : (pair : Pair r u q) (o : Option Hold) → d.hold pair.title pair.patron ≡ o
        → IsSameHeld r (d.hold pair.title pair.patron) (Some h) → WasHold r d u q h
    cases pair None none same = absurd (subst (λ (x : Option Hold). IsSameHeld r x (Some h)) none same)
    cases pair (Some g) some same = record {
      title = pair.title;
      patron = pair.patron;
      hold = g;
      same_title = pair.same_title;
      same_patron = pair.same_patron;
      is = some;
      same = subst (λ (x : Option Hold). IsSameHeld r x (Some h)) some same;
    }

-- an old copy that a new one is, which isn't on an open shelf now
pub record WasOnHold (r : Renumbering) (d : Desk) (x : ℕ) (z : HoldPlace) : Type 0 where
  pub copy : ℕ
  pub place : HoldPlace
  pub same : r.copy copy ≡ Some x
  pub is : d.copy copy ≡ OnHoldShelf place
  pub branch : r.branch place.branch ≡ Some z.branch
  pub place_is : z.place ≡ place.place
  pub patron : r.patron place.patron ≡ Some z.patron

was_on_hold : (k j : Facts) (r : Renumbering) (d e : Desk) → IsCarriedOver r k j d e → (x : ℕ) (z : HoldPlace)
    → e.copy x ≡ OnHoldShelf z → WasOnHold r d x z
was_on_hold k j r d e over x z is = cases (over.copies x)
  where
    by_state : (c : ℕ) → r.copy c ≡ Some x → (s : CopyState) → d.copy c ≡ s → IsSamePlace r s (OnHoldShelf z)
        → WasOnHold r d x z
    by_state c same (OnHoldShelf s) is same_place = record {
      copy = c;
      place = s;
      same = same;
      is = is;
      branch = same_place.0;
      place_is = same_place.1;
      patron = same_place.2;
    }
    by_state c same (Shelf b) is same_place = absurd same_place
    by_state c same (OnLoan l) is same_place = absurd same_place
    by_state c same (InTransit t) is same_place = absurd same_place

    cases : Stayed r k d e x ⊎ IsAdded r j e x → WasOnHold r d x z
    cases (inl stayed) =
        by_state stayed.copy stayed.same (d.copy stayed.copy) refl
        (subst (IsSamePlace r (d.copy stayed.copy)) is stayed.place)
    cases (inr added) = absurd
        (let no_ : Shelf (j.home x) ≡ OnHoldShelf z = sym added.home ∙ is in let never : ⊥ = cc in never)

holds_fit : (k j : Facts) (r : Renumbering) (d e : Desk) (n : ℕ) → IsByNames k j r → HoldsFit n d.hold
    → IsCarriedOver r k j d e → HoldsFit n e.hold
holds_fit k j r d e n names fit over = record {
  named = λ u q h is.
      let was : WasHold r d u q h = was_hold k j r d e over u q h is in
      one_new r.patron was.patron h.patron q
      (subst (λ (p : ℕ). r.patron p ≡ Some h.patron)
      (fit.named was.title was.patron was.hold was.is) was.same.patron) was.same_patron;
  stamped = λ u q h is.
      let was : WasHold r d u q h = was_hold k j r d e over u q h is in
      subst (λ (s : ℕ). s < n) (sym was.same.stamp) (fit.stamped was.title was.patron was.hold was.is);
  apart = λ u p q g h is also same. apart u p q g h is also same;
}
  where
    apart : StampsApart e.hold
    apart u p q g h is also same =
        let one : WasHold r d u p g = was_hold k j r d e over u p g is in
        let two : WasHold r d u q h = was_hold k j r d e over u q h also in
        let title : two.title ≡ one.title =
        names.titles two.title one.title u two.same_title one.same_title in
        let patron : one.patron ≡ two.patron =
        fit.apart one.title one.patron two.patron one.hold two.hold one.is
        (subst (λ (t : ℕ). d.hold t two.patron ≡ Some two.hold) title two.is)
        (sym one.same.stamp ∙ same ∙ two.same.stamp) in
        one_new r.patron two.patron p q
        (subst (λ (x : ℕ). r.patron x ≡ Some p) patron one.same_patron) two.same_patron

places_fit : (k j : Facts) (r : Renumbering) (d e : Desk) → IsByNames k j r → PlacesFit k d.copy
    → IsCarriedOver r k j d e → PlacesFit j e.copy
places_fit k j r d e names fit over = record {
  from_one = λ x z is.
      let was : WasOnHold r d x z = was_on_hold k j r d e over x z is in
      subst (λ (p : ℕ). 1 ≤ p) (sym was.place_is) (fit.from_one was.copy was.place was.is);
  apart = λ x y z w in_x in_y is also branch place.
      let one : WasOnHold r d x z = was_on_hold k j r d e over x z is in
      let two : WasOnHold r d y w = was_on_hold k j r d e over y w also in
      let same_branch : one.place.branch ≡ two.place.branch =
      names.branches one.place.branch two.place.branch z.branch one.branch
      (two.branch ∙ ap (λ (b : ℕ). Some b) (sym branch)) in
      let same : one.copy ≡ two.copy =
      fit.apart one.copy two.copy one.place two.place (names.known one.copy x one.same)
      (names.known two.copy y two.same) one.is two.is
      same_branch (sym one.place_is ∙ place ∙ two.place_is) in
      one_new r.copy two.copy x y (subst (λ (c : ℕ). r.copy c ≡ Some x) same one.same) two.same;
}

-- a copy that is tied now was tied before
pub record WasTied (r : Renumbering) (d : Desk) (q x b : ℕ) : Type 0 where
  pub copy : ℕ
  pub patron : ℕ
  pub branch : ℕ
  pub same_copy : r.copy copy ≡ Some x
  pub same_patron : r.patron patron ≡ Some q
  pub same_branch : r.branch branch ≡ Some b
  pub tied : Tied (d.copy copy) patron branch

was_tied : (k j : Facts) (r : Renumbering) (d e : Desk) → IsCarriedOver r k j d e → (q x b : ℕ)
    → Tied (e.copy x) q b → WasTied r d q x b
was_tied k j r d e over q x b tied = cases (over.copies x)
  where
    in_transit : (c : ℕ) → r.copy c ≡ Some x → (o n : Option ℕ) (from to to_new : ℕ)
        → d.copy c ≡ InTransit (record {
          from = from;
          to = to;
          patron = o;
        }) → r.branch to ≡ Some to_new → IsSamePatron r o n → n ≡ Some q → to_new ≡ b → WasTied r d q x b
    in_transit c same (Some p) (Some m) from to to_new is branch patron so at = record {
      copy = c;
      patron = p;
      branch = to;
      same_copy = same;
      same_patron = patron ∙ so;
      same_branch = branch ∙ ap (λ (y : ℕ). Some y) at;
      tied = subst (λ (s : CopyState). Tied s p to) (sym is) (refl, refl);
    }
    in_transit c same (Some p) None from to to_new is branch patron so at = absurd patron
    in_transit c same None (Some m) from to to_new is branch patron so at = absurd patron
    in_transit c same None None from to to_new is branch patron so at = absurd (let never : ⊥ = cc in never)

    by_states : (c : ℕ) → r.copy c ≡ Some x → (s t : CopyState) → d.copy c ≡ s → IsSamePlace r s t
        → Tied t q b → WasTied r d q x b
    by_states c same (OnHoldShelf s) (OnHoldShelf z) is place h = record {
      copy = c;
      patron = s.patron;
      branch = s.branch;
      same_copy = same;
      same_patron = place.2 ∙ ap (λ (y : ℕ). Some y) h.0;
      same_branch = place.0 ∙ ap (λ (y : ℕ). Some y) h.1;
      tied = subst (λ (w : CopyState). Tied w s.patron s.branch) (sym is) (refl, refl);
    }
    by_states c same (InTransit t) (InTransit u) is place h =
        in_transit c same t.patron u.patron t.from t.to u.to is place.1 place.2 h.0 h.1
    by_states c same (Shelf a) t is place h = by_shelf t place h
      where
        by_shelf : (t : CopyState) → IsSamePlace r (Shelf a) t → Tied t q b → WasTied r d q x b
        by_shelf (Shelf y) place h = absurd h
        by_shelf (OnLoan y) place h = absurd h
        by_shelf (OnHoldShelf y) place h = absurd place
        by_shelf (InTransit y) place h = absurd place
    by_states c same (OnLoan l) t is place h = by_loan t place h
      where
        by_loan : (t : CopyState) → IsSamePlace r (OnLoan l) t → Tied t q b → WasTied r d q x b
        by_loan (Shelf y) place h = absurd h
        by_loan (OnLoan y) place h = absurd h
        by_loan (OnHoldShelf y) place h = absurd place
        by_loan (InTransit y) place h = absurd place
    by_states c same (OnHoldShelf s) (Shelf y) is place h = absurd h
    by_states c same (OnHoldShelf s) (OnLoan y) is place h = absurd h
    by_states c same (OnHoldShelf s) (InTransit y) is place h = absurd place
    by_states c same (InTransit t) (Shelf y) is place h = absurd h
    by_states c same (InTransit t) (OnLoan y) is place h = absurd h
    by_states c same (InTransit t) (OnHoldShelf y) is place h = absurd place

    cases : Stayed r k d e x ⊎ IsAdded r j e x → WasTied r d q x b
    cases (inl stayed) =
        by_states stayed.copy stayed.same (d.copy stayed.copy) (e.copy x) refl stayed.place tied
    cases (inr added) = absurd (subst (λ (s : CopyState). Tied s q b) added.home tied)

-- a copy that was tied is tied now
now_tied : (r : Renumbering) (s t : CopyState) (p q a b : ℕ) → IsSamePlace r s t → Tied s p a
    → r.patron p ≡ Some q → r.branch a ≡ Some b → Tied t q b
now_tied r (OnHoldShelf s) (OnHoldShelf z) p q a b place h patron branch = (
  one_new r.patron p z.patron q (subst (λ (y : ℕ). r.patron y ≡ Some z.patron) h.0 place.2) patron,
  one_new r.branch a z.branch b (subst (λ (y : ℕ). r.branch y ≡ Some z.branch) h.1 place.0) branch,
)
now_tied r (InTransit t) (InTransit u) p q a b place h patron branch = (
  by_patron t.patron u.patron h.0 place.2,
  one_new r.branch a u.to b (subst (λ (y : ℕ). r.branch y ≡ Some u.to) h.1 place.1) branch,
)
  where
    by_patron : (o n : Option ℕ) → o ≡ Some p → IsSamePatron r o n → n ≡ Some q
    by_patron (Some x) (Some y) so same =
        ap (λ (m : ℕ). Some m)
        (one_new r.patron p y q (subst (λ (m : ℕ). r.patron m ≡ Some y) (number_some x p so) same) patron)
    by_patron (Some x) None so same = absurd same
    by_patron None (Some y) so same = absurd same
    by_patron None None so same = absurd (let never : ⊥ = cc in never)
now_tied r (Shelf s) t p q a b place h patron branch = absurd h
now_tied r (OnLoan s) t p q a b place h patron branch = absurd h
now_tied r (OnHoldShelf s) (Shelf y) p q a b place h patron branch = absurd place
now_tied r (OnHoldShelf s) (OnLoan y) p q a b place h patron branch = absurd place
now_tied r (OnHoldShelf s) (InTransit y) p q a b place h patron branch = absurd place
now_tied r (InTransit s) (Shelf y) p q a b place h patron branch = absurd place
now_tied r (InTransit s) (OnLoan y) p q a b place h patron branch = absurd place
now_tied r (InTransit s) (OnHoldShelf y) p q a b place h patron branch = absurd place

-- a hold that has a copy now had it before
has_some : (r : Renumbering) (o : Option ℕ) (x : ℕ) → IsSameCopy r o (Some x)
    → (c : ℕ) × (o ≡ Some c) × (r.copy c ≡ Some x)
has_some r (Some c) x same = (c, refl, same)
has_some r None x same = absurd same

-- and one that had it has it now
had_some : (r : Renumbering) (c x : ℕ) (o n : Option ℕ) → o ≡ Some c → r.copy c ≡ Some x → IsSameCopy r o n
    → n ≡ Some x
had_some r c x (Some y) (Some z) so copy same =
    ap (λ (m : ℕ). Some m)
    (one_new r.copy c z x (subst (λ (m : ℕ). r.copy m ≡ Some z) (number_some y c so) same) copy)
had_some r c x (Some y) None so copy same = absurd same
had_some r c x None (Some z) so copy same = absurd same
had_some r c x None None so copy same = absurd (let never : ⊥ = cc in never)

tie_kept : (k j : Facts) (r : Renumbering) (d e : Desk) → IsByNames k j r → Tie k d
    → IsCarriedOver r k j d e → Tie j e
tie_kept k j r d e names tie over = record {
  tied = λ u q x b h. by_held u q x b (e.hold u q) refl h;
  has = λ q x b h. has_now q x b h;
}
  where
    by_held : (u q x b : ℕ) (o : Option Hold) → e.hold u q ≡ o → Has o x b
        → (j.title_of x ≡ u) × Tied (e.copy x) q b
    by_held u q x b None is h = absurd h
    by_held u q x b (Some g) is h =
        let was : WasHold r d u q g = was_hold k j r d e over u q g is in
        let had : (c : ℕ) × (was.hold.copy ≡ Some c) × (r.copy c ≡ Some x) =
        has_some r was.hold.copy x (subst (IsSameCopy r was.hold.copy) h.0 was.same.copy) in
        let old : (k.title_of had.0 ≡ was.title) × Tied (d.copy had.0) was.patron was.hold.pickup =
        tie.tied was.title was.patron had.0 was.hold.pickup
        (subst (λ (y : Option Hold). Has y had.0 was.hold.pickup) (sym was.is) (had.1, refl)) in (
          one_new r.title was.title (j.title_of x) u
              (subst (λ (t : ℕ). r.title t ≡ Some (j.title_of x)) old.0 (names.title_of had.0 x had.2))
              was.same_title,
          stands (over.copies x) had.0 had.2 was.patron was.hold.pickup old.1 was.same_patron
              (was.same.pickup ∙ ap (λ (y : ℕ). Some y) h.1),
        )
      where
        stands : Stayed r k d e x ⊎ IsAdded r j e x → (c : ℕ) → r.copy c ≡ Some x → (p a : ℕ)
            → Tied (d.copy c) p a → r.patron p ≡ Some q → r.branch a ≡ Some b → Tied (e.copy x) q b
        stands (inl stayed) c same p a tied patron branch =
            let one : c ≡ stayed.copy = names.copies c stayed.copy x same stayed.same in
            now_tied r (d.copy stayed.copy) (e.copy x) p q a b stayed.place
            (subst (λ (y : ℕ). Tied (d.copy y) p a) one tied) patron branch
        stands (inr added) c same p a tied patron branch = absurd (added.none c same)

    has_now : (q x b : ℕ) → Tied (e.copy x) q b → Has (e.hold (j.title_of x) q) x b
    has_now q x b h =
        let was : WasTied r d q x b = was_tied k j r d e over q x b h in
        by_old was (d.hold (k.title_of was.copy) was.patron) (e.hold (j.title_of x) q)
        (tie.has was.patron was.copy was.branch was.tied)
        (over.holds (k.title_of was.copy) (j.title_of x) was.patron q
        (names.title_of was.copy x was.same_copy) was.same_patron)
      where
        by_old : (was : WasTied r d q x b) (o m : Option Hold) → Has o was.copy was.branch
            → IsSameHeld r o m → Has m x b
        by_old was (Some g) (Some w) has same = (
          had_some r was.copy x g.copy w.copy has.0 was.same_copy same.copy,
          one_new r.branch was.branch w.pickup b
              (subst (λ (y : ℕ). r.branch y ≡ Some w.pickup) has.1 same.pickup) was.same_branch,
        )
        by_old was (Some g) None has same = absurd same
        by_old was None (Some w) has same = absurd same
        by_old was None None has same = absurd has

pub carried_is_sound : (k j : Facts) (r : Renumbering) (n : ℕ) (d e : Desk) → IsByNames k j r → Sound k n d
    → IsCarriedOver r k j d e → Sound j n e
carried_is_sound k j r n d e names sound over = record {
  holds = holds_fit k j r d e n names sound.holds over;
  places = places_fit k j r d e names sound.places over;
  tie = tie_kept k j r d e names sound.tie over;
}

known_patron : (k j : Facts) (r : Renumbering) → IsByNames k j r → (o n : Option ℕ) → IsSamePatron r o n
    → IsKnownPatron j n
known_patron k j r names (Some p) (Some q) same = names.new_patron p q same
known_patron k j r names None None same = tt
known_patron k j r names (Some p) None same = absurd same
known_patron k j r names None (Some q) same = absurd same

known_copy : (k j : Facts) (r : Renumbering) → IsByNames k j r → (o n : Option ℕ) → IsSameCopy r o n
    → IsKnownCopy j n
known_copy k j r names (Some c) (Some x) same = names.new_copy c x same
known_copy k j r names None None same = tt
known_copy k j r names (Some c) None same = absurd same
known_copy k j r names None (Some x) same = absurd same

known_kind : (k j : Facts) (r : Renumbering) → IsByNames k j r → (o n : HoldKind) → IsSameKind r o n
    → IsKnownKind j n
known_kind k j r names Any Any same = tt
known_kind k j r names (One c) (One x) same = names.new_copy c x same
known_kind k j r names AtBranch AtBranch same = tt
known_kind k j r names Any (One x) same = absurd same
known_kind k j r names Any AtBranch same = absurd same
known_kind k j r names (One c) Any same = absurd same
known_kind k j r names (One c) AtBranch same = absurd same
known_kind k j r names AtBranch Any same = absurd same
known_kind k j r names AtBranch (One x) same = absurd same

known_place : (k j : Facts) (r : Renumbering) → IsByNames k j r → (s t : CopyState) → IsSamePlace r s t
    → IsKnownState j t
known_place k j r names (Shelf b) (Shelf a) same = names.new_branch b a same
known_place k j r names (OnLoan l) (OnLoan m) same = names.new_patron l.patron m.patron same.0
known_place k j r names (OnHoldShelf s) (OnHoldShelf z) same =
    (names.new_branch s.branch z.branch same.0, names.new_patron s.patron z.patron same.2)
known_place k j r names (InTransit t) (InTransit u) same = (
  names.new_branch t.from u.from same.0,
  names.new_branch t.to u.to same.1,
  known_patron k j r names t.patron u.patron same.2,
)
known_place k j r names (Shelf s) (OnLoan y) same = absurd same
known_place k j r names (Shelf s) (OnHoldShelf y) same = absurd same
known_place k j r names (Shelf s) (InTransit y) same = absurd same
known_place k j r names (OnLoan s) (Shelf y) same = absurd same
known_place k j r names (OnLoan s) (OnHoldShelf y) same = absurd same
known_place k j r names (OnLoan s) (InTransit y) same = absurd same
known_place k j r names (OnHoldShelf s) (Shelf y) same = absurd same
known_place k j r names (OnHoldShelf s) (OnLoan y) same = absurd same
known_place k j r names (OnHoldShelf s) (InTransit y) same = absurd same
known_place k j r names (InTransit s) (Shelf y) same = absurd same
known_place k j r names (InTransit s) (OnLoan y) same = absurd same
known_place k j r names (InTransit s) (OnHoldShelf y) same = absurd same

-- and it names only what the other catalogue has
pub carried_is_known : (k j : Facts) (r : Renumbering) (d e : Desk) → AreInRange j → IsByNames k j r
    → IsCarriedOver r k j d e → IsKnownDesk j e
carried_is_known k j r d e range names over = record {
  copies = λ x in_x. copy_at x in_x (over.copies x);
  holds = λ u q in_u in_q. hold_at u q (e.hold u q) refl;
}
  where
    copy_at : (x : ℕ) → x < j.copies → Stayed r k d e x ⊎ IsAdded r j e x → IsKnownState j (e.copy x)
    copy_at x in_x (inl stayed) = known_place k j r names (d.copy stayed.copy) (e.copy x) stayed.place
    copy_at x in_x (inr added) = subst (IsKnownState j) (sym added.home) (range.home x in_x)

    hold_at : (u q : ℕ) (o : Option Hold) → e.hold u q ≡ o → IsKnownHeld j o
    hold_at u q None is = tt
    hold_at u q (Some h) is =
        let was : WasHold r d u q h = was_hold k j r d e over u q h is in
        record {
          patron = names.new_patron was.hold.patron h.patron was.same.patron;
          kind = known_kind k j r names was.hold.kind h.kind was.same.kind;
          pickup = names.new_branch was.hold.pickup h.pickup was.same.pickup;
          copy = known_copy k j r names was.hold.copy h.copy was.same.copy;
        }
