-- What is asked of a catalogue is asked of a grown one, and a journal of it may begin.
use Rattle.std.proofs.Common.{arith, ◌≡◌, refl, sym, ◌∙◌, ap, subst, ℕ, ◌+◌, ◌<◌, ◌≤◌, ◌⊎◌, inl, inr}
use Rattle.std.proofs.Common.{Option, Some, None, List}
use Rattle.hd_rules.specs.Words.{Hold, HoldKind, Any, One, AtBranch, HoldPlace, CopyState, Shelf, OnLoan}
use Rattle.hd_rules.specs.Words.{OnHoldShelf, InTransit, Action, Cancel, Asked}
use Rattle.hd_rules.specs.declared.commands.Action.TheVariants as action
use Rattle.hd_rules.specs.declared.commands.Cancel.TheVariants as cancel
use Rattle.hd_rules.specs.declared.turns.Asked.TheVariants as ask
use Rattle.hd_rules.specs.Facts.{Facts, AreInRange, first_number}
use Rattle.hd_rules.specs.Desk.{Desk}
use Rattle.hd_rules.specs.Journal.{Turn}
use Rattle.hd_rules.specs.Known.{IsKnownKind, IsKnownChoice, IsKnownAction, IsKnownCancel, IsKnown}
use Rattle.hd_rules.specs.Known.{IsKnownPatron, IsKnownCopy, IsKnownState, IsKnownHeld}
use Rattle.hd_rules.specs.Known.{IsKnownDesk}
use Rattle.hd_rules.specs.Sound.{Has, Tied, Tie, HoldsFit, PlacesFit, MayOpen}
use Rattle.hd_rules.specs.Growth.{IsOnItsWay, IsGrownDesk, Grows, AreOfCatalogue}
use Rattle.hd_rules.proofs.Growing.{old_or_new, new_copy, new_hold}

module _ (k j : Facts) (grows : Grows k j) where
  pub more_copies : (c : ℕ) → c < k.copies → c < j.copies
  more_copies c lt = let le : k.copies ≤ j.copies = grows.longer.copies in omega arith

  pub more_titles : (t : ℕ) → t < k.titles → t < j.titles
  more_titles t lt = let le : k.titles ≤ j.titles = grows.longer.titles in omega arith

  pub more_patrons : (p : ℕ) → p < k.patrons → p < j.patrons
  more_patrons p lt = let le : k.patrons ≤ j.patrons = grows.longer.patrons in omega arith

  more_branches : (b : ℕ) → b < k.branches → b < j.branches
  more_branches b lt = let le : k.branches ≤ j.branches = grows.longer.branches in omega arith

  kind_more : (kind : HoldKind) → IsKnownKind k kind → IsKnownKind j kind
  kind_more Any known = tt
  kind_more (One c) known = more_copies c known
  kind_more AtBranch known = tt

  choice_more : (kind : Option HoldKind) (pickup : Option ℕ) → IsKnownChoice k kind pickup
      → IsKnownChoice j kind pickup
  choice_more None None known = tt
  choice_more (Some kind) None known = kind_more kind known
  choice_more None (Some b) known = more_branches b known
  choice_more (Some kind) (Some b) known = (kind_more kind known.0, more_branches b known.1)

  action_more : (a : Action) → IsKnownAction k a → IsKnownAction j a
  action_more (action.Checkout p c may) known = (more_patrons p known.0, more_copies c known.1)
  action_more (action.OffLine p c due) known = (more_patrons p known.0, more_copies c known.1)
  action_more (action.Checkin c b) known = (more_copies c known.0, more_branches b known.1)
  action_more (action.Add p t kind pickup expiry) known = (
    more_patrons p known.0,
    more_titles t known.1,
    kind_more kind known.2,
    more_branches pickup known.3,
  )
  action_more (action.Delete p t) known = (more_patrons p known.0, more_titles t known.1)
  action_more (action.Change p t kind pickup expiry) known =
      (more_patrons p known.0, more_titles t known.1, choice_more kind pickup known.2)
  action_more (action.Renewal p c) known = (more_patrons p known.0, more_copies c known.1)

  cancel_more : (what : Cancel) → IsKnownCancel k what → IsKnownCancel j what
  cancel_more (cancel.Checkout c) known = more_copies c known
  cancel_more (cancel.Checkin c) known = more_copies c known
  cancel_more (cancel.Renewal c) known = more_copies c known
  cancel_more (cancel.Add p t) known = (more_patrons p known.0, more_titles t known.1)
  cancel_more (cancel.Delete p t) known = (more_patrons p known.0, more_titles t known.1)
  cancel_more (cancel.Change p t) known = (more_patrons p known.0, more_titles t known.1)

  pub asked_more : (a : Asked) → IsKnown k a → IsKnown j a
  asked_more (ask.Command command) known = action_more command.action known
  asked_more (ask.Cancel what) known = cancel_more what known
  asked_more (ask.Item c) known = more_copies c known

  patron_more : (o : Option ℕ) → IsKnownPatron k o → IsKnownPatron j o
  patron_more None known = tt
  patron_more (Some p) known = more_patrons p known

  copy_more : (o : Option ℕ) → IsKnownCopy k o → IsKnownCopy j o
  copy_more None known = tt
  copy_more (Some c) known = more_copies c known

  pub state_more : (s : CopyState) → IsKnownState k s → IsKnownState j s
  state_more (Shelf b) known = more_branches b known
  state_more (OnLoan l) known = more_patrons l.patron known
  state_more (OnHoldShelf s) known = (more_branches s.branch known.0, more_patrons s.patron known.1)
  state_more (InTransit t) known =
      (more_branches t.from known.0, more_branches t.to known.1, patron_more t.patron known.2)

  pub held_more : (o : Option Hold) → IsKnownHeld k o → IsKnownHeld j o
  held_more None known = tt
  held_more (Some h) known = record {
    patron = more_patrons h.patron known.patron;
    kind = kind_more h.kind known.kind;
    pickup = more_branches h.pickup known.pickup;
    copy = copy_more h.copy known.copy;
  }

  way_known : (s : CopyState) → IsOnItsWay j s → IsKnownState j s
  way_known s way = subst (IsKnownState j) (sym way.is) (way.known_from, way.known_to, tt)

  -- a title and a patron of the first catalogue, or one of them new
  pub pair_old_or_new : (t p : ℕ)
      → ((t < k.titles) × (p < k.patrons)) ⊎ ((k.titles ≤ t) ⊎ (k.patrons ≤ p))
  pair_old_or_new t p = cases (old_or_new t k.titles) (old_or_new p k.patrons)
    where
      cases : (t < k.titles) ⊎ (k.titles ≤ t) → (p < k.patrons) ⊎ (k.patrons ≤ p)
          → ((t < k.titles) × (p < k.patrons)) ⊎ ((k.titles ≤ t) ⊎ (k.patrons ≤ p))
      cases (inl in_t) (inl in_p) = inl (in_t, in_p)
      cases (inr new) in_p = inr (inl new)
      cases (inl in_t) (inr new) = inr (inr new)

  module _ (range : AreInRange k) (d e : Desk) (grown : IsGrownDesk k j d e) where
    desk_more : IsKnownDesk k d → IsKnownDesk j e
    desk_more known = record {
      copies = λ c in_c. copies c in_c (old_or_new c k.copies);
      holds = λ t p in_t in_p. holds t p (pair_old_or_new t p);
    }
      where
        copies : (c : ℕ) → c < j.copies → (c < k.copies) ⊎ (k.copies ≤ c) → IsKnownState j (e.copy c)
        copies c in_c (inl old) =
            subst (IsKnownState j) (sym (grown.copies c old)) (state_more (d.copy c) (known.copies c old))
        copies c in_c (inr new) = way_known (e.copy c) (new_copy k j grows range d e grown c new in_c)

        holds : (t p : ℕ) → ((t < k.titles) × (p < k.patrons)) ⊎ ((k.titles ≤ t) ⊎ (k.patrons ≤ p))
            → IsKnownHeld j (e.hold t p)
        holds t p (inl old) = subst (IsKnownHeld j) (sym (grown.holds t p old.0 old.1))
            (held_more (d.hold t p) (known.holds t p old.0 old.1))
        holds t p (inr new) = subst (IsKnownHeld j) (sym (new_hold k j grows range d e grown t p new)) tt

pub asks_grown : (k j : Facts) (turns : List Turn) → Grows k j → AreInRange j → AreOfCatalogue k turns
    → AreOfCatalogue j turns
asks_grown k j turns grows range of = record {
  range = range;
  opening = desk_more k j grows of.range k.opening.desk j.opening.desk grows.opening of.opening;
  ask = λ turn among. asked_more k j grows turn.message.asked (of.ask turn among);
}

pub only_grown : (k j : Facts) (d e f : Desk) → IsGrownDesk k j d e → IsGrownDesk k j d f → e ≡ f
only_grown k j d e f one other = λ i. record { copy = λ c. copies c i; hold = λ t p. holds t p i }
  where
    copies : (c : ℕ) → e.copy c ≡ f.copy c
    copies c = cases (old_or_new c k.copies)
      where
        cases : (c < k.copies) ⊎ (k.copies ≤ c) → e.copy c ≡ f.copy c
        cases (inl old) = one.copies c old ∙ sym (other.copies c old)
        cases (inr new) = one.new_copies c new ∙ sym (other.new_copies c new)

    holds : (t p : ℕ) → e.hold t p ≡ f.hold t p
    holds t p = cases (old_or_new t k.titles) (old_or_new p k.patrons)
      where
        cases : (t < k.titles) ⊎ (k.titles ≤ t) → (p < k.patrons) ⊎ (k.patrons ≤ p) → e.hold t p ≡ f.hold t p
        cases (inl in_t) (inl in_p) = one.holds t p in_t in_p ∙ sym (other.holds t p in_t in_p)
        cases (inr new) in_p = one.new_holds t p (inl new) ∙ sym (other.new_holds t p (inl new))
        cases (inl in_t) (inr new) = one.new_holds t p (inr new) ∙ sym (other.new_holds t p (inr new))

-- a copy that is tied is one of the first catalogue's
module _ (k j : Facts) (grows : Grows k j) (range : AreInRange k) (known : IsKnownDesk k k.opening.desk)
    (sound : MayOpen k) where
  abbrev d : Desk
  d = k.opening.desk

  abbrev e : Desk
  e = j.opening.desk

  -- where a copy isn't one of the first catalogue's
  is_new : (c : ℕ) → k.copies ≤ c → IsOnItsWay j (e.copy c) ⊎ ((b : ℕ) × (e.copy c ≡ Shelf b))
  is_new c new = cases (old_or_new c j.copies)
    where
      cases : (c < j.copies) ⊎ (j.copies ≤ c)
          → IsOnItsWay j (j.opening.desk.copy c) ⊎ ((b : ℕ) × (j.opening.desk.copy c ≡ Shelf b))
      cases (inl in_c) = inl (grows.on_the_way c new in_c)
      cases (inr past) = inr (grows.past c past)

  not_tied : (s : CopyState) (p b : ℕ) → IsOnItsWay j s ⊎ ((a : ℕ) × (s ≡ Shelf a)) → Tied s p b → ⊥
  not_tied s p b (inl way) tied =
      let at : Tied (InTransit (record { from = way.from; to = way.to; patron = None })) p b =
      subst (λ (x : CopyState). Tied x p b) way.is tied in
      let none : None ≡ Some p = at.0 in cc
  not_tied s p b (inr shelf) tied = subst (λ (x : CopyState). Tied x p b) shelf.1 tied

  not_shelved : (s : CopyState) (z : HoldPlace) → IsOnItsWay j s ⊎ ((a : ℕ) × (s ≡ Shelf a))
      → s ≡ OnHoldShelf z → ⊥
  not_shelved s z (inl way) is =
      let both : InTransit (record { from = way.from; to = way.to; patron = None }) ≡ OnHoldShelf z =
      sym way.is ∙ is in cc
  not_shelved s z (inr shelf) is = let both : Shelf shelf.0 ≡ OnHoldShelf z = sym shelf.1 ∙ is in cc

  shelved_old : (c : ℕ) (z : HoldPlace) → e.copy c ≡ OnHoldShelf z → c < k.copies
  shelved_old c z is = cases (old_or_new c k.copies)
    where
      cases : (c < k.copies) ⊎ (k.copies ≤ c) → c < k.copies
      cases (inl old) = old
      cases (inr new) = absurd (not_shelved (e.copy c) z (is_new c new) is)

  -- a hold is one of a title and a patron of the first catalogue
  hold_old : (t p : ℕ) (h : Hold) → e.hold t p ≡ Some h → d.hold t p ≡ Some h
  hold_old t p h is = cases (pair_old_or_new k j grows t p)
    where
      cases : ((t < k.titles) × (p < k.patrons)) ⊎ ((k.titles ≤ t) ⊎ (k.patrons ≤ p))
          → k.opening.desk.hold t p ≡ Some h
      cases (inl old) = sym (grows.opening.holds t p old.0 old.1) ∙ is
      cases (inr new) = let both : None ≡ Some h = sym (grows.not_held t p new) ∙ is in cc

  copy_old : (c : ℕ) → c < k.copies → e.copy c ≡ d.copy c
  copy_old c old = grows.opening.copies c old

  first_same : first_number j ≡ first_number k
  first_same = ap (λ (n : ℕ). n + 1) grows.longer.last

  holds_fit : HoldsFit (first_number j) e.hold
  holds_fit = record {
    named = λ t p h is. sound.holds.named t p h (hold_old t p h is);
    stamped = λ t p h is. subst (λ (n : ℕ). h.stamp < n) (sym first_same)
        (sound.holds.stamped t p h (hold_old t p h is));
    apart = λ t p q g h one other same.
        sound.holds.apart t p q g h (hold_old t p g one) (hold_old t q h other) same;
  }

  places_fit : PlacesFit j e.copy
  places_fit = record {
    from_one = λ c s is. sound.places.from_one c s (sym (copy_old c (shelved_old c s is)) ∙ is);
    apart = λ x y s r in_x in_y one other branch place.
        sound.places.apart x y s r (shelved_old x s one) (shelved_old y r other)
        (sym (copy_old x (shelved_old x s one)) ∙ one) (sym (copy_old y (shelved_old y r other)) ∙ other)
        branch place;
  }

  has_some : (o : Option Hold) (c b : ℕ) → Has o c b → (h : Hold) × (o ≡ Some h) × (h.copy ≡ Some c)
  has_some None c b has = absurd has
  has_some (Some h) c b has = (h, refl, has.0)

  has_known : (o : Option Hold) (c b : ℕ) → IsKnownHeld k o → Has o c b → c < k.copies
  has_known None c b fine has = absurd has
  has_known (Some h) c b fine has = subst (IsKnownCopy k) has.0 fine.copy

  tied_known : (s : CopyState) (p b : ℕ) → IsKnownState k s → Tied s p b → p < k.patrons
  tied_known (Shelf a) p b fine tied = absurd tied
  tied_known (OnLoan l) p b fine tied = absurd tied
  tied_known (OnHoldShelf s) p b fine tied = subst (λ (q : ℕ). q < k.patrons) tied.0 fine.1
  tied_known (InTransit t) p b fine tied = subst (IsKnownPatron k) tied.0 fine.2

  tie_grown : Tie j e
  tie_grown = record {
    tied = λ t p c b has. tied_at t p c b has (has_some (e.hold t p) c b has);
    has = λ p c b tied. has_at p c b tied (old_or_new c k.copies);
  }
    where
      tied_at : (t p c b : ℕ) → Has (e.hold t p) c b
          → (h : Hold) × (e.hold t p ≡ Some h) × (h.copy ≡ Some c)
          → (j.title_of c ≡ t) × Tied (e.copy c) p b
      tied_at t p c b has (h, is, copy) = cases (pair_old_or_new k j grows t p)
        where
          cases : ((t < k.titles) × (p < k.patrons)) ⊎ ((k.titles ≤ t) ⊎ (k.patrons ≤ p))
              → (j.title_of c ≡ t) × Tied (e.copy c) p b
          cases (inr new) =
              absurd (subst (λ (o : Option Hold). Has o c b) (grows.not_held t p new) has)
          cases (inl old) =
              let old_has : Has (d.hold t p) c b =
              subst (λ (o : Option Hold). Has o c b) (is ∙ sym (hold_old t p h is)) has in
              let in_c : c < k.copies = has_known (d.hold t p) c b (known.holds t p old.0 old.1) old_has in
              let both : (k.title_of c ≡ t) × Tied (d.copy c) p b = sound.tie.tied t p c b old_has in (
                grows.longer.title_of c in_c ∙ both.0,
                subst (λ (s : CopyState). Tied s p b) (sym (copy_old c in_c)) both.1,
              )

      has_at : (p c b : ℕ) → Tied (e.copy c) p b → (c < k.copies) ⊎ (k.copies ≤ c)
          → Has (e.hold (j.title_of c) p) c b
      has_at p c b tied (inr new) = absurd (not_tied (e.copy c) p b (is_new c new) tied)
      has_at p c b tied (inl old) =
          let old_tied : Tied (d.copy c) p b = subst (λ (s : CopyState). Tied s p b) (copy_old c old) tied in
          let in_p : p < k.patrons = tied_known (d.copy c) p b (known.copies c old) old_tied in
          let same : e.hold (j.title_of c) p ≡ d.hold (k.title_of c) p =
          ap (λ (t : ℕ). e.hold t p) (grows.longer.title_of c old)
          ∙ grows.opening.holds (k.title_of c) p (range.title_of c old) in_p in
          subst (λ (o : Option Hold). Has o c b) (sym same) (sound.tie.has p c b old_tied)

  may_open : MayOpen j
  may_open = record { holds = holds_fit; places = places_fit; tie = tie_grown }

pub opens_grown : (k j : Facts) → Grows k j → AreInRange k → IsKnownDesk k k.opening.desk → MayOpen k → MayOpen j
opens_grown k j grows range known sound = may_open k j grows range known sound
