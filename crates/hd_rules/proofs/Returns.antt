-- What a return leads to, and the end of a hold.
use Rattle.std.proofs.Common.{◌≡◌, refl, sym, ◌∙◌, ap, subst, ℕ, ◌+◌, Bool, true, false, ◌==◌, ◌&&◌, cond}
use Rattle.std.proofs.Common.{List, [], ◌∷◌, Option, Some}
use Rattle.std.proofs.Common.{None, inr}
use Rattle.hd_rules.specs.Words.{Hold, HoldPlace, CopyState, Shelf, OnLoan, OnHoldShelf, InTransit, CopyCell}
use Rattle.hd_rules.specs.Words.{HoldCell, CopyHas, HoldHas}
use Rattle.hd_rules.specs.Words.{Change, Returned, Deleted}
use Rattle.hd_rules.specs.Facts.{Facts}
use Rattle.hd_rules.specs.Desk.{Desk, put}
use Rattle.hd_rules.specs.Find.{choice}
use Rattle.hd_rules.specs.Ask.{Plan}
use Rattle.hd_rules.specs.Settle.{settle, settle_tied, allot, keep, place_at, sent_home, sent_to, tied_to}
use Rattle.hd_rules.specs.Settle.{copy_becomes, hold_becomes}
use Rattle.hd_rules.specs.Settle.{with_copy}
use Rattle.hd_rules.specs.Step.{accept, checkin, release, delete_with, delete}
use Rattle.hd_rules.specs.Sound.{Has, Tied, PlacesFit, Sound}
use Rattle.hd_rules.proofs.Puts.{hold_cases}
use Rattle.hd_rules.proofs.Ties.{Untied, tied_one, tied_there, tied_as, Loose, loose_untied, tie_edit, loosen}
use Rattle.hd_rules.proofs.Ties.{tie_move}
use Rattle.hd_rules.proofs.Fits.{none_follows, follows_with, holds_end, Welcome, places_put, keeps_place}
use Rattle.hd_rules.proofs.Place.{place_is_free}
use Rattle.hd_rules.proofs.Chosen.{Chosen, chosen}
use Rattle.hd_rules.proofs.Leads.{Leads, asked, refused, either, accepted}
use Rattle.hd_rules.proofs.Ends.{accepted_copy, accepted_hold, accepted_both, next, Placed, loose_sound}
use Rattle.hd_rules.proofs.Ends.{give_sound, bare_as}
use Rattle.hd_rules.proofs.OffLine.{TiedTo, tied_to_is, untied_is}
use Rattle.hd_rules.proofs.Tests.{and_left, and_right, number_is, some_is}

-- What may be kept on a place of this branch: the one that the copy has already.
abbrev PlaceKept : Facts → Desk → ℕ → ℕ → Option ℕ → Type 0
PlaceKept k d c b at = (place : ℕ) → at ≡ Some place → (p : ℕ)
    → Welcome k d.copy c (record { branch = b; place = place; patron = p })

shelf_is : (s : HoldPlace) (r : HoldPlace) → OnHoldShelf s ≡ OnHoldShelf r → s ≡ r
shelf_is s r e = cc

-- a kept copy is tied to the hold's patron at its pickup, and placed well
keep_leads : (k : Facts) (m : ℕ) (d : Desk) (c : ℕ) (b : ℕ) (h : Hold)
    (at : Option ℕ) (rest : CopyState → Plan) → PlaceKept k d c b at
    → ((v : CopyState) → Tied v h.patron h.pickup → Placed k d c v → Leads k m d (rest v))
    → Leads k m d (keep b h at rest)
keep_leads k m d c b h None rest kept ok = either _ _ _ (h.pickup == b) _ _
    (λ here.
    asked (λ spot told. ok (OnHoldShelf (record { branch = b; place = spot; patron = h.patron })) (
      refl,
      sym (number_is h.pickup b here),
    )
    (λ s e. subst (λ (r : HoldPlace). Welcome k d.copy c r)
    (shelf_is (record { branch = b; place = spot; patron = h.patron }) s e)
    (subst (λ (x : ℕ). Welcome k d.copy c (record { branch = b; place = x; patron = h.patron })) told
    (place_is_free k d c b h.patron)))))
    (λ away. ok (sent_to b h) (refl, refl) (λ s e. cc))
keep_leads k m d c b h (Some spot) rest kept ok = by_test (h.pickup == b) refl
  where
    by_test : (t : Bool) → (h.pickup == b) ≡ t → Leads k m d
        (rest (cond t (OnHoldShelf (record { branch = b; place = spot; patron = h.patron })) (sent_to b h)))
    by_test true here = ok (OnHoldShelf (record { branch = b; place = spot; patron = h.patron }))
        (refl, sym (number_is h.pickup b here))
        (λ s e. subst (λ (r : HoldPlace). Welcome k d.copy c r)
        (shelf_is (record { branch = b; place = spot; patron = h.patron }) s e)
        (kept spot refl h.patron))
    by_test false away = ok (sent_to b h) (refl, refl) (λ s e. cc)

none_kept : (k : Facts) (d : Desk) (c : ℕ) (b : ℕ) → PlaceKept k d c b None
none_kept k d c b spot e p = cc

-- the place of a copy that stands on the branch's hold shelf may be kept
own_place : (k : Facts) (d : Desk) (c : ℕ) (s : HoldPlace) → PlacesFit k d.copy → d.copy c ≡ OnHoldShelf s
    → PlaceKept k d c s.branch (Some s.place)
own_place k d c s fit was spot e p = let same : s.place ≡ spot = cc in
    keeps_place k d c s (record { branch = s.branch; place = spot; patron = p }) fit was refl (sym same)

place_at_kept : (k : Facts) (d : Desk) (c : ℕ) (b : ℕ) (old : CopyState) → PlacesFit k d.copy → d.copy c ≡ old
    → PlaceKept k d c b (place_at b old)
place_at_kept k d c b (Shelf x) fit was = none_kept k d c b
place_at_kept k d c b (OnLoan l) fit was = none_kept k d c b
place_at_kept k d c b (InTransit t) fit was = none_kept k d c b
place_at_kept k d c b (OnHoldShelf s) fit was = by_test (s.branch == b) refl
  where
    by_test : (t : Bool) → (s.branch == b) ≡ t → PlaceKept k d c b (cond t (Some s.place) None)
    by_test true here = subst (λ (x : ℕ). PlaceKept k d c x (Some s.place)) (number_is s.branch b here)
        (own_place k d c s fit was)
    by_test false away = none_kept k d c b

sent_home_untied : (k : Facts) (c : ℕ) (b : ℕ) → Untied (sent_home k c b)
sent_home_untied k c b = by_test ((k.home c) == b)
  where
    by_test : (t : Bool)
        → Untied (cond t (Shelf b) (InTransit (record { from = b; to = k.home c; patron = None })))
    by_test true p x h = h
    by_test false p x h = let e : None ≡ Some p = h.0 in cc

sent_home_placed : (k : Facts) (d : Desk) (c : ℕ) (b : ℕ) → Placed k d c (sent_home k c b)
sent_home_placed k d c b = by_test ((k.home c) == b)
  where
    by_test : (t : Bool)
        → Placed k d c (cond t (Shelf b) (InTransit (record { from = b; to = k.home c; patron = None })))
    by_test true s e = cc
    by_test false s e = cc

-- a tied copy moves, tied as before
tied_sound : (k : Facts) (n : ℕ) (d : Desk) (c : ℕ) (v : CopyState) (p : ℕ) (a : ℕ) → Sound k n d
    → Tied (d.copy c) p a → Tied v p a → Placed k d c v → Sound k (n + 1) (put d (CopyCell c) (CopyHas v))
tied_sound k n d c v p a sound was is placed = record {
  holds = next n d.hold sound.holds;
  places = places_put k d c v sound.places placed;
  tie = tie_move k c d v sound.tie
      (λ q b h. tied_as (d.copy c) p q a b (tied_one v p q a b is h) (tied_there v p q a b is h) was)
      (λ q b h. tied_as v p q a b (tied_one (d.copy c) p q a b was h)
      (tied_there (d.copy c) p q a b was h) is);
}

abbrev returned : Facts → ℕ → ℕ → CopyState → CopyState → List Change → Plan
returned k n c old new gets =
    accept k n (copy_becomes c old new ∷ gets) (Returned (k.title_of c) (k.home c) new)

settle_tied_leads : (k : Facts) (n : ℕ) (d : Desk) (c : ℕ) (b : ℕ) (old : CopyState) (p : ℕ) (a : ℕ)
    (held : Option Hold) → Sound k n d → d.copy c ≡ old → Tied (d.copy c) p a → d.hold (k.title_of c) p ≡ held
    → Leads k (n + 1) d (settle_tied k c b old held (returned k n c old))
settle_tied_leads k n d c b old p a None sound was tied has =
    absurd (subst (λ (o : Option Hold). Has o c a) has (sound.tie.has p c a tied))
settle_tied_leads k n d c b old p a (Some h) sound was tied has =
    let had : Has (Some h) c a = subst (λ (o : Option Hold). Has o c a) has (sound.tie.has p c a tied) in
    keep_leads k (n + 1) d c b h (place_at b old) _ (place_at_kept k d c b old sound.places was)
    (λ v to placed.
    accepted_copy k n (n + 1) d c old v _ was
    (tied_sound k n d c v p a sound tied
    (tied_as v h.patron p h.pickup a (sound.holds.named (k.title_of c) p h has) had.1 to) placed))

allot_leads : (k : Facts) (n : ℕ) (d : Desk) (c : ℕ) (b : ℕ) (day : ℕ) (old : CopyState) (first : Option Hold)
    → Sound k n d → d.copy c ≡ old → Untied (d.copy c) → choice k d c b day ≡ first
    → Leads k (n + 1) d (allot k c b None first (returned k n c old))
allot_leads k n d c b day old None sound was free is =
    accepted_copy k n (n + 1) d c old (sent_home k c b) _ was
    (loose_sound k n d c (sent_home k c b) sound.holds sound.places (loose_untied k c d sound.tie free)
    (sent_home_untied k c b)
    (sent_home_placed k d c b))
allot_leads k n d c b day old (Some h) sound was free is =
    let first : Chosen k d c h = chosen k n d c b day h sound.holds is in
    asked (λ held told.
    keep_leads k (n + 1) d c b h None
    (λ new. returned k n c old new
    (hold_becomes (k.title_of c) h.patron held (Some (with_copy (Some c) h)) ∷ [])) (none_kept k d c b)
    (λ v to placed.
    accepted_both k n (n + 1) d c old v (k.title_of c) h.patron held (Some (with_copy (Some c) h)) _ was told
    (λ g is. follows_with (Some c) held h g (sym told ∙ first.has) is)
    (give_sound k n d c v h.patron h sound.holds sound.places
    (loose_untied k c d sound.tie free) first.has first.none to placed)))

settle_leads : (k : Facts) (n : ℕ) (d : Desk) (c : ℕ) (b : ℕ) (day : ℕ) (old : CopyState) (tied : Option ℕ)
    → Sound k n d → d.copy c ≡ old → tied_to (d.copy c) ≡ tied
    → Leads k (n + 1) d (settle k c b day old tied (returned k n c old))
settle_leads k n d c b day old (Some p) sound was is =
    let at : TiedTo (d.copy c) p = tied_to_is (d.copy c) p is in
    asked (λ held told. settle_tied_leads k n d c b old p at.branch held sound was at.tied told)
settle_leads k n d c b day old None sound was is =
    asked (λ first told. allot_leads k n d c b day old first sound was (untied_is (d.copy c) is) told)

pub checkin_leads : (k : Facts) (n : ℕ) (d : Desk) (c : ℕ) (b : ℕ) (day : ℕ) → Sound k n d
    → Leads k (n + 1) d (checkin k n c b day)
checkin_leads k n d c b day sound =
    asked (λ old told. settle_leads k n d c b day old (tied_to old) sound told (ap tied_to told))

-- the hold that ends isn't the one that gets its copy
another : (k : Facts) (d : Desk) (c : ℕ) (t : ℕ) (p : ℕ) (h g : Hold) → d.hold t p ≡ Some h → h.copy ≡ Some c
    → d.hold (k.title_of c) g.patron ≡ Some g → g.copy ≡ None → t ≡ k.title_of c → p ≡ g.patron → ⊥
another k d c t p h g was copy has none e f =
    let same : d.hold t p ≡ d.hold (k.title_of c) g.patron = λ i. d.hold (e i) (f i) in
    let one : Some h ≡ Some g = sym was ∙ same ∙ has in
    let two : Some c ≡ None = sym copy ∙ ap (λ (x : Hold). x.copy) (some_is h g one) ∙ none in cc

another_cell : (k : Facts) (c : ℕ) (t : ℕ) (p q : ℕ) → (t ≡ k.title_of c → p ≡ q → ⊥)
    → (((k.title_of c) == t) && (q == p)) ≡ false
another_cell k c t p q apart = by_test (((k.title_of c) == t) && (q == p)) refl
  where
    by_test : (b : Bool) → (((k.title_of c) == t) && (q == p)) ≡ b → b ≡ false
    by_test true is = absurd
        (apart (sym (number_is (k.title_of c) t (and_left _ _ is))) (sym (number_is q p (and_right _ _ is))))
    by_test false is = refl

abbrev ending : Facts → ℕ → ℕ → ℕ → Hold → List Change → Plan
ending k n t p h gets = accept k n (hold_becomes t p (Some h) None ∷ gets) (Deleted t)

accepted_end : (k : Facts) (n : ℕ) (d : Desk) (t : ℕ) (p : ℕ) (h : Hold) (c : ℕ) (old new : CopyState)
    → d.hold t p ≡ Some h → d.copy c ≡ old
    → Sound k (n + 1) (put (put d (HoldCell t p) (HoldHas None)) (CopyCell c) (CopyHas new))
    → Leads k (n + 1) d (ending k n t p h (copy_becomes c old new ∷ []))
accepted_end k n d t p h c old new has was sound =
    accepted k n (n + 1) d (hold_becomes t p (Some h) None ∷ copy_becomes c old new ∷ []) _
    (ap HoldHas has, tt, (refl, tt), (ap CopyHas was, tt, tt, tt))
    (inr ((none_follows (Some h), (tt, tt)), tt)) sound

release_leads : (k : Facts) (n : ℕ) (d : Desk) (t : ℕ) (p : ℕ) (day : ℕ) (h : Hold) (c : ℕ) (old : CopyState)
    → Sound k n d → d.hold t p ≡ Some h → h.copy ≡ Some c → d.copy c ≡ old
    → Leads k (n + 1) d (release k c day old (ending k n t p h))
release_leads k n d t p day h c old sound has copy was = at old was
  where
    had : Has (d.hold t p) c h.pickup
    had = subst (λ (o : Option Hold). Has o c h.pickup) (sym has) (copy, refl)

    tied : Tied (d.copy c) p h.pickup
    tied = (sound.tie.tied t p c h.pickup had).1

    loose : Loose k c (put d (HoldCell t p) (HoldHas None))
    loose = loosen k c d t p h.pickup None sound.tie had tt

    given : (s : HoldPlace) → d.copy c ≡ OnHoldShelf s → (first : Option Hold)
        → choice k d c s.branch day ≡ first → Leads k (n + 1) d
        (allot k c s.branch (Some s.place) first
        (λ new gets. ending k n t p h (copy_becomes c (OnHoldShelf s) new ∷ gets)))
    given s was None is = accepted_end k n d t p h c (OnHoldShelf s) (sent_home k c s.branch) has was
        (loose_sound k n (put d (HoldCell t p) (HoldHas None)) c (sent_home k c s.branch)
        (holds_end n d t p sound.holds) sound.places loose
        (sent_home_untied k c s.branch) (sent_home_placed k d c s.branch))
    given s was (Some g) is =
        let first : Chosen k d c g = chosen k n d c s.branch day g sound.holds is in
        let apart : t ≡ k.title_of c → p ≡ g.patron
        → ⊥ = another k d c t p h g has copy first.has first.none in
        asked (λ held told.
        keep_leads k (n + 1) d c s.branch g (Some s.place)
        (λ new. ending k n t p h
        (copy_becomes c (OnHoldShelf s) new ∷ hold_becomes (k.title_of c) g.patron held
        (Some (with_copy (Some c) g)) ∷ []))
        (own_place k d c s sound.places was) (λ v to placed.
        accepted k n (n + 1) d
        (hold_becomes t p (Some h) None ∷ copy_becomes c (OnHoldShelf s) v
        ∷ hold_becomes (k.title_of c) g.patron held (Some (with_copy (Some c) g)) ∷ []) (Deleted t) (
          ap HoldHas has,
          tt,
          (refl, (another_cell k c t p g.patron apart, tt)),
          (ap CopyHas was, tt, (refl, tt), (ap HoldHas told, tt, tt, tt)),
        )
        (inr (
          (
            none_follows (Some h),
            (tt, ((λ x is. follows_with (Some c) held g x (sym told ∙ first.has) is), tt)),
          ),
          (tt, tt),
        ))
        (give_sound k n (put d (HoldCell t p) (HoldHas None)) c v g.patron g
        (holds_end n d t p sound.holds) sound.places loose
        (hold_cases (λ o. o ≡ Some g) t (k.title_of c) p g.patron None (d.hold (k.title_of c) g.patron)
        (λ e f. absurd (apart e f))
        (λ other. first.has))
        first.none to placed)))

    at : (old : CopyState) → d.copy c ≡ old → Leads k (n + 1) d (release k c day old (ending k n t p h))
    at (Shelf b) was = absurd (subst (λ (s : CopyState). Tied s p h.pickup) was tied)
    at (OnLoan l) was = absurd (subst (λ (s : CopyState). Tied s p h.pickup) was tied)
    at (InTransit r) was = accepted_end k n d t p h c (InTransit r)
        (InTransit (record { from = r.from; to = r.to; patron = None })) has was
        (loose_sound k n (put d (HoldCell t p) (HoldHas None)) c
        (InTransit (record { from = r.from; to = r.to; patron = None }))
        (holds_end n d t p sound.holds) sound.places loose
        (λ q b free. let e : None ≡ Some q = free.0 in cc) (λ s e. cc))
    at (OnHoldShelf s) was = asked (λ first told. given s was first told)

delete_with_leads : (k : Facts) (n : ℕ) (d : Desk) (t : ℕ) (p : ℕ) (day : ℕ) (h : Hold) (o : Option ℕ)
    → Sound k n d → d.hold t p ≡ Some h → h.copy ≡ o → Leads k (n + 1) d (delete_with k n t p day h o)
delete_with_leads k n d t p day h None sound has copy =
    accepted_hold k n (n + 1) d t p (Some h) None _ has (record {
      holds = next n _ (holds_end n d t p sound.holds);
      places = sound.places;
      tie = tie_edit k d t p None sound.tie (bare_as _ (Some h) has copy) tt;
    })
delete_with_leads k n d t p day h (Some c) sound has copy =
    asked (λ old told. release_leads k n d t p day h c old sound has copy told)

pub delete_leads : (k : Facts) (n : ℕ) (d : Desk) (t : ℕ) (p : ℕ) (day : ℕ) (old : Option Hold) → Sound k n d
    → d.hold t p ≡ old → Leads k (n + 1) d (delete k n t p day old)
delete_leads k n d t p day None sound was = refused
delete_leads k n d t p day (Some h) sound was = delete_with_leads k n d t p day h h.copy sound was refl
