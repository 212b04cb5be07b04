-- Taking gentle changes back leads through fit desks.
use Rattle.std.proofs.Common.{◌≡◌, refl, sym, ◌∙◌, subst, ℕ, inl, inr, List, [], ◌∷◌, Some}
use Rattle.hd_rules.specs.Words.{Hold, Cell, CopyCell, HoldCell, Value, CopyHas, HoldHas, Change}
use Rattle.hd_rules.specs.Facts.{Facts}
use Rattle.hd_rules.specs.Desk.{Desk, value, put, take_back}
use Rattle.hd_rules.specs.Run.{AreChanges, Elsewhere}
use Rattle.hd_rules.specs.Sound.{HoldsFit, PlacesFit, IsFit, Sound, EachBackIsFit}
use Rattle.hd_rules.specs.Differ.{DifferAtEach, DifferBy}
use Rattle.hd_rules.proofs.Undo.{hold_inj, put_elsewhere, undone_is}
use Rattle.hd_rules.proofs.Puts.{hold_cases}
use Rattle.hd_rules.proofs.Fits.{Follows, follows_itself, fit_of, holds_follow}
use Rattle.hd_rules.proofs.Gentle.{IsMild, AreMild, IsOfHold, AreOfHolds, OneCopyFirst, OneCopy, IsSingle}
use Rattle.hd_rules.proofs.Gentle.{AreGentle, one_of_holds}

undone_elsewhere : (cs : List Change) (d : Desk) (y : Cell) → Elsewhere y cs
    → value (take_back cs d) y ≡ value d y
undone_elsewhere [] d y h = refl
undone_elsewhere (c ∷ cs) d y h = put_elsewhere (take_back cs d) c.cell c.old y h.0
    ∙ undone_elsewhere cs d y h.1

-- a hold that is there before a mild change is taken back was there with that stamp already
mild_follows : (u : Desk) (x : Cell) (old new : Value) → IsMild old new → value u x ≡ new
    → (t : ℕ) (p : ℕ) (h : Hold) → u.hold t p ≡ Some h → Follows ((put u x old).hold t p) h
mild_follows u (CopyCell c) (CopyHas s) new mild has t p h is = follows_itself (u.hold t p) h is
mild_follows u (CopyCell c) (HoldHas o) new mild has t p h is = follows_itself (u.hold t p) h is
mild_follows u (HoldCell s q) (CopyHas o) new mild has t p h is = follows_itself (u.hold t p) h is
mild_follows u (HoldCell s q) (HoldHas o) (CopyHas r) mild has t p h is = absurd mild
mild_follows u (HoldCell s q) (HoldHas o) (HoldHas v) mild has t p h is =
    hold_cases (λ w. Follows w h) s t q p o (u.hold t p)
    (λ e f. mild h (sym (hold_inj (u.hold s q) v has) ∙ (λ i. u.hold (e i) (f i)) ∙ is))
    (λ other. follows_itself (u.hold t p) h is)

abbrev EachBack : (Desk → Type 0) → List Change → Desk → Type 0
EachBack P [] d = Unit {0}
EachBack P (c ∷ cs) d = EachBack P cs d × P (take_back (c ∷ cs) d)

holds_back : (n : ℕ) (d e : Desk) (cs : List Change) → DifferAtEach d e cs → AreChanges cs → AreMild cs
    → HoldsFit n (take_back cs d).hold → EachBack (λ x. HoldsFit n x.hold) cs d
holds_back n d e [] kept are mild fit = tt
holds_back n d e (c ∷ cs) kept are mild fit = (holds_back n d e cs kept.1 are.3 mild.1 before, fit)
  where
    before : HoldsFit n (take_back cs d).hold
    before = holds_follow n (take_back (c ∷ cs) d).hold (take_back cs d).hold fit
        (mild_follows (take_back cs d) c.cell c.old c.new mild.0
        (undone_elsewhere cs d c.cell are.2 ∙ kept.0.new))

holds_only : (cs : List Change) (d : Desk) → AreOfHolds cs → (take_back cs d).copy ≡ d.copy
holds_only [] d h = refl
holds_only (c ∷ cs) d h = by_cell c.cell c.old h.0 ∙ holds_only cs d h.1
  where
    by_cell : (x : Cell) (v : Value) → IsOfHold x → (put (take_back cs d) x v).copy ≡ (take_back cs d).copy
    by_cell (CopyCell n) v of = absurd of
    by_cell (HoldCell t p) (HoldHas o) of = refl
    by_cell (HoldCell t p) (CopyHas s) of = refl

places_back : (k : Facts) (d : Desk) (cs : List Change) → OneCopy cs → PlacesFit k d.copy
    → PlacesFit k (take_back cs d).copy → EachBack (λ x. PlacesFit k x.copy) cs d
places_back k d [] one fit last = tt
places_back k d (c ∷ cs) one fit last =
    by_cell c.cell c.old one last (λ later before. places_back k d cs later fit before)
  where
    by_cell : (x : Cell) (v : Value) → OneCopyFirst x cs (OneCopy cs)
        → PlacesFit k (put (take_back cs d) x v).copy
        → (OneCopy cs → PlacesFit k (take_back cs d).copy → EachBack (λ y. PlacesFit k y.copy) cs d)
        → EachBack (λ y. PlacesFit k y.copy) cs d × PlacesFit k (put (take_back cs d) x v).copy
    by_cell (CopyCell n) v holds last more =
        (more (one_of_holds cs holds) (subst (PlacesFit k) (sym (holds_only cs d holds)) fit), last)
    by_cell (HoldCell t p) (HoldHas o) later last more = (more later last, last)
    by_cell (HoldCell t p) (CopyHas s) later last more = (more later last, last)

both_back : (k : Facts) (n : ℕ) (d : Desk) (cs : List Change) → EachBack (λ x. HoldsFit n x.hold) cs d
    → EachBack (λ x. PlacesFit k x.copy) cs d → EachBackIsFit k cs d
both_back k n d [] holds places = tt
both_back k n d (c ∷ cs) holds places =
    (both_back k n d cs holds.0 places.0, fit_of k n (take_back (c ∷ cs) d) holds.1 places.1)

single_back : (k : Facts) (d : Desk) (cs : List Change) → IsSingle cs → IsFit k (take_back cs d)
    → EachBackIsFit k cs d
single_back k d [] single fit = tt
single_back k d (c ∷ []) single fit = (tt, fit)
single_back k d (c ∷ b ∷ cs) single fit = absurd single

pub each_back : (k : Facts) (m n : ℕ) (d e : Desk) (cs : List Change) → DifferBy cs d e → AreChanges cs
    → AreGentle cs → Sound k m d → Sound k n e → EachBackIsFit k cs d
each_back k m n d e cs differ are (inl single) sound last =
    single_back k d cs single
    (subst (IsFit k) (sym (undone_is d e cs differ)) (fit_of k n e last.holds last.places))
each_back k m n d e cs differ are (inr gentle) sound last =
    both_back k n d cs
    (holds_back n d e cs differ.each are gentle.0
    (subst (λ (x : Desk). HoldsFit n x.hold) (sym (undone_is d e cs differ)) last.holds))
    (places_back k d cs gentle.1 sound.places
    (subst (λ (x : Desk). PlacesFit k x.copy) (sym (undone_is d e cs differ)) last.places))
