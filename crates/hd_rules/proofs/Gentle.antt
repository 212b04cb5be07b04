-- Changes that can be taken back one by one through fit desks.
use Rattle.std.proofs.Common.{◌≡◌, refl, sym, subst, ◌⊎◌, inl, inr, Bool, true, false, List, [], ◌∷◌, Some}
use Rattle.std.specs.Prelude.{filter}
use Rattle.hd_rules.specs.Words.{Hold, Cell, CopyCell, HoldCell, Value, CopyHas, HoldHas, Change}
use Rattle.hd_rules.proofs.Fits.{Follows}

-- a hold ends, or goes on with its stamp
abbrev pub IsMild : Value → Value → Type 0
IsMild (CopyHas s) (CopyHas r) = Unit {0}
IsMild (HoldHas o) (HoldHas v) = (h : Hold) → v ≡ Some h → Follows o h
IsMild (CopyHas s) (HoldHas v) = ⊥
IsMild (HoldHas o) (CopyHas r) = ⊥

abbrev pub AreMild : List Change → Type 0
AreMild [] = Unit {0}
AreMild (c ∷ cs) = IsMild c.old c.new × AreMild cs

abbrev pub IsOfHold : Cell → Type 0
IsOfHold (CopyCell c) = ⊥
IsOfHold (HoldCell t p) = Unit {0}

abbrev pub AreOfHolds : List Change → Type 0
AreOfHolds [] = Unit {0}
AreOfHolds (c ∷ cs) = IsOfHold c.cell × AreOfHolds cs

-- at most one of them is of a copy
abbrev pub OneCopyFirst : Cell → List Change → Type 0 → Type 0
OneCopyFirst (CopyCell c) cs later = AreOfHolds cs
OneCopyFirst (HoldCell t p) cs later = later

abbrev pub OneCopy : List Change → Type 0
OneCopy [] = Unit {0}
OneCopy (c ∷ cs) = OneCopyFirst c.cell cs (OneCopy cs)

-- there is but one
abbrev pub IsSingle : List Change → Type 0
IsSingle [] = Unit {0}
IsSingle (c ∷ []) = Unit {0}
IsSingle (c ∷ b ∷ cs) = ⊥

abbrev pub AreGentle : List Change → Type 0
AreGentle cs = IsSingle cs ⊎ (AreMild cs × OneCopy cs)

-- leaving some out keeps them gentle
kept_or_not : (P : List Change → Type 0) (keep_it : Change → Bool) (c : Change) (cs : List Change)
    → P (c ∷ filter keep_it cs) → P (filter keep_it cs) → P (filter keep_it (c ∷ cs))
kept_or_not P keep_it c cs with_it without_it = by_test (keep_it c) refl
  where
    by_test : (b : Bool) → keep_it c ≡ b → P (filter keep_it (c ∷ cs))
    by_test true is = rw is with_it
    by_test false is = rw is without_it

mild_filter : (keep_it : Change → Bool) (cs : List Change) → AreMild cs → AreMild (filter keep_it cs)
mild_filter keep_it [] h = tt
mild_filter keep_it (c ∷ cs) h =
    kept_or_not AreMild keep_it c cs (h.0, mild_filter keep_it cs h.1) (mild_filter keep_it cs h.1)

holds_filter : (keep_it : Change → Bool) (cs : List Change) → AreOfHolds cs → AreOfHolds (filter keep_it cs)
holds_filter keep_it [] h = tt
holds_filter keep_it (c ∷ cs) h =
    kept_or_not AreOfHolds keep_it c cs (h.0, holds_filter keep_it cs h.1) (holds_filter keep_it cs h.1)

pub one_of_holds : (cs : List Change) → AreOfHolds cs → OneCopy cs
one_of_holds [] h = tt
one_of_holds (c ∷ cs) h = by_cell c.cell h.0 h.1 (one_of_holds cs h.1)
  where
    by_cell : (x : Cell) → IsOfHold x → AreOfHolds cs → OneCopy cs → OneCopyFirst x cs (OneCopy cs)
    by_cell (CopyCell n) of holds later = absurd of
    by_cell (HoldCell t p) of holds later = later

copy_filter : (keep_it : Change → Bool) (cs : List Change) → OneCopy cs → OneCopy (filter keep_it cs)
copy_filter keep_it [] h = tt
copy_filter keep_it (c ∷ cs) h = by_cell c.cell refl h (copy_filter keep_it cs)
  where
    by_cell : (x : Cell) → c.cell ≡ x → OneCopyFirst x cs (OneCopy cs)
        → (OneCopy cs → OneCopy (filter keep_it cs)) → OneCopy (filter keep_it (c ∷ cs))
    by_cell (CopyCell n) is holds more =
        let of : AreOfHolds (filter keep_it cs) = holds_filter keep_it cs holds in
        kept_or_not OneCopy keep_it c cs
        (subst (λ (y : Cell). OneCopyFirst y (filter keep_it cs) (OneCopy (filter keep_it cs))) (sym is) of)
        (one_of_holds (filter keep_it cs) of)
    by_cell (HoldCell t p) is later more =
        kept_or_not OneCopy keep_it c cs
        (subst (λ (y : Cell). OneCopyFirst y (filter keep_it cs) (OneCopy (filter keep_it cs))) (sym is)
        (more later))
        (more later)

single_filter : (keep_it : Change → Bool) (cs : List Change) → IsSingle cs → IsSingle (filter keep_it cs)
single_filter keep_it [] h = tt
single_filter keep_it (c ∷ []) h = kept_or_not IsSingle keep_it c [] tt tt
single_filter keep_it (c ∷ b ∷ cs) h = absurd h

pub gentle_filter : (keep_it : Change → Bool) (cs : List Change) → AreGentle cs
    → AreGentle (filter keep_it cs)
gentle_filter keep_it cs (inl single) = inl (single_filter keep_it cs single)
gentle_filter keep_it cs (inr both) = inr (mild_filter keep_it cs both.0, copy_filter keep_it cs both.1)
