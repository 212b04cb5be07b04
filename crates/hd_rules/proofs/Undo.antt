-- Taking back a command on which nothing later depends leads to the run without it.
use Rattle.std.proofs.Common.{◌≡◌, refl, sym, ◌∙◌, ap, subst, Bool, true, false, ◌==◌, ◌&&◌, cond, List, []}
use Rattle.std.proofs.Common.{◌∷◌, Option}
use Rattle.std.proofs.lemmas.Bool.{eqb-true}
use Rattle.hd_rules.specs.Words.{Hold, CopyState, Cell, CopyCell, HoldCell, Value, CopyHas, HoldHas, Change}
use Rattle.hd_rules.specs.Facts.{Facts}
use Rattle.hd_rules.specs.Desk.{Desk, value, same_cell, put, after, take_back}
use Rattle.hd_rules.specs.Ask.{Plan, Ask, Refuse, Accept, answer, outcome, asks}
use Rattle.hd_rules.specs.Run.{Elsewhere, Fits}
use Rattle.hd_rules.specs.Depends.{AnsweredAlike}
use Rattle.hd_rules.proofs.Tests.{and_left, and_right, number_self}
use Rattle.hd_rules.specs.Differ.{DifferAt, DifferAtEach, DifferBy}

-- what is answered alike ends alike
pub same_outcome : (k : Facts) (d e : Desk) (plan : Plan) → AnsweredAlike k d e plan
    → outcome k d plan ≡ outcome k e plan
same_outcome k d e (Ask q rest) h =
    same_outcome k d e (rest (answer k d q)) h.1 ∙ ap (λ a. outcome k e (rest a)) h.0
same_outcome k d e (Refuse r) h = refl
same_outcome k d e (Accept done) h = refl

-- and asks the same
pub same_asks : (k : Facts) (d e : Desk) (plan : Plan) → AnsweredAlike k d e plan
    → asks k d plan ≡ asks k e plan
same_asks k d e (Ask q rest) h =
    ap (λ qs. q ∷ qs) (same_asks k d e (rest (answer k d q)) h.1 ∙ ap (λ a. asks k e (rest a)) h.0)
same_asks k d e (Refuse r) h = refl
same_asks k d e (Accept done) h = refl

-- cells that pass the test are one
pub same_cell_is : (x y : Cell) → same_cell x y ≡ true → x ≡ y
same_cell_is (CopyCell c) (CopyCell x) h = let e : c ≡ x = eqb-true _ _ h in ap CopyCell e
same_cell_is (CopyCell c) (HoldCell t p) h = cc
same_cell_is (HoldCell t p) (CopyCell c) h = cc
same_cell_is (HoldCell t p) (HoldCell u q) h =
    let title : t ≡ u = eqb-true _ _ (and_left _ _ h) in
    let patron : p ≡ q = eqb-true _ _ (and_right _ _ h) in
    λ i. HoldCell (title i) (patron i)

pub same_cell_refl : (x : Cell) → same_cell x x ≡ true
same_cell_refl (CopyCell c) = number_self c
same_cell_refl (HoldCell t p) = rw (number_self t) (number_self p)

pub copy_inj : (a b : CopyState) → CopyHas a ≡ CopyHas b → a ≡ b
copy_inj a b h = cc

pub hold_inj : (a b : Option Hold) → HoldHas a ≡ HoldHas b → a ≡ b
hold_inj a b h = cc

pub put_alike : (d e : Desk) (x : Cell) (v : Value) (y : Cell) → value d y ≡ value e y
    → value (put d x v) y ≡ value (put e x v) y
put_alike d e (CopyCell c) (CopyHas s) (CopyCell x) h = ap (λ w. CopyHas (cond (c == x) s w)) (copy_inj _ _ h)
put_alike d e (CopyCell c) (CopyHas s) (HoldCell u q) h = h
put_alike d e (CopyCell c) (HoldHas s) y h = h
put_alike d e (HoldCell t p) (HoldHas s) (HoldCell u q) h =
    ap (λ w. HoldHas (cond ((t == u) && (p == q)) s w)) (hold_inj _ _ h)
put_alike d e (HoldCell t p) (HoldHas s) (CopyCell x) h = h
put_alike d e (HoldCell t p) (CopyHas s) y h = h

pub put_elsewhere : (d : Desk) (x : Cell) (v : Value) (y : Cell) → same_cell x y ≡ false
    → value (put d x v) y ≡ value d y
put_elsewhere d (CopyCell c) (CopyHas s) (CopyCell x) h = ap (λ b. CopyHas (cond b s (d.copy x))) h
put_elsewhere d (CopyCell c) (CopyHas s) (HoldCell u q) h = refl
put_elsewhere d (CopyCell c) (HoldHas s) y h = refl
put_elsewhere d (HoldCell t p) (HoldHas s) (HoldCell u q) h = ap (λ b. HoldHas (cond b s (d.hold u q))) h
put_elsewhere d (HoldCell t p) (HoldHas s) (CopyCell x) h = refl
put_elsewhere d (HoldCell t p) (CopyHas s) y h = refl

pub value_fits : (d : Desk) (x : Cell) → Fits x (value d x)
value_fits d (CopyCell c) = tt
value_fits d (HoldCell t p) = tt

pub put_same : (d : Desk) (x : Cell) (v : Value) (y : Cell) → Fits x v → same_cell x y ≡ true
    → value (put d x v) y ≡ v
put_same d (CopyCell c) (CopyHas s) (CopyCell x) f h = ap (λ b. CopyHas (cond b s (d.copy x))) h
put_same d (CopyCell c) (CopyHas s) (HoldCell u q) f h = cc
put_same d (CopyCell c) (HoldHas s) y f h = absurd f
put_same d (HoldCell t p) (HoldHas s) (HoldCell u q) f h = ap (λ b. HoldHas (cond b s (d.hold u q))) h
put_same d (HoldCell t p) (HoldHas s) (CopyCell x) f h = cc
put_same d (HoldCell t p) (CopyHas s) y f h = absurd f

-- desks with the same values are one
pub same_desk : (d e : Desk) → ((y : Cell) → value d y ≡ value e y) → d ≡ e
same_desk d e h = λ i. record {
  copy = λ c. copy_inj _ _ (h (CopyCell c)) i;
  hold = λ t p. hold_inj _ _ (h (HoldCell t p)) i;
}

pub after_alike : (cs : List Change) (d e : Desk) (y : Cell) → value d y ≡ value e y
    → value (after cs d) y ≡ value (after cs e) y
after_alike [] d e y h = h
after_alike (c ∷ cs) d e y h =
    after_alike cs (put d c.cell c.new) (put e c.cell c.new) y (put_alike d e c.cell c.new y h)

pub after_elsewhere : (cs : List Change) (d : Desk) (y : Cell) → Elsewhere y cs
    → value (after cs d) y ≡ value d y
after_elsewhere [] d y h = refl
after_elsewhere (c ∷ cs) d y h = after_elsewhere cs (put d c.cell c.new) y h.1
    ∙ put_elsewhere d c.cell c.new y h.0

-- each of these changes is of a cell that has one value at both desks
abbrev pub EachSame : Desk → Desk → List Change → Type 0
EachSame d e [] = Unit {0}
EachSame d e (c ∷ cs) = (value d c.cell ≡ value e c.cell) × EachSame d e cs

-- what has one value at both desks isn't among the changes in which they differ
not_kept : (d e : Desk) (c g : Change) → DifferAt d e c → value d g.cell ≡ value e g.cell → (b : Bool)
    → same_cell g.cell c.cell ≡ b → b ≡ false
not_kept d e c g kept same false h = refl
not_kept d e c g kept same true h =
    let is : g.cell ≡ c.cell = same_cell_is _ _ h in
    absurd (kept.differ (sym kept.old ∙ ap (value e) (sym is) ∙ sym same ∙ ap (value d) is ∙ kept.new))

elsewhere_kept : (d e : Desk) (c : Change) (gs : List Change) → DifferAt d e c → EachSame d e gs
    → Elsewhere c.cell gs
elsewhere_kept d e c [] kept same = tt
elsewhere_kept d e c (g ∷ gs) kept same =
    (not_kept d e c g kept same.0 _ refl, elsewhere_kept d e c gs kept same.1)

each_kept : (d e : Desk) (cs gs : List Change) → DifferAtEach d e cs → EachSame d e gs
    → DifferAtEach (after gs d) (after gs e) cs
each_kept d e [] gs kept same = tt
each_kept d e (c ∷ cs) gs kept same =
    let apart : Elsewhere c.cell gs = elsewhere_kept d e c gs kept.0 same in (
      record {
        new = after_elsewhere gs d c.cell apart ∙ kept.0.new;
        old = after_elsewhere gs e c.cell apart ∙ kept.0.old;
        differ = kept.0.differ;
      },
      each_kept d e cs gs kept.1 same,
    )

-- desks that differ by some changes go on to do so
pub differ_after : (d e : Desk) (cs gs : List Change) → DifferBy cs d e → EachSame d e gs
    → DifferBy cs (after gs d) (after gs e)
differ_after d e cs gs h same = record {
  elsewhere = λ y apart. after_alike gs d e y (h.elsewhere y apart);
  each = each_kept d e cs gs h.each same;
}

-- the value of a cell after the changes are taken back
undone_at_first : (d e : Desk) (c : Change) (cs : List Change) (y : Cell) → DifferAt d e c
    → (same_cell c.cell y ≡ false → value (take_back cs d) y ≡ value e y) → (b : Bool)
    → same_cell c.cell y ≡ b → value (put (take_back cs d) c.cell c.old) y ≡ value e y
undone_at_first d e c cs y kept rest true is =
    put_same (take_back cs d) c.cell c.old y (subst (Fits c.cell) kept.old (value_fits e c.cell)) is
    ∙ sym kept.old ∙ ap (value e) (same_cell_is _ _ is)
undone_at_first d e c cs y kept rest false is = put_elsewhere (take_back cs d) c.cell c.old y is ∙ rest is

undone_at : (d e : Desk) (cs : List Change) (y : Cell) → DifferAtEach d e cs
    → (Elsewhere y cs → value d y ≡ value e y) → value (take_back cs d) y ≡ value e y
undone_at d e [] y kept h = h tt
undone_at d e (c ∷ cs) y kept h =
    undone_at_first d e c cs y kept.0 (λ is. undone_at d e cs y kept.1 (λ apart. h (is, apart)))
    (same_cell c.cell y) refl

-- taking the changes back leads from the one desk to the other
pub undone_is : (d e : Desk) (cs : List Change) → DifferBy cs d e → take_back cs d ≡ e
undone_is d e cs h = same_desk (take_back cs d) e (λ y. undone_at d e cs y h.each (h.elsewhere y))
