-- Rows of an opening, put on a desk one after another.
use Rattle.std.proofs.Common.{◌≡◌, refl, sym, ◌∙◌, ap, subst, ℕ, ◌+◌, ◌<◌, ◌≤◌, Bool, true, false, Option}
use Rattle.std.proofs.Common.{Some, None}
use Rattle.std.proofs.Common.{List, [], ◌∷◌, ◌++◌, length, take, get_or, eq-eqb}
use Rattle.std.specs.Prelude.{MatchOption, is_some}
use Rattle.std.proofs.lemmas.List.{take_more}
use Rattle.hd_rules.specs.declared.rows.OpeningRow.{OpeningRow}
use Rattle.hd_rules.specs.declared.rows.OpeningRow.TheVariants as row
use Rattle.hd_rules.specs.declared.holds.Hold.{Hold}
use Rattle.hd_rules.specs.declared.copies.CopyState.{CopyState}
use Rattle.hd_rules.specs.declared.copies.CopyState.TheVariants.{OnHoldShelf}
use Rattle.hd_rules.specs.declared.cells.Cell.TheVariants.{Copy as CopyCell, Hold as HoldCell}
use Rattle.hd_rules.specs.declared.cells.Value.TheVariants.{Copy as CopyHas, Hold as HoldHas}
use Rattle.hd_rules.specs.Facts.{Facts, first_number}
use Rattle.hd_rules.specs.Desk.{Desk, at_home, put}
use Rattle.hd_rules.specs.Choose.{stands_at}
use Rattle.hd_rules.specs.Known.{IsKnownDesk, IsKnownHold, IsKnownRow, IsKnownState}
use Rattle.hd_rules.specs.Laws.{RowsTellASoundDesk}
use Rattle.hd_rules.specs.Rows.{EachMayStand, IsInBounds, MayKeep, MayStand, given, kept_at, sent_from}
use Rattle.hd_rules.specs.Rows.{with_row, with_rows}
use Rattle.hd_rules.specs.Settle.{with_copy}
use Rattle.hd_rules.specs.Sound.{Sound}
use Rattle.hd_catalogue.specs.Contents.{Contents, facts_of}
use Rattle.hd_copies.specs.CopiesValue.{CopiesValue}
use Rattle.hd_copies.specs.Standing.{IsFree, StandsAt, standing}
use Rattle.hd_inverse.specs.Cells.{IsFromOne}
use Rattle.hd_desk.specs.Rows.{AreTold, CanBeGiven, IsPair}
use Rattle.hd_desk.specs.DeskValue.{DeskValue}
use Rattle.hd_desk.specs.Desks.{Opens, contents, desk_of, facts}
use Rattle.hd_lemmas.proofs.Rules.{later_sound, sound_is_fit}

-- why a row may not stand

-- and why it may

pub may-keep : (k : Facts) (d : Desk) (c p place : ℕ) (h : Hold) → 1 ≤ place → IsPair k d c p h
    → IsFree k d.copy h.pickup place →
    MayKeep k d c p place
may-keep k d c p place h from pair free = record {
  home = pair.home;
  waits = record { hold = h; is = pair.is; none = pair.waits };
  from_one = from;
  free = λ x s in_x is branch spot.
      let there : stands_at h.pickup place (OnHoldShelf s)
      ≡ true = (let b = eq-eqb s.branch h.pickup branch in
      let q = eq-eqb s.place place spot in rw (b, q) refl) in
      let none : stands_at h.pickup place (OnHoldShelf s) ≡ false = ap (stands_at h.pickup place) (sym is)
      ∙ free x in_x in
      let no : true ≡ false = sym there ∙ none in absurd (let never : ⊥ = cc in never);
}

-- a copy that goes where it is for a hold, which gets it
pub can-give : (k : Facts) (n : ℕ) (d : Desk) (c p : ℕ) (state : CopyState) (h : Hold) → c < k.copies
    → k.title_of c < k.titles →
    p < k.patrons → IsKnownState k state → IsFromOne (CopyHas state) → IsKnownHold k h → Sound k n d →
    Sound k n (put (put d (CopyCell c) (CopyHas state)) (HoldCell (k.title_of c) p)
    (HoldHas (Some (with_copy (Some c) h)))) →
    CanBeGiven k d c p state h
can-give k n d c p state h in_c in_t in_p known from hold sound both = record {
  copy = record { cell = in_c; kind = tt; known = known; from_one = from };
  hold = record {
    cell = (in_t, in_p);
    kind = tt;
    known = record { patron = hold.patron; kind = hold.kind; pickup = hold.pickup; copy = in_c };
    from_one = tt;
  };
  first = record { named = sound.holds.named; stamps = sound.holds.apart; places = both.places };
  both = sound_is_fit k n _ both;
}

-- no copy stands at a place where none is found
pub free-there : (d : DeskValue) (copies : CopiesValue) (b q : ℕ) (o : Option ℕ) (t : Bool) → copies
    ≡ d.copies →
    MatchOption o (IsFree (facts_of copies.contents) (standing copies) b q)
    (StandsAt (facts_of copies.contents) (standing copies) b q) →
    t ≡ is_some o → t ≡ false → IsFree (facts d) (desk_of d).copy b q
unfolding desk_of
free-there d copies b q None t same at some off =
    subst (λ (x : CopiesValue). IsFree (facts_of x.contents) (standing x) b q) same at
free-there d copies b q (Some x) t same at some off =
    absurd (let no : true ≡ false = sym some ∙ off in let never : ⊥ = cc in never)

-- the desk of a row that is for this hold
pub given-is : (k : Facts) (d : Desk) (c p : ℕ) (goes : Hold → CopyState) (h : Hold) → d.hold (k.title_of c) p
    ≡ Some h →
    given k.title_of d c p goes (d.hold (k.title_of c) p)
    ≡ put (put d (CopyCell c) (CopyHas (goes h))) (HoldCell (k.title_of c) p)
    (HoldHas (Some (with_copy (Some c) h)))
given-is k d c p goes h is = ap (given k.title_of d c p goes) is

-- so a row that may stand can be put
pub give-shelf : RowsTellASoundDesk
    → (k : Facts) (n : ℕ) (d : Desk) (r : OpeningRow) (c p place : ℕ) (h : Hold) →
    r ≡ row.HoldShelf c p place → IsKnownRow k r → IsInBounds n r → Sound k n d → MayStand k d n r →
    d.hold (k.title_of c) p ≡ Some h → IsKnownHold k h → k.title_of c < k.titles
    → CanBeGiven k d c p (kept_at p place h) h
give-shelf law k n d r c p place h at known bounds sound stands is hold in_t =
    let here : IsKnownRow k (row.HoldShelf c p place) = subst (IsKnownRow k) at known in
    let from : 1 ≤ place = subst (IsInBounds n) at bounds in
    let may : MayKeep k d c p place = subst (MayStand k d n) at stands in
    can-give k n d c p (kept_at p place h) h here.0 in_t here.1 (hold.pickup, here.1) from hold sound
    (subst (Sound k n) (given-is k d c p (kept_at p place) h is)
    (law.each k n d (row.HoldShelf c p place) sound may))

pub give-transit : RowsTellASoundDesk
    → (k : Facts) (n : ℕ) (d : Desk) (r : OpeningRow) (c p from : ℕ) (h : Hold) →
    r ≡ row.HoldTransit c p from → IsKnownRow k r → Sound k n d → MayStand k d n r →
    d.hold (k.title_of c) p ≡ Some h → IsKnownHold k h → k.title_of c < k.titles
    → CanBeGiven k d c p (sent_from p from h) h
give-transit law k n d r c p from h at known sound stands is hold in_t =
    let here : IsKnownRow k (row.HoldTransit c p from) = subst (IsKnownRow k) at known in
    let may : MayStand k d n (row.HoldTransit c p from) = subst (MayStand k d n) at stands in
    can-give k n d c p (sent_from p from h) h here.0 in_t here.1 (here.2, hold.pickup, here.1) tt hold sound
    (subst (Sound k n) (given-is k d c p (sent_from p from) h is)
    (law.each k n d (row.HoldTransit c p from) sound may))

-- row after row

with-more : (titles : ℕ → ℕ) (d : Desk) (rows : List OpeningRow) (r : OpeningRow) →
    with_rows titles d (rows ++ r ∷ []) ≡ with_row titles (with_rows titles d rows) r
with-more titles d [] r = refl
with-more titles d (x ∷ rows) r = with-more titles (with_row titles d x) rows r

each-more : (k : Facts) (n : ℕ) (d : Desk) (rows : List OpeningRow) (r : OpeningRow)
    → EachMayStand k n d rows →
    MayStand k (with_rows k.title_of d rows) n r → EachMayStand k n d (rows ++ r ∷ [])
each-more k n d [] r each may = (may, tt)
each-more k n d (x ∷ rows) r each may = (each.0, each-more k n (with_row k.title_of d x) rows r each.1 may)

-- How far the rows were put.
pub record Putting (d : DeskValue) (rows : List OpeningRow) (i : ℕ) (now : DeskValue) : Type 0 where
  pub told : AreTold (facts d) (desk_of d) (take i rows) (desk_of now)
  pub same : contents now ≡ contents d

pub told-more : RowsTellASoundDesk
    → (k : Facts) (d : Desk) (rows : List OpeningRow) (i : ℕ) (e new : Desk) (r : OpeningRow) →
    AreTold k d (take i rows) e → i < length rows → r ≡ get_or rows i r → MayStand k e (first_number k) r →
    new ≡ with_row k.title_of e r → AreTold k d (take (i + 1) rows) new
told-more law k d rows i e new r told below is may put_is =
    let more : take (i + 1) rows ≡ take i rows ++ r ∷ [] =
    take_more rows i r below ∙ ap (λ (x : OpeningRow). take i rows ++ x ∷ []) (sym is) in
    subst (λ (xs : List OpeningRow). AreTold k d xs new) (sym more) (record {
      each = each-more k (first_number k) d (take i rows) r told.each
          (subst (λ (x : Desk). MayStand k x (first_number k) r) told.desk may);
      desk = put_is ∙ ap (λ (x : Desk). with_row k.title_of x r) told.desk
          ∙ sym (with-more k.title_of d (take i rows) r);
      sound = subst (Sound k (first_number k)) (sym put_is) (law.each k (first_number k) e r told.sound may);
    })

pub putting-more : RowsTellASoundDesk
    → (d : DeskValue) (rows : List OpeningRow) (i : ℕ) (now next : DeskValue) (r : OpeningRow) →
    Putting d rows i now → i < length rows → r ≡ get_or rows i r
    → MayStand (facts now) (desk_of now) (first_number (facts now)) r →
    contents next ≡ contents now → desk_of next ≡ with_row (facts now).title_of (desk_of now) r
    → Putting d rows (i + 1) next
putting-more law d rows i now next r putting below is may same desk =
    let k : facts now ≡ facts d = ap facts_of putting.same in
    record {
      told = told-more law (facts d) (desk_of d) rows i (desk_of now) (desk_of next) r putting.told below is
          (subst (λ (x : Facts). MayStand x (desk_of now) (first_number x) r) k may)
          (desk ∙ ap (λ (x : Facts). with_row x.title_of (desk_of now) r) k);
      same = same ∙ putting.same;
    }

-- a catalogue's desk, as it is opened

pub told-home : (x y : Contents) (d e : Desk) (rows : List OpeningRow) → y ≡ x → d
    ≡ at_home (facts_of x).home →
    AreTold (facts_of y) d rows e → AreTold (facts_of x) (at_home (facts_of x).home) rows e
told-home x y d e rows same home told =
    subst (λ (z : Desk). AreTold (facts_of x) z rows e) home
    (subst (λ (z : Contents). AreTold (facts_of z) d rows e) same told)

pub opens-told : (k : Facts) (rows : List OpeningRow) (e : Desk) → AreTold k (at_home k.home) rows e →
    k.opening.desk ≡ with_rows k.title_of (at_home k.home) rows
    → IsKnownDesk k (with_rows k.title_of (at_home k.home) rows) → Opens k
opens-told k rows e told is known = record {
  sound = subst (Sound k (first_number k)) (told.desk ∙ sym is) told.sound;
  known = subst (IsKnownDesk k) (sym is) known;
}

pub sound-told : (k : Facts) (d e : Desk) (rows : List OpeningRow) (n : ℕ) → AreTold k d rows e
    → first_number k ≤ n → Sound k n e
sound-told k d e rows n told above = later_sound k (first_number k) n e above told.sound
