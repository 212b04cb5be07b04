-- Making changes one after another.
use Rattle.std.proofs.Common.{arith, ◌≡◌, refl, sym, ◌∙◌, ap, subst, ℕ, zero, suc, ◌+◌, ◌<◌, ◌≤◌, Bool, true}
use Rattle.std.proofs.Common.{false, cond, not, List, []}
use Rattle.std.proofs.Common.{◌∷◌, ◌++◌, length, drop, take, get_or, Result, Ok, Err}
use Rattle.std.proofs.lemmas.List.{drop_all, take_more}
use Rattle.hd_rules.specs.declared.copies.CopyState.{CopyState}
use Rattle.hd_rules.specs.declared.holds.Hold.{Hold}
use Rattle.hd_rules.specs.declared.cells.Cell.{Cell}
use Rattle.hd_rules.specs.declared.cells.Cell.TheVariants.{Copy as CopyCell, Hold as HoldCell}
use Rattle.hd_rules.specs.declared.cells.Value.{Value}
use Rattle.hd_rules.specs.declared.cells.Value.TheVariants.{Copy as CopyHas, Hold as HoldHas}
use Rattle.hd_rules.specs.declared.cells.Change.{Change}
use Rattle.std.specs.Prelude.{Option, OnErr}
use Rattle.hd_rules.specs.Facts.{Facts}
use Rattle.hd_rules.specs.Desk.{put, after, same_cell}
use Rattle.hd_rules.specs.Known.{IsKnownCell}
use Rattle.hd_rules.specs.Run.{Elsewhere}
use Rattle.hd_rules.specs.Same.{real_changes, same_value}
use Rattle.hd_rules.specs.Sound.{IsFit, EachOnIsFit}
use Rattle.hd_catalogue.specs.Contents.{Contents, facts_of}
use Rattle.hd_copies.specs.Standing.{standing, IsWelcome}
use Rattle.hd_holds.specs.Held.{patron_hold, IsWelcome as IsWelcomeHold}
use Rattle.hd_meter.specs.Meter.{Counts, with_one_more}
use Rattle.hd_meter.specs.declared.count.Count.TheVariants.{Written}
use Rattle.hd_desk.specs.DeskValue.{DeskValue}
use Rattle.hd_desk.specs.Desks.{contents, desk_of, facts}
use Rattle.hd_inverse.specs.Cells.{AreApart, AreKnownChanges, HaveRoom, MayHave}
use Rattle.hd_inverse.specs.Work.{after_writes}
use Rattle.hd_desk.specs.Cells.{HasRoomFor}
use Rattle.hd_desk.specs.Rooms.{fewer}
use Rattle.hd_desk.proofs.Writing.{copy-welcome, hold-welcome, drop_at}
use Rattle.hd_lemmas.proofs.Rules.{apart_sym}

-- what a desk's cells ask of a write
pub put-copy : (d : DeskValue) (cell : Cell) (v : Value) (c : ℕ) (s : CopyState) → cell ≡ CopyCell c → v
    ≡ CopyHas s →
    IsKnownCell (facts d) cell → IsFit (facts d) (put (desk_of d) cell v)
    → IsWelcome (facts d) (standing d.copies) c s
unfolding desk_of
put-copy d cell v c s is_cell is_value known fit =
    copy-welcome (facts d) (desk_of d) c s (subst (IsKnownCell (facts d)) is_cell known)
    (subst (λ (w : Value). IsFit (facts d) (put (desk_of d) (CopyCell c) w)) is_value
    (subst (λ (x : Cell). IsFit (facts d) (put (desk_of d) x v)) is_cell fit))

pub put-hold : (d : DeskValue) (cell : Cell) (v : Value) (t p : ℕ) (o : Option Hold) → cell ≡ HoldCell t p → v
    ≡ HoldHas o →
    IsFit (facts d) (put (desk_of d) cell v) → IsWelcomeHold (patron_hold d.holds) t p o
unfolding desk_of
put-hold d cell v t p o is_cell is_value fit =
    hold-welcome (facts d) (desk_of d) t p o
    (subst (λ (w : Value). IsFit (facts d) (put (desk_of d) (HoldCell t p) w)) is_value
    (subst (λ (x : Cell). IsFit (facts d) (put (desk_of d) x v)) is_cell fit))

-- room for more is room for fewer, and what is left of it after a write of another cell
room-left : (d e : DeskValue) (n : ℕ) (y : Cell) (cs : List Change) →
    ((x : Cell) (v : Value) (n : ℕ) → same_cell y x ≡ false → HasRoomFor d x v (n + 1) → HasRoomFor e x v n)
    → Elsewhere y cs →
    HaveRoom (HasRoomFor d) (n + 1) cs → HaveRoom (HasRoomFor e) n cs
room-left d e n y [] goes there room = tt
room-left d e n y (c ∷ cs) goes there room = (
  goes c.cell c.old n (apart_sym c.cell y there.0) room.0,
  goes c.cell c.new n (apart_sym c.cell y there.0) room.1,
  room-left d e n y cs goes there.1 room.2,
)

room-on : (d e : DeskValue) (n : ℕ) (cs : List Change)
    → ((x : Cell) (v : Value) (n : ℕ) → HasRoomFor d x v n → HasRoomFor e x v n) →
    HaveRoom (HasRoomFor d) n cs → HaveRoom (HasRoomFor e) n cs
room-on d e n [] goes room = tt
room-on d e n (c ∷ cs) goes room =
    (goes c.cell c.old n room.0, goes c.cell c.new n room.1, room-on d e n cs goes room.2)

room-more : (d : DeskValue) (n : ℕ) (cs : List Change) (c : Change) → HaveRoom (HasRoomFor d) n cs
    → HasRoomFor d c.cell c.old n →
    HasRoomFor d c.cell c.new n → HaveRoom (HasRoomFor d) n (cs ++ c ∷ [])
room-more d n [] c room old new = (old, new, tt)
room-more d n (x ∷ xs) c room old new = (room.0, room.1, room-more d n xs c room.2 old new)

room-from : (d : DeskValue) (n : ℕ) (cs : List Change) (i : ℕ) → HaveRoom (HasRoomFor d) n cs
    → HaveRoom (HasRoomFor d) n (drop i cs)
room-from d n cs zero room = room
room-from d n [] (suc i) room = tt
room-from d n (c ∷ cs) (suc i) room = room-from d n cs i room.2

-- How far the changes were made: what is still to come, and that it can be made.
pub record Making (d : DeskValue) (m : Counts) (cs : List Change) (i : ℕ) (now : DeskValue)
    (meter : Counts) : Type 0 where
  pub rest : after (drop i cs) (desk_of now) ≡ after cs (desk_of d)
  pub same : contents now ≡ contents d
  pub known : AreKnownChanges (facts d) (drop i cs)
  pub apart : AreApart (drop i cs)
  pub room : HaveRoom (HasRoomFor now) (length (drop i cs)) (drop i cs)
  pub fit : EachOnIsFit (facts d) (drop i cs) (desk_of now)
  pub counted : after_writes (length (drop i cs)) meter ≡ after_writes (length cs) m

pub making-start : (d : DeskValue) (m : Counts) (cs : List Change) → AreKnownChanges (facts d) cs
    → AreApart cs →
    HaveRoom (HasRoomFor d) (length cs) cs → EachOnIsFit (facts d) cs (desk_of d) → Making d m cs 0 d m
making-start d m cs known apart room fit =
    record { rest = refl; same = refl; known = known; apart = apart; room = room; fit = fit; counted = refl }

-- the next change can be made
pub record Next (now : DeskValue) (c : Change) : Type 0 where
  pub known : MayHave (facts now) c.cell c.new
  pub room : HasRoomFor now c.cell c.new 1
  pub fit : IsFit (facts now) (put (desk_of now) c.cell c.new)

pub making-next : (d : DeskValue) (m : Counts) (cs : List Change) (i : ℕ) (now : DeskValue) (meter : Counts)
    (c : Change) →
    Making d m cs i now meter → i < length cs → c ≡ get_or cs i c → Next now c
making-next d m cs i now meter c making below is =
    let at : drop i cs ≡ c ∷ drop (i + 1) cs = drop_at cs i c below is in
    let known : AreKnownChanges (facts d) (c ∷ drop (i + 1) cs) =
    subst (AreKnownChanges (facts d)) at making.known in
    let room : HaveRoom (HasRoomFor now) (length (c ∷ drop (i + 1) cs)) (c ∷ drop (i + 1) cs) =
    subst (λ (xs : List Change). HaveRoom (HasRoomFor now) (length xs) xs) at making.room in
    let fit : EachOnIsFit (facts d) (c ∷ drop (i + 1) cs) (desk_of now) =
    subst (λ (xs : List Change). EachOnIsFit (facts d) xs (desk_of now)) at making.fit in
    let k : facts d ≡ facts now = ap facts_of (sym making.same) in
    record {
      known = subst (λ (x : Facts). MayHave x c.cell c.new) k known.1;
      room = fewer now c.cell c.new 1 (length (c ∷ drop (i + 1) cs)) (omega arith) room.1;
      fit = subst (λ (x : Facts). IsFit x (put (desk_of now) c.cell c.new)) k fit.0;
    }

pub making-on : (d : DeskValue) (m : Counts) (cs : List Change) (i : ℕ) (now : DeskValue) (meter : Counts)
    (c : Change) (next : DeskValue)
    (raised : Counts) → Making d m cs i now meter → i < length cs → c ≡ get_or cs i c → desk_of next
    ≡ put (desk_of now) c.cell c.new →
    contents next ≡ contents now →
    ((x : Cell) (v : Value) (n : ℕ) → same_cell c.cell x ≡ false → HasRoomFor now x v (n + 1)
    → HasRoomFor next x v n) →
    raised ≡ with_one_more meter Written → Making d m cs (i + 1) next raised
making-on d m cs i now meter c next raised making below is desk same room_on counts =
    let rest : List Change = drop (i + 1) cs in
    let at : drop i cs ≡ c ∷ rest = drop_at cs i c below is in
    let known : AreKnownChanges (facts d) (c ∷ rest) = subst (AreKnownChanges (facts d)) at making.known in
    let apart : AreApart (c ∷ rest) = subst AreApart at making.apart in
    let room : HaveRoom (HasRoomFor now) (length (c ∷ rest)) (c ∷ rest) =
    subst (λ (xs : List Change). HaveRoom (HasRoomFor now) (length xs) xs) at making.room in
    let fit : EachOnIsFit (facts d) (c ∷ rest) (desk_of now) =
    subst (λ (xs : List Change). EachOnIsFit (facts d) xs (desk_of now)) at making.fit in
    let more : length (c ∷ rest) ≡ length rest + 1 = omega arith in
    record {
      rest = ap (after rest) desk ∙ ap (λ (xs : List Change). after xs (desk_of now)) (sym at) ∙ making.rest;
      same = same ∙ making.same;
      known = known.2;
      apart = apart.1;
      room = room-left now next (length rest) c.cell rest room_on apart.0
          (subst (λ (n : ℕ). HaveRoom (HasRoomFor now) n rest) more room.2);
      fit = subst (EachOnIsFit (facts d) rest) (sym desk) fit.1;
      counted = ap (after_writes (length rest)) counts
          ∙ ap (λ (xs : List Change). after_writes (length xs) meter) (sym at) ∙ making.counted;
    }

pub record Made (d : DeskValue) (m : Counts) (cs : List Change) (now : DeskValue) (meter : Counts) : Type 0
  where
    pub desk : desk_of now ≡ after cs (desk_of d)
    pub same : contents now ≡ contents d
    pub counted : meter ≡ after_writes (length cs) m

pub making-end : (d : DeskValue) (m : Counts) (cs : List Change) (i : ℕ) (now : DeskValue) (meter : Counts)
    → Making d m cs i now meter →
    length cs ≤ i → Made d m cs now meter
making-end d m cs i now meter making past =
    let none : drop i cs ≡ [] = drop_all i cs past in
    record {
      desk = ap (λ (xs : List Change). after xs (desk_of now)) (sym none) ∙ making.rest;
      same = making.same;
      counted = ap (λ (xs : List Change). after_writes (length xs) meter) (sym none) ∙ making.counted;
    }

-- How far room was made.
pub record Readying (d : DeskValue) (cs : List Change) (i : ℕ) (now : DeskValue) : Type 0 where
  pub desk : desk_of now ≡ desk_of d
  pub same : contents now ≡ contents d
  pub known : AreKnownChanges (facts now) (drop i cs)
  pub room : HaveRoom (HasRoomFor now) (length cs) (take i cs)
  pub kept : (x : Cell) (v : Value) (n : ℕ) → HasRoomFor d x v n → HasRoomFor now x v n

pub readying-start : (d : DeskValue) (cs : List Change) → AreKnownChanges (facts d) cs → Readying d cs 0 d
readying-start d cs known =
    record { desk = refl; same = refl; known = known; room = tt; kept = λ x v n room. room }

pub record NextRoom (now : DeskValue) (c : Change) : Type 0 where
  pub old : MayHave (facts now) c.cell c.old
  pub new : MayHave (facts now) c.cell c.new

pub readying-next : (d : DeskValue) (cs : List Change) (i : ℕ) (now : DeskValue) (c : Change)
    → Readying d cs i now → i < length cs →
    c ≡ get_or cs i c → NextRoom now c
readying-next d cs i now c readying below is =
    let known : AreKnownChanges (facts now) (c ∷ drop (i + 1) cs) =
    subst (AreKnownChanges (facts now)) (drop_at cs i c below is) readying.known in
    record { old = known.0; new = known.1 }

-- a call that makes room
pub record Roomier (now next : DeskValue) : Type 0 where
  pub desk : desk_of next ≡ desk_of now
  pub same : contents next ≡ contents now
  pub kept : (x : Cell) (v : Value) (n : ℕ) → HasRoomFor now x v n → HasRoomFor next x v n

pub still-known : (now next : DeskValue) (x : Cell) (v : Value) → Roomier now next → MayHave (facts now) x v
    → MayHave (facts next) x v
still-known now next x v roomier known =
    subst (λ (k : Contents). MayHave (facts_of k) x v) (sym roomier.same) known

pub readying-on : (d : DeskValue) (cs : List Change) (i : ℕ) (now : DeskValue) (c : Change)
    (half next : DeskValue) → Readying d cs i now →
    i < length cs → c ≡ get_or cs i c → Roomier now half → Roomier half next
    → HasRoomFor half c.cell c.old (length cs) →
    HasRoomFor next c.cell c.new (length cs) → Readying d cs (i + 1) next
readying-on d cs i now c half next readying below is one two old new =
    let known : AreKnownChanges (facts now) (c ∷ drop (i + 1) cs) =
    subst (AreKnownChanges (facts now)) (drop_at cs i c below is) readying.known in
    let more : take (i + 1) cs ≡ take i cs ++ c ∷ [] = take_more cs i c below
    ∙ ap (λ (x : Change). take i cs ++ x ∷ []) (sym is) in
    record {
      desk = two.desk ∙ one.desk ∙ readying.desk;
      same = two.same ∙ one.same ∙ readying.same;
      known = subst (λ (x : Contents). AreKnownChanges (facts_of x) (drop (i + 1) cs))
          (sym (two.same ∙ one.same)) known.2;
      room = subst (HaveRoom (HasRoomFor next) (length cs)) (sym more)
          (room-more next (length cs) (take i cs) c
          (room-on now next (length cs) (take i cs) (λ x v n room. two.kept x v n (one.kept x v n room))
          readying.room)
          (two.kept c.cell c.old (length cs) old) new);
      kept = λ x v n room. two.kept x v n (one.kept x v n (readying.kept x v n room));
    }

pub on-err : {T E P : Type 0} → (r : Result T E) → P → OnErr r P
on-err (Ok x) p = tt
on-err (Err x) p = p

-- a cell that lacked room
pub lacking : (d : DeskValue) (cs : List Change) (i : ℕ) (now : DeskValue) (c : Change) → Readying d cs i now
    → i < length cs →
    c ≡ get_or cs i c → (HasRoomFor now c.cell c.old (length cs) → HasRoomFor now c.cell c.new (length cs)
    → ⊥) →
    HaveRoom (HasRoomFor d) (length cs) cs → ⊥
lacking d cs i now c readying below is full room =
    let here : HaveRoom (HasRoomFor d) (length cs) (c ∷ drop (i + 1) cs) =
    subst (HaveRoom (HasRoomFor d) (length cs)) (drop_at cs i c below is)
    (room-from d (length cs) cs i room) in
    full (readying.kept c.cell c.old (length cs) here.0) (readying.kept c.cell c.new (length cs) here.1)

-- the real ones among changes, with one more
first-same : (b : Bool) (x : Change) (xs ys : List Change) → xs ≡ ys → cond b (x ∷ xs) xs ≡ cond b (x ∷ ys) ys
first-same true x xs ys is = ap (λ (zs : List Change). x ∷ zs) is
first-same false x xs ys is = is

first-other : (b : Bool) (x : Change) (xs ys : List Change) (c : Change) → xs ≡ ys ++ c ∷ [] →
    cond b (x ∷ xs) xs ≡ cond b (x ∷ ys) ys ++ c ∷ []
first-other true x xs ys c is = ap (λ (zs : List Change). x ∷ zs) is
first-other false x xs ys c is = is

pub real-same : (cs : List Change) (c : Change) → same_value c.old c.new ≡ true → real_changes (cs ++ c ∷ [])
    ≡ real_changes cs
unfolding real_changes
real-same [] c is = rw is refl
real-same (x ∷ xs) c is =
    first-same (not (same_value x.old x.new)) x (real_changes (xs ++ c ∷ [])) (real_changes xs)
    (real-same xs c is)

pub real-other : (cs : List Change) (c : Change) → same_value c.old c.new ≡ false
    → real_changes (cs ++ c ∷ []) ≡ real_changes cs ++ c ∷ []
unfolding real_changes
real-other [] c is = rw is refl
real-other (x ∷ xs) c is =
    first-other (not (same_value x.old x.new)) x (real_changes (xs ++ c ∷ [])) (real_changes xs) c
    (real-other xs c is)

-- How far the real changes were picked out.
pub record Picked (cs : List Change) (i : ℕ) (real : List Change) : Type 0 where
  pub are : real ≡ real_changes (take i cs)
  pub few : length real ≤ i

pub picked-start : (cs real : List Change) → real ≡ [] → Picked cs 0 real
unfolding real_changes
picked-start cs real none = record { are = none; few = rw none (omega arith) }

take_at : (cs : List Change) (i : ℕ) (c : Change) → i < length cs → c ≡ get_or cs i c → take (i + 1) cs
    ≡ take i cs ++ c ∷ []
take_at cs i c below is = take_more cs i c below ∙ ap (λ (x : Change). take i cs ++ x ∷ []) (sym is)

one_longer : (xs : List Change) (x : Change) → length (xs ++ x ∷ []) ≡ length xs + 1
one_longer [] x = refl
one_longer (y ∷ ys) x = omega (arith, one_longer ys x)

pub picked-one : (cs : List Change) (i : ℕ) (real new : List Change) (c : Change) (r : Bool)
    → Picked cs i real → i < length cs →
    c ≡ get_or cs i c → r ≡ not (same_value c.old c.new) → r ≡ true → new ≡ real ++ c ∷ []
    → Picked cs (i + 1) new
picked-one cs i real new c r picked below is test on goes =
    let other : same_value c.old c.new ≡ false = not_true (same_value c.old c.new) (sym on ∙ test) in
    let more : length (real ++ c ∷ []) ≡ length real + 1 = one_longer real c in
    record {
      are = goes ∙ ap (λ (xs : List Change). xs ++ c ∷ []) picked.are ∙ sym (real-other (take i cs) c other)
          ∙ ap real_changes (sym (take_at cs i c below is));
      few = rw goes (omega (arith, more, picked.few));
    }
  where
    not_true : (b : Bool) → true ≡ not b → b ≡ false
    not_true true is = cc
    not_true false is = refl

pub picked-none : (cs : List Change) (i : ℕ) (real new : List Change) (c : Change) (r : Bool)
    → Picked cs i real → i < length cs →
    c ≡ get_or cs i c → r ≡ not (same_value c.old c.new) → r ≡ false → new ≡ real → Picked cs (i + 1) new
picked-none cs i real new c r picked below is test off goes =
    let same : same_value c.old c.new ≡ true = not_false (same_value c.old c.new) (sym off ∙ test) in
    record {
      are = goes ∙ picked.are ∙ sym (real-same (take i cs) c same)
          ∙ ap real_changes (sym (take_at cs i c below is));
      few = rw goes (omega (arith, picked.few));
    }
  where
    not_false : (b : Bool) → false ≡ not b → b ≡ true
    not_false true is = refl
    not_false false is = cc
