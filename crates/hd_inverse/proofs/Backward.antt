-- Taking changes back, the last one first.
use Rattle.std.proofs.Common.{arith, ◌≡◌, refl, sym, ◌∙◌, ap, subst, ℕ, suc, ◌+◌, false, List, [], ◌∷◌, ◌++◌}
use Rattle.std.proofs.Common.{length}
use Rattle.std.proofs.lemmas.List.{length_push}
use Rattle.hd_rules.specs.declared.cells.Cell.{Cell}
use Rattle.hd_rules.specs.declared.cells.Value.{Value}
use Rattle.hd_rules.specs.declared.cells.Change.{Change}
use Rattle.hd_rules.specs.Facts.{Facts}
use Rattle.hd_rules.specs.Desk.{Desk, put, take_back, same_cell}
use Rattle.hd_rules.specs.Run.{Elsewhere}
use Rattle.hd_rules.specs.Sound.{IsFit, EachBackIsFit}
use Rattle.hd_meter.specs.Meter.{Counts, with_one_more}
use Rattle.hd_meter.specs.declared.count.Count.TheVariants.{Written}
use Rattle.hd_catalogue.specs.Contents.{Contents, facts_of}
use Rattle.hd_inverse.specs.Cells.{AreApart, AreKnownChanges, HaveRoom, MayHave}
use Rattle.hd_inverse.specs.Work.{after_writes}

-- the last change is taken back first
undone_last : (xs : List Change) (c : Change) (d : Desk)
    → take_back (xs ++ c ∷ []) d ≡ take_back xs (put d c.cell c.old)
undone_last [] c d = refl
undone_last (x ∷ xs) c d = ap (λ (e : Desk). put e x.cell x.old) (undone_last xs c d)

-- the last change may be taken back, and then the others
known_last : (k : Facts) (xs : List Change) (c : Change) → AreKnownChanges k (xs ++ c ∷ [])
    → AreKnownChanges k xs × MayHave k c.cell c.old
known_last k [] c known = (tt, known.0)
known_last k (x ∷ xs) c known =
    let rest : AreKnownChanges k xs × MayHave k c.cell c.old = known_last k xs c known.2 in
    ((known.0, known.1, rest.0), rest.1)

elsewhere_last : (y : Cell) (xs : List Change) (c : Change) → Elsewhere y (xs ++ c ∷ [])
    → Elsewhere y xs × (same_cell c.cell y ≡ false)
elsewhere_last y [] c there = (tt, there.0)
elsewhere_last y (x ∷ xs) c there =
    let rest : Elsewhere y xs × (same_cell c.cell y ≡ false) = elsewhere_last y xs c there.1 in
    ((there.0, rest.0), rest.1)

-- the last change's cell is none of the others'
abbrev Others : Cell → List Change → Type 0
Others y [] = Unit {0}
Others y (x ∷ xs) = (same_cell y x.cell ≡ false) × Others y xs

apart_last : (xs : List Change) (c : Change) → AreApart (xs ++ c ∷ []) → AreApart xs × Others c.cell xs
apart_last [] c apart = (tt, tt)
apart_last (x ∷ xs) c apart =
    let first : Elsewhere x.cell xs × (same_cell c.cell x.cell ≡ false) =
    elsewhere_last x.cell xs c apart.0 in
    let rest : AreApart xs × Others c.cell xs = apart_last xs c apart.1 in
    ((first.0, rest.0), (first.1, rest.1))

fit_last : (k : Facts) (xs : List Change) (c : Change) (d : Desk) → EachBackIsFit k (xs ++ c ∷ []) d →
    EachBackIsFit k xs (put d c.cell c.old) × IsFit k (put d c.cell c.old)
fit_last k [] c d fit = (tt, fit.1)
fit_last k (x ∷ xs) c d fit =
    let rest : EachBackIsFit k xs (put d c.cell c.old) × IsFit k (put d c.cell c.old) =
    fit_last k xs c d fit.0 in
    ((rest.0, subst (IsFit k) (undone_last (x ∷ xs) c d) fit.1), rest.1)

one_more : (n : ℕ) (m : Counts) → after_writes n (with_one_more m Written) ≡ after_writes (n + 1) m
one_more n m = let more : suc n ≡ n + 1 = omega arith in ap (λ (k : ℕ). after_writes k m) more

-- room for a write
abbrev Room : Type 1
Room = Cell → Value → ℕ → Type 0

room_last : (room : Room) (n : ℕ) (xs : List Change) (c : Change) → HaveRoom room n (xs ++ c ∷ []) →
    HaveRoom room n xs × room c.cell c.old n
room_last room n [] c have = (tt, have.0)
room_last room n (x ∷ xs) c have =
    let rest : HaveRoom room n xs × room c.cell c.old n = room_last room n xs c have.2 in
    ((have.0, have.1, rest.0), rest.1)

room_on : (room left : Room) (n : ℕ) (xs : List Change) (y : Cell) →
    ((x : Cell) (v : Value) (n : ℕ) → same_cell y x ≡ false → room x v (n + 1) → left x v n) → Others y xs →
    HaveRoom room (n + 1) xs → HaveRoom left n xs
room_on room left n [] y goes others have = tt
room_on room left n (x ∷ xs) y goes others have = (
  goes x.cell x.old n others.0 have.0,
  goes x.cell x.new n others.0 have.1,
  room_on room left n xs y goes others.1 have.2,
)

-- How far the changes were taken back: what is left to be, and that it can be.
pub record Undoing (k : Contents) (d : Desk) (m : Counts) (cs rest : List Change) (f : Contents) (now : Desk)
    (has_room : Room)
    (meter : Counts) : Type 0 where
  pub desk : take_back rest now ≡ take_back cs d
  pub same : f ≡ k
  pub known : AreKnownChanges (facts_of k) rest
  pub apart : AreApart rest
  pub room : HaveRoom has_room (length rest) rest
  pub fit : EachBackIsFit (facts_of k) rest now
  pub counted : after_writes (length rest) meter ≡ after_writes (length cs) m

pub undoing_start : (k : Contents) (d : Desk) (m : Counts) (cs rest : List Change) (room : Room)
    → rest ≡ cs → AreKnownChanges (facts_of k) cs → AreApart cs → HaveRoom room (length cs) cs
    → EachBackIsFit (facts_of k) cs d → Undoing k d m cs rest k d room m
undoing_start k d m cs rest room is known apart have fit = record {
  desk = ap (λ (xs : List Change). take_back xs d) is;
  same = refl;
  known = subst (AreKnownChanges (facts_of k)) (sym is) known;
  apart = subst AreApart (sym is) apart;
  room = subst (λ (xs : List Change). HaveRoom room (length xs) xs) (sym is) have;
  fit = subst (λ (xs : List Change). EachBackIsFit (facts_of k) xs d) (sym is) fit;
  counted = ap (λ (xs : List Change). after_writes (length xs) m) is;
}

-- the last change that is left can be taken back
pub record Next (k : Contents) (now : Desk) (has_room : Room) (c : Change) (rest : List Change) : Type 0 where
  pub known : MayHave (facts_of k) c.cell c.old
  pub room : has_room c.cell c.old (length rest + 1)
  pub fit : IsFit (facts_of k) (put now c.cell c.old)

pub undoing_next : (k : Contents) (d : Desk) (m : Counts) (cs rest : List Change) (f : Contents) (now : Desk)
    (room : Room) (meter : Counts) (left : List Change) (c : Change) → Undoing k d m cs rest f now room meter
    → rest ≡ left ++ c ∷ [] → Next f now room c left
undoing_next k d m cs rest f now room meter left c undoing is = record {
  known = subst (λ (x : Contents). MayHave (facts_of x) c.cell c.old) (sym undoing.same)
      (known_last (facts_of k) left c (subst (AreKnownChanges (facts_of k)) is undoing.known)).1;
  room = subst (room c.cell c.old) (length_push left c)
      (room_last room (length (left ++ c ∷ [])) left c
      (subst (λ (xs : List Change). HaveRoom room (length xs) xs) is undoing.room)).1;
  fit = subst (λ (x : Contents). IsFit (facts_of x) (put now c.cell c.old)) (sym undoing.same)
      (fit_last (facts_of k) left c now
      (subst (λ (xs : List Change). EachBackIsFit (facts_of k) xs now) is undoing.fit)).1;
}

pub undoing_on : (k : Contents) (d : Desk) (m : Counts) (cs rest : List Change)
    (f : Contents) (now : Desk) (room : Room) (meter : Counts) (left : List Change)
    (c : Change) (g : Contents) (next : Desk) (room_left : Room) (raised : Counts)
    → Undoing k d m cs rest f now room meter → rest ≡ left ++ c ∷ [] → next ≡ put now c.cell c.old → g ≡ f
    → ((x : Cell) (v : Value) (n : ℕ) → same_cell c.cell x ≡ false → room x v (n + 1) → room_left x v n)
    → raised ≡ with_one_more meter Written → Undoing k d m cs left g next room_left raised
undoing_on k d m cs rest f now room meter left c g next room_left raised undoing is desk same goes counts =
    let apart : AreApart left × Others c.cell left = apart_last left c (subst AreApart is undoing.apart) in
    let have : HaveRoom room (length left + 1) (left ++ c ∷ []) =
    subst (λ (n : ℕ). HaveRoom room n (left ++ c ∷ [])) (length_push left c)
    (subst (λ (xs : List Change). HaveRoom room (length xs) xs) is undoing.room) in
    let fit : EachBackIsFit (facts_of k) left (put now c.cell c.old)
    × IsFit (facts_of k) (put now c.cell c.old) =
    fit_last (facts_of k) left c now
    (subst (λ (xs : List Change). EachBackIsFit (facts_of k) xs now) is undoing.fit) in
    record {
      desk = ap (take_back left) desk ∙ sym (undone_last left c now)
          ∙ ap (λ (xs : List Change). take_back xs now) (sym is) ∙ undoing.desk;
      same = same ∙ undoing.same;
      known = (known_last (facts_of k) left c (subst (AreKnownChanges (facts_of k)) is undoing.known)).0;
      apart = apart.0;
      room = room_on room room_left (length left) left c.cell goes apart.1
          (room_last room (length left + 1) left c have).0;
      fit = subst (EachBackIsFit (facts_of k) left) (sym desk) fit.0;
      counted = ap (after_writes (length left)) counts
          ∙ one_more (length left) meter
          ∙ ap (λ (n : ℕ). after_writes n meter) (sym (length_push left c))
          ∙ ap (λ (xs : List Change). after_writes (length xs) meter) (sym is)
          ∙ undoing.counted;
    }

pub record Undone (k : Contents) (d : Desk) (m : Counts) (cs : List Change) (f : Contents) (now : Desk)
    (meter : Counts) : Type 0 where
  pub desk : now ≡ take_back cs d
  pub same : f ≡ k
  pub counted : meter ≡ after_writes (length cs) m

none : (xs : List Change) → length xs ≡ 0 → xs ≡ []
none [] is = refl
none (x ∷ xs) is = cc

pub undoing_end : (k : Contents) (d : Desk) (m : Counts) (cs rest : List Change) (f : Contents)
    (now : Desk) (room : Room) (meter : Counts) → Undoing k d m cs rest f now room meter → length rest ≡ 0
    → Undone k d m cs f now meter
undoing_end k d m cs rest f now room meter undoing is = record {
  desk = ap (λ (xs : List Change). take_back xs now) (sym (none rest is)) ∙ undoing.desk;
  same = undoing.same;
  counted = ap (λ (xs : List Change). after_writes (length xs) meter) (sym (none rest is)) ∙ undoing.counted;
}
