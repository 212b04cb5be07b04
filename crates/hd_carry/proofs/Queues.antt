-- The rows of all holds, title by title.
use Rattle.std.proofs.Common.{◌≡◌, refl, sym, ◌∙◌, ap, subst, ℕ, zero, suc, ◌<◌, ◌≤◌, ◌==◌, ◌⊎◌, inl, inr}
use Rattle.std.proofs.Common.{Bool, true, false, cond}
use Rattle.std.proofs.Common.{Some, None, List, [], ◌∷◌, ◌++◌, map, find, filter_map, eqb-true, arith}
use Rattle.std.proofs.lemmas.Bool.{cases_lt}
use Rattle.hd_rules.specs.declared.holds.Hold.{Hold}
use Rattle.hd_rules.specs.declared.rows.OpeningRow.{OpeningRow}
use Rattle.hd_rules.specs.declared.rows.OpeningRow.TheVariants as row
use Rattle.hd_rules.specs.Desk.{Desk}
use Rattle.hd_rules.specs.Facts.{Facts}
use Rattle.hd_rules.specs.Sound.{HoldsFit}
use Rattle.hd_rules.specs.Carry.{Renumbering, IsByNames, IsSameHold}
use Rattle.hd_rules.specs.Rows.{EachMayStand}
use Rattle.hd_rules.specs.Settle.{with_copy}
use Rattle.hd_queue.specs.Holds.{HasPatronsOnce}
use Rattle.hd_desk.specs.Asking.{IsQueueOf, AreQueuesOf}
use Rattle.hd_carry.specs.CarriedRows.{hold_row, hold_rows}
use Rattle.hd_carry.proofs.Numbers.{none_hold, not_less, below_or_this, below_next, this_below_next}
use Rattle.hd_lemmas.proofs.Tests.{number_self}
use Rattle.hd_carry.proofs.Rows.{rows_from, row_from, rows_append, each_append}
use Rattle.hd_carry.proofs.Gone.{Gone, retold}
use Rattle.hd_carry.proofs.Waiting.{Also, may_wait, more_gone}

-- a hold by its new numbers, with its title's
abbrev pub Numbered : Type 0
Numbered = ℕ × Hold

abbrev pub to_row : Numbered → OpeningRow
to_row m = row.Hold m.0 m.1

-- these are the holds of the title, by their new numbers and without their copies
abbrev pub AreNumbered : Renumbering → ℕ → List Hold → List Numbered → Type 0
AreNumbered r t [] [] = Unit {0}
AreNumbered r t (g ∷ queue) (m ∷ made) =
    (r.title t ≡ Some m.0) × IsSameHold r (with_copy None g) m.1 × AreNumbered r t queue made
AreNumbered r t [] (m ∷ made) = ⊥
AreNumbered r t (g ∷ queue) [] = ⊥

-- told, where these holds of the title are still to be told
abbrev pub ToldBut : ℕ → List Hold → ℕ → ℕ → Type 0
ToldBut t rest u q = (u < t) ⊎ ((u ≡ t) × (find (λ h. h.patron == q) rest ≡ None))

-- what is known once rows are told
pub record Told (j : Facts) (r : Renumbering) (d : Desk) (n : ℕ) (Which : ℕ → ℕ → Type 0) (e : Desk)
    (rows : List OpeningRow) : Type 0 where
  pub each : EachMayStand j n e rows
  pub gone : Gone r d Which 0 (rows_from j e rows)
  pub copies : (x : ℕ) → (rows_from j e rows).copy x ≡ e.copy x

pub find_first : (g : Hold) (rest : List Hold) → find (λ h. h.patron == g.patron) (g ∷ rest) ≡ Some g
find_first g rest = rw (number_self g.patron) refl

-- who has a hold in the rest of a queue has it of the title
pub of_rest_at : (d : Desk) (t : ℕ) (g : Hold) (rest : List Hold) → find (λ h. h.patron == g.patron) rest
    ≡ None
    → ((p : ℕ) (h : Hold) → find (λ x. x.patron == p) (g ∷ rest) ≡ Some h → d.hold t p ≡ Some h)
    → (p : ℕ) (h : Hold) → find (λ x. x.patron == p) rest ≡ Some h → d.hold t p ≡ Some h
of_rest_at d t g rest once of p h is = by_patron (g.patron == p) refl
  where
    by_patron : (b : Bool) → (g.patron == p) ≡ b → d.hold t p ≡ Some h
    by_patron true same =
        absurd (none_hold h (find (λ x. x.patron == p) rest)
        (subst (λ (q : ℕ). find (λ x. x.patron == q) rest ≡ None) (eqb-true g.patron p same) once) is)
    by_patron false apart = of p h (rw apart is)

module _ (k j : Facts) (r : Renumbering) (d : Desk) (n : ℕ) (names : IsByNames k j r)
    (fit : HoldsFit n d.hold) where
  -- the first of the holds that are still to be told
  not_told : (t : ℕ) (g : Hold) (rest : List Hold) → ToldBut t (g ∷ rest) t g.patron → ⊥
  not_told t g rest (inl l) = not_less t l
  not_told t g rest (inr this) =
      none_hold g (find (λ h. h.patron == g.patron) (g ∷ rest)) this.1 (find_first g rest)

  on : (t : ℕ) (g : Hold) (rest : List Hold) → find (λ h. h.patron == g.patron) rest ≡ None → (u q : ℕ)
      → Also (ToldBut t (g ∷ rest)) t g.patron u q → ToldBut t rest u q
  on t g rest once u q (inl (inl l)) = inl l
  on t g rest once u q (inl (inr this)) = inr (this.0, later (g.patron == q) refl this.1)
    where
      later : (b : Bool) → (g.patron == q) ≡ b → cond b (Some g) (find (λ h. h.patron == q) rest) ≡ None
          → find (λ h. h.patron == q) rest ≡ None
      later true same none = absurd (none_hold g (Some g) none refl)
      later false apart none = none
  on t g rest once u q (inr this) =
      inr (this.0, subst (λ (p : ℕ). find (λ h. h.patron == p) rest ≡ None) (sym this.1) once)

  back : (t : ℕ) (g : Hold) (rest : List Hold) (u q : ℕ) → ToldBut t rest u q
      → Also (ToldBut t (g ∷ rest)) t g.patron u q
  back t g rest u q (inl l) = inl (inl l)
  back t g rest u q (inr this) = by_patron (g.patron == q) refl
    where
      by_patron : (b : Bool) → (g.patron == q) ≡ b → Also (ToldBut t (g ∷ rest)) t g.patron u q
      by_patron true same = inr (this.0, sym (eqb-true g.patron q same))
      by_patron false apart = inl (inr (this.0, rw apart this.1))

  pub queue_told : (t : ℕ) (queue : List Hold) (made : List Numbered) → AreNumbered r t queue made
      → HasPatronsOnce queue
      → ((p : ℕ) (h : Hold) → find (λ x. x.patron == p) queue ≡ Some h → d.hold t p ≡ Some h)
      → (e : Desk) → Gone r d (ToldBut t queue) 0 e → Told j r d n (ToldBut t []) e (map to_row made)
  queue_told t [] [] are once of e gone = record { each = tt; gone = gone; copies = λ x. refl }
  queue_told t [] (m ∷ made) are once of e gone = absurd are
  queue_told t (g ∷ queue) [] are once of e gone = absurd are
  queue_told t (g ∷ queue) (m ∷ made) are once of e gone =
      let is : d.hold t g.patron ≡ Some g = of g.patron g (find_first g queue) in
      let more : Gone r d (Also (ToldBut t (g ∷ queue)) t g.patron) 0 (row_from j e (to_row m)) =
      more_gone k j r d n names fit (ToldBut t (g ∷ queue)) e gone t g.patron g is (not_told t g queue) m.0
      m.1 are.0 are.1 in
      let rest : Told j r d n (ToldBut t []) (row_from j e (to_row m)) (map to_row made) =
      queue_told t queue made are.2 once.1 (of_rest_at d t g queue once.0 of) (row_from j e (to_row m))
      (retold r d (Also (ToldBut t (g ∷ queue)) t g.patron) (ToldBut t queue) 0 (row_from j e (to_row m))
      (λ u q x at told. on t g queue once.0 u q told) (λ u q x at told. back t g queue u q told) more) in
      record {
        each = (
          may_wait k j r d n names fit (ToldBut t (g ∷ queue)) e gone t g.patron g is (not_told t g queue) m.0
              m.1 are.0 are.1,
          rest.each,
        );
        gone = rest.gone;
        copies = rest.copies;
      }

  -- told, where the title is below this
  abbrev pub ToldBelow : ℕ → ℕ → ℕ → Type 0
  ToldBelow t u q = u < t

  module _ (queues : ℕ → List Hold) (its : AreQueuesOf k d queues)
      (numbered : (t : ℕ) → t < k.titles
      → (made : List Numbered) × (filter_map (hold_row r t) (queues t) ≡ map to_row made)
      × AreNumbered r t (queues t) made) (e : Desk) (empty : (u q : ℕ) → e.hold u q ≡ None) where
    none_gone : Gone r d (ToldBelow 0) 0 e
    none_gone = record {
      from = λ u q h is. absurd (none_hold h (e.hold u q) (empty u q) is);
      to = λ t p g l is. absurd (omega (arith, l));
    }

    next : (t : ℕ) → t < k.titles → (f : Desk) → Gone r d (ToldBelow t) 0 f
        → Told j r d n (ToldBelow (suc t)) f (filter_map (hold_row r t) (queues t))
    next t in_t f gone =
        let made : (made : List Numbered) × (filter_map (hold_row r t) (queues t) ≡ map to_row made)
        × AreNumbered r t (queues t) made = numbered t in_t in
        let queue : IsQueueOf k d t (queues t) = its.queue t in_t in
        let told : Told j r d n (ToldBut t []) f (map to_row made.0) =
        queue_told t (queues t) made.0 made.2 queue.once (λ p h is. queue.each p ∙ is) f
        (retold r d (ToldBelow t) (ToldBut t (queues t)) 0 f (λ u q g is l. inl l)
        (λ u q g is. start queue u q g is) gone) in
        let all : Told j r d n (ToldBelow (suc t)) f (map to_row made.0) = record {
          each = told.each;
          gone = retold r d (ToldBut t []) (ToldBelow (suc t)) 0 (rows_from j f (map to_row made.0))
              (λ u q g is. through u q) (λ u q g is. end u q) told.gone;
          copies = told.copies;
        } in
        subst (λ (rows : List OpeningRow). Told j r d n (ToldBelow (suc t)) f rows) (sym made.1) all
      where
        start : IsQueueOf k d t (queues t) → (u q : ℕ) (g : Hold) → d.hold u q ≡ Some g
            → ToldBut t (queues t) u q → u < t
        start queue u q g is (inl l) = l
        start queue u q g is (inr this) =
            absurd (none_hold g (d.hold t q) (queue.each q ∙ this.1)
            (subst (λ (v : ℕ). d.hold v q ≡ Some g) this.0 is))

        through : (u q : ℕ) → ToldBut t [] u q → u < suc t
        through u q (inl l) = below_next u t l
        through u q (inr this) = subst (λ (v : ℕ). v < suc t) (sym this.0) (this_below_next t)

        end : (u q : ℕ) → u < suc t → ToldBut t [] u q
        end u q l = by_case (below_or_this u t l)
          where
            by_case : (u < t) ⊎ (u ≡ t) → ToldBut t [] u q
            by_case (inl l) = inl l
            by_case (inr this) = inr (this, refl)

    joined : (A B : ℕ → ℕ → Type 0) (a b : List OpeningRow) → Told j r d n A e a
        → Told j r d n B (rows_from j e a) b
        → Told j r d n B e (a ++ b)
    joined A B a b one two = record {
      each = each_append j n e a b one.each two.each;
      gone = subst (λ (f : Desk). Gone r d B 0 f) (sym (rows_append j e a b)) two.gone;
      copies = λ x. ap (λ (f : Desk). f.copy x) (rows_append j e a b) ∙ two.copies x ∙ one.copies x;
    }

    pub titles_told : (t : ℕ) → t ≤ k.titles → Told j r d n (ToldBelow t) e (hold_rows r queues t)
    titles_told zero le = record { each = tt; gone = none_gone; copies = λ x. refl }
    titles_told (suc t) le =
        let before : Told j r d n (ToldBelow t) e (hold_rows r queues t) =
        titles_told t (omega (arith, le)) in
        joined (ToldBelow t) (ToldBelow (suc t)) (hold_rows r queues t) (filter_map (hold_row r t) (queues t))
        before
        (next t (omega (arith, le)) (rows_from j e (hold_rows r queues t)) before.gone)

    -- and so of all titles
    pub holds_told : Told j r d n (λ t p. Unit {0}) e (hold_rows r queues k.titles)
    holds_told =
        let told : Told j r d n (ToldBelow k.titles) e (hold_rows r queues k.titles) =
        titles_told k.titles (omega arith) in
        record {
          each = told.each;
          gone = retold r d (ToldBelow k.titles) (λ t p. Unit {0}) 0
              (rows_from j e (hold_rows r queues k.titles))
              (λ t p g is l. tt) (λ t p g is any. within t p g is) told.gone;
          copies = told.copies;
        }
      where
        within : (t p : ℕ) (g : Hold) → d.hold t p ≡ Some g → t < k.titles
        within t p g is = by_case (cases_lt t k.titles)
          where
            by_case : (t < k.titles) ⊎ (k.titles ≤ t) → t < k.titles
            by_case (inl l) = l
            by_case (inr le) = absurd (none_hold g (d.hold t p) (its.past t p le) is)
