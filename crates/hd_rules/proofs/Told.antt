-- Rows that say nothing twice lead from a sound desk to a sound desk.
use Rattle.std.proofs.Common.{◌≡◌, refl, sym, ◌∙◌, ap, subst, ℕ, ◌<◌, ◌==◌, ◌&&◌, cond, List}
use Rattle.std.proofs.Common.{[], ◌∷◌, Option, Some, None}
use Rattle.hd_rules.specs.Words.{Hold, HoldPlace, CopyState, Shelf, OnLoan, OnHoldShelf, InTransit}
use Rattle.hd_rules.specs.Words.{CopyCell, HoldCell, CopyHas, HoldHas}
use Rattle.hd_rules.specs.Facts.{Facts}
use Rattle.hd_rules.specs.Desk.{Desk, put}
use Rattle.hd_rules.specs.Settle.{with_copy}
use Rattle.hd_rules.specs.Sound.{Tied, HoldsFit, Sound}
use Rattle.hd_rules.specs.Words.{OpeningRow}
use Rattle.hd_rules.specs.declared.rows.OpeningRow.TheVariants as row
use Rattle.hd_rules.specs.Rows.{kept_at, sent_from, given}
use Rattle.hd_rules.specs.Rows.{with_row, with_rows, IsHome, Waits}
use Rattle.hd_rules.specs.Rows.{MayWait, MayKeep, MayStand, EachMayStand}
use Rattle.hd_rules.proofs.Puts.{copy_cases, hold_cases}
use Rattle.hd_rules.proofs.Ties.{Untied, loose_untied, loose_copy, close, give, tie_edit}
use Rattle.hd_rules.proofs.Fits.{follows_with, holds_put, Welcome, places_put}
use Rattle.hd_rules.proofs.Ends.{Placed, untied_at, untied_as, bare_as}
use Rattle.hd_rules.proofs.Tests.{number_not, some_is}

home_untied : (k : Facts) (d : Desk) (c : ℕ) → IsHome k d c → Untied (d.copy c)
home_untied k d c home = untied_as (d.copy c) (Shelf (k.home c)) home (λ p b h. h)

-- a copy that is tied to nobody goes where it is tied to nobody
goes : (k : Facts) (n : ℕ) (d : Desk) (c : ℕ) (v : CopyState) → Sound k n d → IsHome k d c → Untied v
    → Placed k d c v → Sound k n (put d (CopyCell c) (CopyHas v))
goes k n d c v sound home free placed = record {
  holds = sound.holds;
  places = places_put k d c v sound.places placed;
  tie = close k c (put d (CopyCell c) (CopyHas v))
      (loose_copy k c d v (loose_untied k c d sound.tie (home_untied k d c home)))
      (untied_at c v (d.copy c) free);
}

-- it goes where it is kept for a hold that waits, which gets it
is_given : (k : Facts) (n : ℕ) (d : Desk) (c : ℕ) (v : CopyState) (p : ℕ) (h : Hold)
    → Sound k n d → IsHome k d c → d.hold (k.title_of c) p ≡ Some h
    → h.copy ≡ None → Tied v p h.pickup → Placed k d c v → Sound k n
    (put (put d (CopyCell c) (CopyHas v)) (HoldCell (k.title_of c) p) (HoldHas (Some (with_copy (Some c) h))))
is_given k n d c v p h sound home was none to placed = record {
  holds = holds_put n d (k.title_of c) p (Some (with_copy (Some c) h)) sound.holds
      (λ g is. follows_with (Some c) _ h g was is);
  places = places_put k d c v sound.places placed;
  tie = give k c (put d (CopyCell c) (CopyHas v)) p h
      (loose_copy k c d v (loose_untied k c d sound.tie (home_untied k d c home))) was none
      (copy_cases (λ s. Tied s p h.pickup) c c v (d.copy c) (λ e. to)
      (λ is. absurd (number_not c c is refl)));
}

given_sound : (k : Facts) (n : ℕ) (d : Desk) (c : ℕ) (p : ℕ) (place : Hold → CopyState) → Sound k n d
    → IsHome k d c → (waits : Waits k d c p) → Tied (place waits.hold) p waits.hold.pickup
    → Placed k d c (place waits.hold) → Sound k n (given k.title_of d c p place (d.hold (k.title_of c) p))
given_sound k n d c p place sound home waits to placed =
    subst (λ (o : Option Hold). Sound k n (given k.title_of d c p place o)) (sym waits.is)
    (is_given k n d c (place waits.hold) p waits.hold sound home waits.is waits.none to placed)

-- a hold that waits, with a stamp that no hold of its title has
holds_more : (n : ℕ) (d : Desk) (t : ℕ) (h : Hold) → HoldsFit n d.hold → h.stamp < n
    → ((p : ℕ) (g : Hold) → d.hold t p ≡ Some g → g.stamp ≡ h.stamp → ⊥)
    → HoldsFit n (λ u q. cond ((t == u) && (h.patron == q)) (Some h) (d.hold u q))
holds_more n d t h fit below other = record {
  named = λ u q g. hold_cases (λ v. v ≡ Some g → g.patron ≡ q) t u h.patron q (Some h) (d.hold u q)
      (λ e f is. ap (λ (x : Hold). x.patron) (sym (some_is h g is)) ∙ f)
      (λ apart is. fit.named u q g is);
  stamped = λ u q g. hold_cases (λ v. v ≡ Some g → g.stamp < n) t u h.patron q (Some h) (d.hold u q)
      (λ e f is. subst (λ (x : Hold). x.stamp < n) (some_is h g is) below)
      (λ apart is. fit.stamped u q g is);
  apart = λ u q r x y. hold_cases
      (λ v. v ≡ Some x → cond ((t == u) && (h.patron == r)) (Some h) (d.hold u r) ≡ Some y
      → x.stamp ≡ y.stamp → q ≡ r) t u h.patron q (Some h) (d.hold u q)
      (λ e f is. hold_cases (λ v. v ≡ Some y → x.stamp ≡ y.stamp → q ≡ r) t u h.patron r (Some h) (d.hold u r)
      (λ i j _ _. sym f ∙ j)
      (λ apart was same.
      absurd (other r y (subst (λ (w : ℕ). d.hold w r ≡ Some y) (sym e) was)
      (sym same ∙ ap (λ (z : Hold). z.stamp) (sym (some_is h x is))))))
      (λ apart was. hold_cases (λ v. v ≡ Some y → x.stamp ≡ y.stamp → q ≡ r) t u h.patron r (Some h)
      (d.hold u r)
      (λ i j is same.
      absurd (other q x (subst (λ (w : ℕ). d.hold w q ≡ Some x) (sym i) was)
      (same ∙ ap (λ (z : Hold). z.stamp) (sym (some_is h y is)))))
      (λ also is same. fit.apart u q r x y was is same));
}

waiting_sound : (k : Facts) (n : ℕ) (d : Desk) (t : ℕ) (h : Hold) → Sound k n d → MayWait k d n t h
    → Sound k n (put d (HoldCell t h.patron) (HoldHas (Some h)))
waiting_sound k n d t h sound may = record {
  holds = holds_more n d t h sound.holds may.stamp may.apart;
  places = sound.places;
  tie = tie_edit k d t h.patron (Some h) sound.tie (bare_as (d.hold t h.patron) None may.new tt) may.none;
}

shelf_is : (s r : HoldPlace) → OnHoldShelf s ≡ OnHoldShelf r → s ≡ r
shelf_is s r e = cc

kept_placed : (k : Facts) (d : Desk) (c p place : ℕ) → (may : MayKeep k d c p place)
    → Placed k d c (kept_at p place may.waits.hold)
kept_placed k d c p place may s e =
    subst (λ (r : HoldPlace). Welcome k d.copy c r)
    (shelf_is (record { branch = may.waits.hold.pickup; place = place; patron = p }) s e) (record {
      from_one = may.from_one;
      alone = λ x r in_c in_x other is branch spot. may.free x r in_x is (sym branch) (sym spot);
    })

pub row_keeps_sound : (k : Facts) (n : ℕ) (d : Desk) (r : OpeningRow) → Sound k n d → MayStand k d n r
    → Sound k n (with_row k.title_of d r)
row_keeps_sound k n d (row.Loan c l) sound home = goes k n d c (OnLoan l) sound home (λ p b h. h) (λ s e. cc)
row_keeps_sound k n d (row.OpenShelf c b) sound may =
    goes k n d c (Shelf b) sound may.0 (λ p x h. h) (λ s e. cc)
row_keeps_sound k n d (row.Hold t h) sound may = waiting_sound k n d t h sound may
row_keeps_sound k n d (row.HoldShelf c p place) sound may =
    given_sound k n d c p (kept_at p place) sound may.home may.waits (refl, refl)
    (kept_placed k d c p place may)
row_keeps_sound k n d (row.HoldTransit c p from) sound may =
    given_sound k n d c p (sent_from p from) sound may.0 may.1 (refl, refl) (λ s e. cc)
row_keeps_sound k n d (row.Transit c from to) sound home =
    goes k n d c (InTransit (record { from = from; to = to; patron = None })) sound home
    (λ p b h. let e : None ≡ Some p = h.0 in cc) (λ s e. cc)

pub rows_keep_sound : (k : Facts) (n : ℕ) (d : Desk) (rows : List OpeningRow) → Sound k n d
    → EachMayStand k n d rows → Sound k n (with_rows k.title_of d rows)
rows_keep_sound k n d [] sound may = sound
rows_keep_sound k n d (r ∷ rows) sound may =
    rows_keep_sound k n (with_row k.title_of d r) rows (row_keeps_sound k n d r sound may.0) may.1
