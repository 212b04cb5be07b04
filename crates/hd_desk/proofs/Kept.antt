-- What stays true of a desk.
use Rattle.std.proofs.Common.{◌≡◌, sym, subst, ℕ, Bool, true, false, cond, ◌==◌, ◌&&◌, Option}
use Rattle.hd_rules.specs.declared.holds.Hold.{Hold}
use Rattle.hd_rules.specs.declared.copies.CopyState.{CopyState}
use Rattle.hd_rules.specs.declared.cells.Cell.{Cell}
use Rattle.hd_rules.specs.declared.cells.Cell.TheVariants.{Copy as CopyCell, Hold as HoldCell}
use Rattle.hd_rules.specs.declared.cells.Value.{Value}
use Rattle.hd_rules.specs.declared.cells.Value.TheVariants.{Copy as CopyHas, Hold as HoldHas}
use Rattle.hd_rules.specs.Facts.{Facts, AreInRange}
use Rattle.hd_rules.specs.Desk.{Desk, at_home, put}
use Rattle.hd_rules.specs.Known.{IsKnownDesk, IsKnownHeld, IsKnownState, IsKnownValue}
use Rattle.hd_rules.specs.Sound.{IsFit, Sound}
use Rattle.hd_catalogue.specs.Contents.{Contents, facts_of}
use Rattle.hd_copies.specs.CopiesValue.{CopiesValue}
use Rattle.hd_copies.specs.Standing.{standing}
use Rattle.hd_holds.specs.HoldsValue.{HoldsValue}
use Rattle.hd_holds.specs.Held.{patron_hold}
use Rattle.hd_desk.specs.DeskValue.{DeskValue}
use Rattle.hd_desk.specs.Desks.{IsKeptDesk, contents, desk_of, facts}

pub kept-opening : (k : Facts) → AreInRange k → IsKeptDesk k (at_home k.home)
kept-opening k range = record {
  range = range;
  known = record { copies = λ c in_c. range.home c in_c; holds = λ t p in_t in_p. tt };
  fit = record {
    named = λ t p h e. cc;
    stamps = λ t p q g h e f same. cc;
    places = record { from_one = λ c s e. cc; apart = λ x y s r in_x in_y e f branch place. cc };
  };
}

-- a desk that is the same is as sound
pub sound-same : (d e : DeskValue) (n : ℕ) → contents e ≡ contents d → desk_of e ≡ desk_of d →
    Sound (facts d) n (desk_of d) → Sound (facts e) n (desk_of e)
sound-same d e n same desk sound =
    subst (λ (x : Desk). Sound (facts e) n x) (sym desk)
    (subst (λ (x : Contents). Sound (facts_of x) n (desk_of d)) (sym same) sound)

known-state : (k : Facts) (b : Bool) (new old : CopyState) → IsKnownState k new → IsKnownState k old
    → IsKnownState k (cond b new old)
known-state k true new old is was = is
known-state k false new old is was = was

known-held : (k : Facts) (b : Bool) (new old : Option Hold) → IsKnownHeld k new → IsKnownHeld k old
    → IsKnownHeld k (cond b new old)
known-held k true new old is was = is
known-held k false new old is was = was

-- a copy goes somewhere, or a hold becomes another
pub put-copy-is : (d : DeskValue) (new : CopiesValue) (c : ℕ) (s : CopyState) →
    standing new ≡ (λ x. cond (c == x) s (standing d.copies x)) →
    desk_of (record { copies = new; holds = d.holds }) ≡ put (desk_of d) (CopyCell c) (CopyHas s)
unfolding desk_of
put-copy-is d new c s is = λ i. record { copy = is i; hold = patron_hold d.holds }

pub put-hold-is : (d : DeskValue) (new : HoldsValue) (t p : ℕ) (o : Option Hold) →
    patron_hold new ≡ (λ u q. cond ((t == u) && (p == q)) o (patron_hold d.holds u q)) →
    desk_of (record { copies = d.copies; holds = new }) ≡ put (desk_of d) (HoldCell t p) (HoldHas o)
unfolding desk_of
put-hold-is d new t p o is = λ i. record { copy = standing d.copies; hold = is i }

-- a cell gets a value that names things of the catalogue
known-put : (k : Facts) (d : Desk) (cell : Cell) (v : Value) → IsKnownValue k v → IsKnownDesk k d
    → IsKnownDesk k (put d cell v)
known-put k d (CopyCell c) (CopyHas s) is known = record {
  copies = λ x in_x. known-state k (c == x) s (d.copy x) is (known.copies x in_x);
  holds = known.holds;
}
known-put k d (HoldCell t p) (HoldHas o) is known = record {
  copies = known.copies;
  holds = λ u q in_u in_q. known-held k ((t == u) && (p == q)) o (d.hold u q) is (known.holds u q in_u in_q);
}
known-put k d (CopyCell c) (HoldHas o) is known = known
known-put k d (HoldCell t p) (CopyHas s) is known = known

pub kept-put : (d e : DeskValue) (cell : Cell) (v : Value) → contents e ≡ contents d → desk_of e
    ≡ put (desk_of d) cell v →
    IsKnownValue (facts d) v → IsFit (facts d) (put (desk_of d) cell v) → IsKeptDesk (facts d) (desk_of d)
    → IsKeptDesk (facts e) (desk_of e)
kept-put d e cell v same desk known fit kept =
    let here : IsKeptDesk (facts d) (put (desk_of d) cell v) =
    record {
      range = kept.range;
      known = known-put (facts d) (desk_of d) cell v known kept.known;
      fit =
          fit;
    } in
    subst (λ (x : Desk). IsKeptDesk (facts e) x) (sym desk)
    (subst (λ (x : Contents). IsKeptDesk (facts_of x) (put (desk_of d) cell v)) (sym same) here)
