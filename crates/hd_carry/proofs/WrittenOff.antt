-- A desk is as sound, and as known, when loans have ended on the open shelves of their copies' homes.
use Rattle.std.proofs.Common.{◌≡◌, ℕ, ◌<◌, Bool, true, false, List}
use Rattle.hd_rules.specs.declared.holds.Hold.{Hold}
use Rattle.hd_rules.specs.declared.copies.CopyState.{CopyState}
use Rattle.hd_rules.specs.declared.copies.CopyState.TheVariants.{Shelf, OnLoan, OnHoldShelf, InTransit}
use Rattle.hd_rules.specs.declared.copies.HoldPlace.{HoldPlace}
use Rattle.hd_rules.specs.Desk.{Desk}
use Rattle.hd_rules.specs.Facts.{Facts, AreInRange}
use Rattle.hd_rules.specs.Known.{IsKnownState, IsKnownDesk}
use Rattle.hd_rules.specs.Sound.{AreNamed, Tied, Sound}
use Rattle.hd_desk.specs.Asking.{IsQueueOf, AreQueuesOf}
use Rattle.hd_carry.specs.WriteOffs.{written_state, without_loans}

kept_was : (w : Bool) (home : ℕ) (s : CopyState) (z : HoldPlace) → written_state w home s ≡ OnHoldShelf z → s
    ≡ OnHoldShelf z
kept_was true home (Shelf b) z is = is
kept_was true home (OnLoan l) z is = let never : Shelf home ≡ OnHoldShelf z = is in cc
kept_was true home (OnHoldShelf s) z is = is
kept_was true home (InTransit t) z is = is
kept_was false home (Shelf b) z is = is
kept_was false home (OnLoan l) z is = is
kept_was false home (OnHoldShelf s) z is = is
kept_was false home (InTransit t) z is = is

tied_is : (w : Bool) (home : ℕ) (s : CopyState) (p b : ℕ) → Tied s p b → Tied (written_state w home s) p b
tied_is true home (Shelf a) p b tied = tied
tied_is true home (OnLoan l) p b tied = absurd tied
tied_is true home (OnHoldShelf s) p b tied = tied
tied_is true home (InTransit t) p b tied = tied
tied_is false home (Shelf a) p b tied = tied
tied_is false home (OnLoan l) p b tied = tied
tied_is false home (OnHoldShelf s) p b tied = tied
tied_is false home (InTransit t) p b tied = tied

tied_was : (w : Bool) (home : ℕ) (s : CopyState) (p b : ℕ) → Tied (written_state w home s) p b → Tied s p b
tied_was true home (Shelf a) p b tied = tied
tied_was true home (OnLoan l) p b tied = absurd tied
tied_was true home (OnHoldShelf s) p b tied = tied
tied_was true home (InTransit t) p b tied = tied
tied_was false home (Shelf a) p b tied = tied
tied_was false home (OnLoan l) p b tied = tied
tied_was false home (OnHoldShelf s) p b tied = tied
tied_was false home (InTransit t) p b tied = tied

known_is : (k : Facts) (w : Bool) (home : ℕ) (s : CopyState) → home < k.branches → IsKnownState k s
    → IsKnownState k (written_state w home s)
known_is k true home (Shelf a) in_home known = known
known_is k true home (OnLoan l) in_home known = in_home
known_is k true home (OnHoldShelf s) in_home known = known
known_is k true home (InTransit t) in_home known = known
known_is k false home (Shelf a) in_home known = known
known_is k false home (OnLoan l) in_home known = known
known_is k false home (OnHoldShelf s) in_home known = known
known_is k false home (InTransit t) in_home known = known

pub written_sound : (k : Facts) (n : ℕ) (listed : ℕ → Bool) (d : Desk) → Sound k n d
    → Sound k n (without_loans k listed d)
unfolding without_loans
written_sound k n listed d sound = record {
  holds = record { named = sound.holds.named; stamped = sound.holds.stamped; apart = sound.holds.apart };
  places = record {
    from_one = λ c s is. sound.places.from_one c s (kept_was (listed c) (k.home c) (d.copy c) s is);
    apart = λ x y s z in_x in_y is also. sound.places.apart x y s z in_x in_y
        (kept_was (listed x) (k.home x) (d.copy x) s is) (kept_was (listed y) (k.home y) (d.copy y) z also);
  };
  tie = record {
    tied = λ t p c b has.
        let tied : (k.title_of c ≡ t) × Tied (d.copy c) p b = sound.tie.tied t p c b has in
        (tied.0, tied_is (listed c) (k.home c) (d.copy c) p b tied.1);
    has = λ p c b tied. sound.tie.has p c b (tied_was (listed c) (k.home c) (d.copy c) p b tied);
  };
}

pub written_known : (k : Facts) (listed : ℕ → Bool) (d : Desk) → AreInRange k → IsKnownDesk k d
    → IsKnownDesk k (without_loans k listed d)
unfolding without_loans
written_known k listed d range known = record {
  copies = λ c in_c. known_is k (listed c) (k.home c) (d.copy c) (range.home c in_c) (known.copies c in_c);
  holds = known.holds;
}

pub written_queues : (k : Facts) (listed : ℕ → Bool) (d : Desk) (queues : ℕ → List Hold)
    → AreQueuesOf k d queues
    → AreQueuesOf k (without_loans k listed d) queues
unfolding without_loans
written_queues k listed d queues are = record {
  queue = λ t in_t.
      let queue : IsQueueOf k d t (queues t) = are.queue t in_t in
      record { each = queue.each; ordered = queue.ordered; once = queue.once };
  past = are.past;
}

pub written_named : (k : Facts) (listed : ℕ → Bool) (d : Desk) → AreNamed d.hold
    → AreNamed (without_loans k listed d).hold
unfolding without_loans
written_named k listed d named = named
