-- In a sound desk the copy of a kept hold stands at its pickup, for the patron.
use Rattle.std.proofs.Common.{◌≡◌, refl, sym, subst, ℕ, true, Option, Some, None}
use Rattle.hd_rules.specs.Words.{Hold, CopyState, Shelf, OnLoan, OnHoldShelf, InTransit, TitleHold}
use Rattle.hd_rules.specs.Facts.{Facts}
use Rattle.hd_rules.specs.Desk.{Desk}
use Rattle.hd_rules.specs.Run.{IsAmong}
use Rattle.hd_rules.specs.Sound.{Has, Tied, Sound}
use Rattle.hd_rules.specs.Views.{is_on_hold_shelf, is_shelved, is_kept, holds_of, kept_of, IsAtItsPickup}
use Rattle.hd_rules.proofs.Filters.{in_filter}
use Rattle.hd_rules.proofs.Listed.{holds_are}

pub kept_at_pickup : (k : Facts) (n : ℕ) (d : Desk) (p : ℕ) (h : TitleHold) → Sound k n d →
    IsAmong h (kept_of k d p) → IsAtItsPickup k d p h
kept_at_pickup k n d p h sound among = by_copy h.hold.copy refl kept.1
  where
    kept : IsAmong h (holds_of k d p) × (is_kept d h ≡ true)
    kept = in_filter (is_kept d) h (holds_of k d p) among

    by_state : (c : ℕ) → h.hold.copy ≡ Some c → k.title_of c ≡ h.title → (s : CopyState) → d.copy c ≡ s →
        Tied s p h.hold.pickup → is_on_hold_shelf s ≡ true → IsAtItsPickup k d p h
    by_state c given title (OnHoldShelf s) stands tied is = record {
      copy = c;
      shelf = s;
      given = given;
      title = title;
      stands = stands;
      pickup = tied.1;
      patron = tied.0;
    }
    by_state c given title (Shelf b) stands tied is = absurd tied
    by_state c given title (OnLoan l) stands tied is = absurd tied
    by_state c given title (InTransit t) stands tied is = cc

    by_copy : (o : Option ℕ) → h.hold.copy ≡ o → is_shelved d o ≡ true → IsAtItsPickup k d p h
    by_copy None none is = cc
    by_copy (Some c) given is =
        let held : d.hold h.title p ≡ Some h.hold = (((holds_are d p k).members h).0 kept.0).1 in
        let has : Has (d.hold h.title p) c h.hold.pickup =
        subst (λ (o : Option Hold). Has o c h.hold.pickup) (sym held) (given, refl) in
        let tie : (k.title_of c ≡ h.title) × Tied (d.copy c) p h.hold.pickup =
        sound.tie.tied h.title p c h.hold.pickup has in
        by_state c given tie.0 (d.copy c) refl tie.1 is
