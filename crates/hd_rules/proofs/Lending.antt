-- What each command leads to.
use Rattle.std.proofs.Common.{◌≡◌, refl, sym, ◌∙◌, ap, subst, ℕ, ◌+◌, Bool, Option, Some, None}
use Rattle.std.specs.Prelude.{nat_lt}
use Rattle.hd_rules.specs.Words.{Hold, HoldKind, Loan, CopyState, Shelf, OnLoan, OnHoldShelf, InTransit}
use Rattle.hd_rules.specs.Words.{HoldCell, HoldHas}
use Rattle.hd_rules.specs.Facts.{Facts}
use Rattle.hd_rules.specs.Desk.{Desk, put}
use Rattle.hd_rules.specs.Find.{choice}
use Rattle.hd_rules.specs.Choose.{has_expired}
use Rattle.hd_rules.specs.Ask.{Plan}
use Rattle.hd_rules.specs.Step.{lend, lend_held, lend_from_shelf, cannot_renew, renew_loan, last_day, due_day}
use Rattle.hd_rules.specs.Step.{checkout_at, add, changed_hold}
use Rattle.hd_rules.specs.Step.{change_to, change, renew_at}
use Rattle.hd_rules.specs.Sound.{Tied, Sound}
use Rattle.hd_rules.proofs.Ties.{Loose, loose_untied, tie_edit, loose_edit, loosen}
use Rattle.hd_rules.proofs.Fits.{none_follows, holds_put, holds_end, holds_begin}
use Rattle.hd_rules.proofs.Chosen.{Chosen, chosen}
use Rattle.hd_rules.proofs.Leads.{Leads, asked, refused, either}
use Rattle.hd_rules.proofs.Ends.{accepted_copy, accepted_hold, accepted_both, next, loan_sound, untied_as}
use Rattle.hd_rules.proofs.Ends.{bare_as}
use Rattle.hd_rules.proofs.Tests.{number_is, some_is}

lend_leads : (k : Facts) (n : ℕ) (d : Desk) (p : ℕ) (c : ℕ) (day : ℕ) (rest : Plan) → Leads k n d rest
    → Leads k n d (lend k p c day rest)
lend_leads k n d p c day rest ok = asked (λ room told. either _ _ _ room _ _
    (λ well. either _ _ _ (nat_lt last_day (due_day k c day)) _ _ (λ late. refused) (λ soon. ok))
    (λ full. refused))

lend_held_leads : (k : Facts) (n : ℕ) (d : Desk) (p : ℕ) (c : ℕ) (day : ℕ) (old : CopyState)
    → Sound k n d → d.copy c ≡ old → Loose k c (put d (HoldCell (k.title_of c) p) (HoldHas None))
    → Leads k (n + 1) d (lend_held k n p c day old)
lend_held_leads k n d p c day old sound was loose = lend_leads k (n + 1) d p c day _ (asked (λ held has.
    accepted_both k n (n + 1) d c old (OnLoan _) (k.title_of c) p held None _ was has (none_follows held)
    (loan_sound k n (put d (HoldCell (k.title_of c) p) (HoldHas None)) c _
    (holds_end n d (k.title_of c) p sound.holds) sound.places
    loose)))

renew_loan_leads : (k : Facts) (n : ℕ) (d : Desk) (p : ℕ) (c : ℕ) (day : ℕ) (l : Loan) → Sound k n d
    → d.copy c ≡ OnLoan l → Leads k (n + 1) d (renew_loan k n p c day l)
renew_loan_leads k n d p c day l sound was =
    asked (λ first told. either _ _ _ (cannot_renew k p c l first) _ _ (λ no_. refused)
    (λ may. either _ _ _ (nat_lt last_day (due_day k c day)) _ _ (λ late. refused)
    (λ soon. accepted_copy k n (n + 1) d c (OnLoan l) (OnLoan _) _ was
    (loan_sound k n d c _ sound.holds sound.places
    (loose_untied k c d sound.tie (untied_as _ (OnLoan l) was (λ q b h. h)))))))

pub renew_leads : (k : Facts) (n : ℕ) (d : Desk) (p : ℕ) (c : ℕ) (day : ℕ) (old : CopyState) → Sound k n d
    → d.copy c ≡ old → Leads k (n + 1) d (renew_at k n p c day old)
renew_leads k n d p c day (OnLoan l) sound was =
    either _ _ _ _ _ _ (λ its. renew_loan_leads k n d p c day l sound was) (λ other. refused)
renew_leads k n d p c day (Shelf b) sound was = refused
renew_leads k n d p c day (OnHoldShelf s) sound was = refused
renew_leads k n d p c day (InTransit t) sound was = refused

lend_from_shelf_leads : (k : Facts) (n : ℕ) (d : Desk) (p : ℕ) (c : ℕ) (day : ℕ) (b : ℕ) (first : Option Hold)
    → Sound k n d → d.copy c ≡ Shelf b → choice k d c (k.home c) day ≡ first
    → Leads k (n + 1) d (lend_from_shelf k n p c day (Shelf b) first)
lend_from_shelf_leads k n d p c day b None sound was is = lend_leads k (n + 1) d p c day _
    (accepted_copy k n (n + 1) d c (Shelf b) (OnLoan _) _ was
    (loan_sound k n d c _ sound.holds sound.places
    (loose_untied k c d sound.tie (untied_as _ (Shelf b) was (λ q x h. h)))))
lend_from_shelf_leads k n d p c day b (Some h) sound was is = either _ _ _ _ _ _
    (λ its. let first : Chosen k d c h = chosen k n d c (k.home c) day h sound.holds is in
    let held : d.hold (k.title_of c) p ≡ Some h =
    subst (λ (q : ℕ). d.hold (k.title_of c) q ≡ Some h) (number_is h.patron p its) first.has in
    lend_held_leads k n d p c day (Shelf b) sound was
    (loose_edit k c d (k.title_of c) p None
    (loose_untied k c d sound.tie (untied_as _ (Shelf b) was (λ q x t. t)))
    (bare_as _ (Some h) held first.none) tt))
    (λ other. refused)

pub checkout_leads : (k : Facts) (n : ℕ) (d : Desk) (p : ℕ) (c : ℕ) (may : Bool) (day : ℕ) (old : CopyState)
    → Sound k n d → d.copy c ≡ old → Leads k (n + 1) d (checkout_at k n p c may day old)
checkout_leads k n d p c may day (Shelf b) sound was =
    asked (λ first is. lend_from_shelf_leads k n d p c day b first sound was is)
checkout_leads k n d p c may day (OnLoan l) sound was =
    either _ _ _ _ _ _
    (λ its. either _ _ _ may _ _ (λ well. renew_loan_leads k n d p c day l sound was) (λ busy. refused))
    (λ other. refused)
checkout_leads k n d p c may day (OnHoldShelf s) sound was = either _ _ _ _ _ _
    (λ its. let tied : Tied (d.copy c) p s.branch =
    subst (λ (x : CopyState). Tied x p s.branch) (sym was) (number_is s.patron p its, refl) in
    lend_held_leads k n d p c day (OnHoldShelf s) sound was
    (loosen k c d (k.title_of c) p s.branch None sound.tie (sound.tie.has p c s.branch tied) tt))
    (λ other. refused)
checkout_leads k n d p c may day (InTransit t) sound was = refused

pub add_leads : (k : Facts) (n : ℕ) (d : Desk) (h : Hold) (t : ℕ) (day : ℕ) (old : Option Hold) → Sound k n d
    → d.hold t h.patron ≡ old → h.stamp ≡ n → h.copy ≡ None → Leads k (n + 1) d (add k n h t day old)
add_leads k n d h t day (Some old) sound was stamp none = refused
add_leads k n d h t day None sound was stamp none =
    either _ _ _ (has_expired h.expiry day) _ _ (λ passed. refused)
    (λ well. asked (λ place told. asked
    (λ available told. accepted_hold k n (n + 1) d t h.patron None (Some h) _ was (record {
      holds = holds_begin n d t h.patron h sound.holds refl stamp;
      places = sound.places;
      tie = tie_edit k d t h.patron (Some h) sound.tie (bare_as _ None was tt) none;
    }))))

change_to_leads : (k : Facts) (n : ℕ) (d : Desk) (t : ℕ) (p : ℕ) (expiry : Option ℕ) (day : ℕ)
    (h new : Hold) (c : Option ℕ) → Sound k n d → d.hold t p ≡ Some h → h.copy ≡ c → new.patron ≡ h.patron
    → new.stamp ≡ h.stamp → new.copy ≡ h.copy → Leads k (n + 1) d (change_to k n t p expiry day h new c)
change_to_leads k n d t p expiry day h new (Some c) sound was has patron stamp copy = refused
change_to_leads k n d t p expiry day h new None sound was has patron stamp copy =
    either _ _ _ (has_expired expiry day) _ _ (λ passed. refused)
    (λ well. asked (λ place told. asked
    (λ available told. accepted_hold k n (n + 1) d t p (Some h) (Some new) _ was (record {
      holds = next n _
          (holds_put n d t p (Some new) sound.holds (λ g is. let e : new ≡ g = some_is new g is in record {
            before = h;
            was = was;
            patron = ap (λ (x : Hold). x.patron) (sym e) ∙ patron;
            stamp = ap (λ (x : Hold). x.stamp) (sym e) ∙ stamp;
          }));
      places = sound.places;
      tie = tie_edit k d t p (Some new) sound.tie (bare_as _ (Some h) was has) (copy ∙ has);
    }))))

pub change_leads : (k : Facts) (n : ℕ) (d : Desk) (t : ℕ) (p : ℕ) (kind : Option HoldKind) (pickup : Option ℕ)
    (expiry : Option ℕ) (day : ℕ)
    (old : Option Hold) → Sound k n d → d.hold t p ≡ old
    → Leads k (n + 1) d (change k n t p kind pickup expiry day old)
change_leads k n d t p kind pickup expiry day None sound was = refused
change_leads k n d t p kind pickup expiry day (Some h) sound was =
    change_to_leads k n d t p expiry day h
    (changed_hold kind pickup expiry h) h.copy sound was refl refl refl refl
