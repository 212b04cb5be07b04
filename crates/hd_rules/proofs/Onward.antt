-- The changes of a command lead through fit desks.
use Rattle.std.proofs.Common.{◌≡◌, refl, sym, ◌∙◌, subst, ℕ, ◌+◌, inl, inr, List, [], ◌∷◌, Some, Ok}
use Rattle.hd_rules.specs.Words.{Hold, Cell, CopyCell, HoldCell, Value, CopyHas, HoldHas, Change, Command}
use Rattle.hd_rules.specs.Facts.{Facts}
use Rattle.hd_rules.specs.Desk.{Desk, value, put, after}
use Rattle.hd_rules.specs.Ask.{Done, outcome}
use Rattle.hd_rules.specs.Step.{plan}
use Rattle.hd_rules.specs.Run.{IsAmong, AreChanges}
use Rattle.hd_rules.specs.Sound.{HoldsFit, PlacesFit, IsFit, Sound, EachOnIsFit}
use Rattle.hd_rules.proofs.Undo.{hold_inj}
use Rattle.hd_rules.proofs.Puts.{hold_cases}
use Rattle.hd_rules.proofs.Fits.{Follows, follows_itself, fit_of, holds_follow}
use Rattle.hd_rules.proofs.Gentle.{IsMild, AreMild, IsOfHold, AreOfHolds, OneCopyFirst, OneCopy, IsSingle}
use Rattle.hd_rules.proofs.Gentle.{AreGentle, one_of_holds}
use Rattle.hd_rules.proofs.Leads.{Proper, proper_put, Good, leads_to}
use Rattle.hd_rules.proofs.Reach.{plan_leads}
use Rattle.hd_rules.proofs.Written.{each_written}

-- a hold that is there after a mild change was there with that stamp already
mild_follows : (d : Desk) (x : Cell) (old new : Value) → IsMild old new → value d x ≡ old
    → (t : ℕ) (p : ℕ) (h : Hold) → (put d x new).hold t p ≡ Some h → Follows (d.hold t p) h
mild_follows d (CopyCell c) old (CopyHas s) mild has t p h is = follows_itself (d.hold t p) h is
mild_follows d (CopyCell c) old (HoldHas o) mild has t p h is = follows_itself (d.hold t p) h is
mild_follows d (HoldCell s q) old (CopyHas o) mild has t p h is = follows_itself (d.hold t p) h is
mild_follows d (HoldCell s q) (CopyHas r) (HoldHas v) mild has t p h is = absurd mild
mild_follows d (HoldCell s q) (HoldHas o) (HoldHas v) mild has t p h is =
    hold_cases (λ w. w ≡ Some h → Follows (d.hold t p) h) s t q p v (d.hold t p)
    (λ e f new. subst (λ w. Follows w h) (sym (hold_inj (d.hold s q) o has) ∙ (λ i. d.hold (e i) (f i)))
    (mild h new))
    (λ other there. follows_itself (d.hold t p) h there) is

abbrev EachOn : (Desk → Type 0) → List Change → Desk → Type 0
EachOn P [] d = Unit {0}
EachOn P (c ∷ cs) d = P (put d c.cell c.new) × EachOn P cs (put d c.cell c.new)

holds_on : (n : ℕ) (d : Desk) (cs : List Change) → Proper d cs → AreMild cs → HoldsFit n d.hold
    → EachOn (λ x. HoldsFit n x.hold) cs d
holds_on n d [] proper mild fit = tt
holds_on n d (c ∷ cs) proper mild fit =
    (next, holds_on n (put d c.cell c.new) cs (proper_put d c.cell c.new cs proper.2 proper.3) mild.1 next)
  where
    next : HoldsFit n (put d c.cell c.new).hold
    next = holds_follow n d.hold (put d c.cell c.new).hold fit
        (mild_follows d c.cell c.old c.new mild.0 proper.0)

holds_only : (cs : List Change) (d : Desk) → AreOfHolds cs → (after cs d).copy ≡ d.copy
holds_only [] d h = refl
holds_only (c ∷ cs) d h = holds_only cs (put d c.cell c.new) h.1 ∙ by_cell c.cell c.new h.0
  where
    by_cell : (x : Cell) (v : Value) → IsOfHold x → (put d x v).copy ≡ d.copy
    by_cell (CopyCell n) v of = absurd of
    by_cell (HoldCell t p) (HoldHas o) of = refl
    by_cell (HoldCell t p) (CopyHas s) of = refl

places_on : (k : Facts) (d : Desk) (cs : List Change) → OneCopy cs → PlacesFit k d.copy
    → PlacesFit k (after cs d).copy → EachOn (λ x. PlacesFit k x.copy) cs d
places_on k d [] one fit last = tt
places_on k d (c ∷ cs) one fit last =
    by_cell c.cell c.new one last (λ e later has. places_on k e cs later has)
  where
    by_cell : (x : Cell) (v : Value) → OneCopyFirst x cs (OneCopy cs)
        → PlacesFit k (after cs (put d x v)).copy → ((e : Desk) → OneCopy cs → PlacesFit k e.copy
        → PlacesFit k (after cs e).copy → EachOn (λ y. PlacesFit k y.copy) cs e)
        → PlacesFit k (put d x v).copy × EachOn (λ y. PlacesFit k y.copy) cs (put d x v)
    by_cell (CopyCell n) v holds end more =
        let here : PlacesFit k (put d (CopyCell n) v).copy =
        subst (PlacesFit k) (holds_only cs (put d (CopyCell n) v) holds) end in
        (here, more (put d (CopyCell n) v) (one_of_holds cs holds) here end)
    by_cell (HoldCell t p) (HoldHas o) later end more =
        (fit, more (put d (HoldCell t p) (HoldHas o)) later fit end)
    by_cell (HoldCell t p) (CopyHas s) later end more =
        (fit, more (put d (HoldCell t p) (CopyHas s)) later fit end)

both_on : (k : Facts) (n : ℕ) (d : Desk) (cs : List Change) → EachOn (λ x. HoldsFit n x.hold) cs d
    → EachOn (λ x. PlacesFit k x.copy) cs d → EachOnIsFit k cs d
both_on k n d [] holds places = tt
both_on k n d (c ∷ cs) holds places =
    (fit_of k n (put d c.cell c.new) holds.0 places.0, both_on k n (put d c.cell c.new) cs holds.1 places.1)

single_on : (k : Facts) (d : Desk) (cs : List Change) → IsSingle cs → IsFit k (after cs d)
    → EachOnIsFit k cs d
single_on k d [] single fit = tt
single_on k d (c ∷ []) single fit = (fit, tt)
single_on k d (c ∷ b ∷ cs) single fit = absurd single

each_on : (k : Facts) (m n : ℕ) (d : Desk) (cs : List Change) → Proper d cs → AreGentle cs → Sound k m d
    → Sound k n (after cs d) → EachOnIsFit k cs d
each_on k m n d cs proper (inl single) sound last =
    single_on k d cs single (fit_of k n (after cs d) last.holds last.places)
each_on k m n d cs proper (inr gentle) sound last =
    both_on k m d cs (holds_on m d cs proper gentle.0 sound.holds)
    (places_on k d cs gentle.1 sound.places last.places)

proper_of : (d : Desk) (cs : List Change) → AreChanges cs
    → ((c : Change) → IsAmong c cs → value d c.cell ≡ c.old) → Proper d cs
proper_of d [] are old = tt
proper_of d (c ∷ cs) are old =
    (old c (inl refl), are.1, are.2, proper_of d cs are.3 (λ x among. old x (inr among)))

-- what an accepted command's changes come to at a sound desk
pub changes_good : (k : Facts) (d : Desk) (n : ℕ) (command : Command) (done : Done) → Sound k n d
    → outcome k d (plan k n command) ≡ Ok done → Good k (n + 1) d done.changes
changes_good k d n command done sound is =
    leads_to k (n + 1) d (plan k n command) (plan_leads k n d command.day command.action sound).all done is

pub changes_proper : (k : Facts) (d : Desk) (n : ℕ) (command : Command) (done : Done) → Sound k n d
    → outcome k d (plan k n command) ≡ Ok done → Proper d done.changes
changes_proper k d n command done sound is =
    proper_of d done.changes (changes_good k d n command done sound is).are
    (λ c among. (each_written k d n command done is c among).1)

pub on_through_fit : (k : Facts) (d : Desk) (n : ℕ) (command : Command) (done : Done) → Sound k n d
    → outcome k d (plan k n command) ≡ Ok done → EachOnIsFit k done.changes d
on_through_fit k d n command done sound is =
    let good : Good k (n + 1) d done.changes = changes_good k d n command done sound is in
    each_on k n (n + 1) d done.changes
    (changes_proper k d n command done sound is) good.gentle sound good.sound

pub sound_after : (k : Facts) (d : Desk) (n : ℕ) (command : Command) (done : Done)
    → Sound k n d → outcome k d (plan k n command) ≡ Ok done
    → AreChanges done.changes × Sound k (n + 1) (after done.changes d)
sound_after k d n command done sound is =
    let good : Good k (n + 1) d done.changes = changes_good k d n command done sound is in
    (good.are, good.sound)
