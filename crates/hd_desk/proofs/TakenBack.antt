-- A command's changes, taken back at once.
use Rattle.std.proofs.Common.{◌≡◌, refl, sym, ◌∙◌, ap, subst, ℕ, ◌==◌, ◌&&◌, Bool, true, false, cond, Option}
use Rattle.std.proofs.Common.{List, [], ◌∷◌, Ok, inl, inr}
use Rattle.std.proofs.lemmas.Bool.{and_parts, eqb-true}
use Rattle.hd_rules.specs.declared.holds.Hold.{Hold}
use Rattle.hd_rules.specs.declared.copies.CopyState.{CopyState}
use Rattle.hd_rules.specs.declared.cells.Cell.{Cell}
use Rattle.hd_rules.specs.declared.cells.Cell.TheVariants.{Copy as CopyCell, Hold as HoldCell}
use Rattle.hd_rules.specs.declared.cells.Value.{Value}
use Rattle.hd_rules.specs.declared.cells.Value.TheVariants.{Copy as CopyHas, Hold as HoldHas}
use Rattle.hd_rules.specs.declared.cells.Change.{Change}
use Rattle.hd_rules.specs.declared.commands.Command.{Command}
use Rattle.hd_rules.specs.Facts.{Facts}
use Rattle.hd_rules.specs.Desk.{Desk, after, put, take_back, value}
use Rattle.hd_rules.specs.Ask.{Done, outcome}
use Rattle.hd_rules.specs.Run.{AreChanges, Elsewhere, Fits, IsAmong}
use Rattle.hd_rules.specs.Sound.{EachBackIsFit, EachOnIsFit, IsFit, Sound}
use Rattle.hd_rules.specs.Step.{plan}
use Rattle.hd_inverse.specs.Cells.{AreKnownChanges, CanBeUndone}
use Rattle.hd_desk.specs.Laws.{CommandLaws}
use Rattle.hd_desk.proofs.Writing.{are-apart}
use Rattle.hd_lemmas.proofs.Rules.{apart_sym, copy_inj, hold_inj, put_elsewhere}

-- what a cell had, put there again
copy-again : (d : Desk) (c x : ℕ) (old new : CopyState) → d.copy c ≡ old
    → cond (c == x) old (cond (c == x) new (d.copy x)) ≡ d.copy x
copy-again d c x old new had = by_test (c == x) refl
  where
    by_test : (b : Bool) → (c == x) ≡ b → cond b old (cond b new (d.copy x)) ≡ d.copy x
    by_test true is = sym had ∙ ap d.copy (eqb-true c x is)
    by_test false is = refl

hold-again : (d : Desk) (t u p q : ℕ) (old new : Option Hold) → d.hold t p ≡ old →
    cond ((t == u) && (p == q)) old (cond ((t == u) && (p == q)) new (d.hold u q)) ≡ d.hold u q
hold-again d t u p q old new had = by_test ((t == u) && (p == q)) refl
  where
    by_test : (b : Bool) → ((t == u) && (p == q)) ≡ b → cond b old (cond b new (d.hold u q)) ≡ d.hold u q
    by_test true is =
        let same : ((t == u) ≡ true) × ((p == q) ≡ true) = and_parts (t == u) (p == q) is in
        sym had ∙ (λ i. d.hold (eqb-true t u same.0 i) (eqb-true p q same.1 i))
    by_test false is = refl

put-again : (d : Desk) (x : Cell) (old new : Value) → Fits x new → value d x ≡ old → put (put d x new) x old
    ≡ d
put-again d (CopyCell c) (CopyHas s) (CopyHas r) fits had = λ i. record {
  copy = λ x. copy-again d c x s r (copy_inj (d.copy c) s had) i;
  hold = d.hold;
}
put-again d (CopyCell c) (HoldHas o) (CopyHas r) fits had = cc
put-again d (CopyCell c) v (HoldHas o) fits had = absurd fits
put-again d (HoldCell t p) (HoldHas o) (HoldHas w) fits had = λ i. record {
  copy = d.copy;
  hold = λ u q. hold-again d t u p q o w (hold_inj (d.hold t p) o had) i;
}
put-again d (HoldCell t p) (CopyHas s) (HoldHas w) fits had = cc
put-again d (HoldCell t p) v (CopyHas s) fits had = absurd fits

-- each change begins from what the desk has in its cell
abbrev AreFrom : Desk → List Change → Type 0
AreFrom d [] = Unit {0}
AreFrom d (c ∷ cs) = (value d c.cell ≡ c.old) × AreFrom d cs

are-from : (d : Desk) (cs : List Change) → ((c : Change) → IsAmong c cs → value d c.cell ≡ c.old)
    → AreFrom d cs
are-from d [] old = tt
are-from d (c ∷ cs) old = (old c (inl refl), are-from d cs (λ x among. old x (inr among)))

-- so they do after a change of another cell
from-next : (d : Desk) (x : Cell) (v : Value) (cs : List Change) → Elsewhere x cs → AreFrom d cs
    → AreFrom (put d x v) cs
from-next d x v [] apart from = tt
from-next d x v (c ∷ cs) apart from =
    (put_elsewhere d x v c.cell (apart_sym c.cell x apart.0) ∙ from.0, from-next d x v cs apart.1 from.1)

-- made one after another and taken back, the last one first, they leave the desk as it was
back-where : (d : Desk) (cs : List Change) → AreChanges cs → AreFrom d cs → take_back cs (after cs d) ≡ d
back-where d [] are from = refl
back-where d (c ∷ cs) are from =
    ap (λ (e : Desk). put e c.cell c.old)
    (back-where (put d c.cell c.new) cs are.3 (from-next d c.cell c.new cs are.2 from.1))
    ∙ put-again d c.cell c.old c.new are.1 from.0

-- and on the way back every desk is one of those on the way there
back-fit : (k : Facts) (d : Desk) (cs : List Change) → AreChanges cs → AreFrom d cs → IsFit k d
    → EachOnIsFit k cs d →
    EachBackIsFit k cs (after cs d)
back-fit k d [] are from fit on = tt
back-fit k d (c ∷ cs) are from fit on = (
  back-fit k (put d c.cell c.new) cs are.3 (from-next d c.cell c.new cs are.2 from.1) on.0 on.1,
  subst (IsFit k) (sym (back-where d (c ∷ cs) are from)) fit,
)

-- from the desk that they lead to
pub back-again : CommandLaws → (k : Facts) (d : Desk) (n : ℕ) (command : Command) (done : Done)
    → Sound k n d →
    outcome k d (plan k n command) ≡ Ok done → AreKnownChanges k done.changes
    → CanBeUndone k d (after done.changes d) done.changes
back-again laws k d n command done sound is known =
    let is_fit : IsFit k d =
    record { named = sound.holds.named; stamps = sound.holds.apart; places = sound.places } in
    let are : AreChanges done.changes = (laws.commands.sound k d n command done sound is).0 in
    let from : AreFrom d done.changes =
    are-from d done.changes (λ c among. (laws.answers.written k d n command done is c among).1) in
    record {
      known = known;
      apart = are-apart done.changes are;
      fit = back-fit k d done.changes are from is_fit (laws.commands.fit k d n command done sound is);
      before = back-where d done.changes are from;
    }
