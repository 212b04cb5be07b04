-- How a plan ends at a desk: with changes of distinct cells, each from the value that the desk has, to a
-- sound desk.
use Rattle.std.proofs.Common.{◌≡◌, refl, sym, ◌∙◌, ap, subst, ℕ, Bool, true, false, if◌then◌else◌, not, List}
use Rattle.std.proofs.Common.{[], ◌∷◌, Ok}
use Rattle.std.specs.Prelude.{filter, nat_lt}
use Rattle.hd_rules.specs.Words.{Cell, Value, Change, Refusal, Reply, Question}
use Rattle.hd_rules.specs.Facts.{Facts, last_number}
use Rattle.hd_rules.specs.Desk.{Desk, value, same_cell, put, after}
use Rattle.hd_rules.specs.Ask.{Plan, Ask, Refuse, Accept, Done, AnswerTo, answer, outcome}
use Rattle.hd_rules.specs.Step.{accept}
use Rattle.hd_rules.specs.Same.{same_value, real_changes}
use Rattle.hd_rules.specs.Run.{AreChanges, Elsewhere, Fits}
use Rattle.hd_rules.specs.Sound.{Sound}
use Rattle.hd_rules.proofs.Undo.{same_cell_is, same_cell_refl, put_same, put_elsewhere, same_desk}
use Rattle.hd_rules.proofs.Same.{differs}
use Rattle.hd_rules.proofs.Alike.{value_is}
use Rattle.hd_rules.proofs.Gentle.{AreGentle, gentle_filter}
use Rattle.hd_rules.proofs.Tests.{done_is}

-- the changes are right, and lead to a sound desk
pub record Good (k : Facts) (n : ℕ) (d : Desk) (cs : List Change) : Type 0 where
  pub are : AreChanges cs
  pub gentle : AreGentle cs
  pub sound : Sound k n (after cs d)

abbrev pub AllLead : Facts → ℕ → Desk → Plan → Type 0
AllLead k n d (Ask q rest) = AllLead k n d (rest (answer k d q))
AllLead k n d (Refuse r) = Unit {0}
AllLead k n d (Accept done) = Good k n d done.changes

-- as a record, so that antt finds the plan that a lemma speaks of
pub record Leads (k : Facts) (n : ℕ) (d : Desk) (plan : Plan) : Type 0 where
  pub all : AllLead k n d plan

pub asked : {k : Facts} {n : ℕ} {d : Desk} {q : Question} {rest : AnswerTo q → Plan}
    → ((a : AnswerTo q) → answer k d q ≡ a → Leads k n d (rest a)) → Leads k n d (Ask q rest)
asked {k} {n} {d} {q} h = record { all = (h (answer k d q) refl).all }

pub refused : {k : Facts} {n : ℕ} {d : Desk} {r : Refusal} → Leads k n d (Refuse r)
refused = record { all = tt }

pub either : (k : Facts) (n : ℕ) (d : Desk) (b : Bool) (x y : Plan) → (b ≡ true → Leads k n d x)
    → (b ≡ false → Leads k n d y) → Leads k n d (if b then x else y)
either k n d true x y h g = h refl
either k n d false x y h g = g refl

-- the cells are distinct, and each has its old value at the desk
abbrev pub Proper : Desk → List Change → Type 0
Proper d [] = Unit {0}
Proper d (c ∷ cs) = (value d c.cell ≡ c.old) × Fits c.cell c.new × Elsewhere c.cell cs × Proper d cs

elsewhere_filter : (keep_it : Change → Bool) (y : Cell) (cs : List Change) → Elsewhere y cs
    → Elsewhere y (filter keep_it cs)
elsewhere_filter keep_it y [] h = tt
elsewhere_filter keep_it y (c ∷ cs) h = by_test (keep_it c) refl (elsewhere_filter keep_it y cs h.1)
  where
    by_test : (b : Bool) → keep_it c ≡ b → Elsewhere y (filter keep_it cs)
        → Elsewhere y (filter keep_it (c ∷ cs))
    by_test true is rest = rw is (h.0, rest)
    by_test false is rest = rw is rest

-- a cell is apart from another where that one is apart from it
pub apart_sym : (x y : Cell) → same_cell x y ≡ false → same_cell y x ≡ false
apart_sym x y h = by_test (same_cell y x) refl
  where
    by_test : (b : Bool) → same_cell y x ≡ b → b ≡ false
    by_test false is = refl
    by_test true is =
        let one : same_cell x y ≡ true = ap (λ (z : Cell). same_cell x z) (same_cell_is y x is)
        ∙ same_cell_refl x in cc

-- putting what a cell has changes nothing
put_own : (d : Desk) (x : Cell) (v : Value) → Fits x v → value d x ≡ v → put d x v ≡ d
put_own d x v fits has = same_desk (put d x v) d (λ y. by_test y (same_cell x y) refl)
  where
    by_test : (y : Cell) (b : Bool) → same_cell x y ≡ b → value (put d x v) y ≡ value d y
    by_test y true is = put_same d x v y fits is ∙ sym has ∙ ap (value d) (same_cell_is x y is)
    by_test y false is = put_elsewhere d x v y is

pub proper_put : (d : Desk) (x : Cell) (v : Value) (cs : List Change) → Elsewhere x cs → Proper d cs
    → Proper (put d x v) cs
proper_put d x v [] apart proper = tt
proper_put d x v (c ∷ cs) apart proper = (
  put_elsewhere d x v c.cell (apart_sym c.cell x apart.0) ∙ proper.0,
  proper.1,
  proper.2,
  proper_put d x v cs apart.1 proper.3,
)

abbrev is_real : Change → Bool
is_real c = not (same_value c.old c.new)

real_are : (d : Desk) (cs : List Change) → Proper d cs → AreChanges (filter is_real cs)
real_are d [] proper = tt
real_are d (c ∷ cs) proper = by_test (same_value c.old c.new) refl (real_are d cs proper.3)
  where
    by_test : (b : Bool) → same_value c.old c.new ≡ b → AreChanges (filter is_real cs)
        → AreChanges (filter is_real (c ∷ cs))
    by_test true is rest = rw is rest
    by_test false is rest =
        rw is (differs c.old c.new is, proper.1, elsewhere_filter is_real c.cell cs proper.2, rest)

-- leaving out what changes nothing leads to the same desk
after_real : (d : Desk) (cs : List Change) → Proper d cs → after (filter is_real cs) d ≡ after cs d
after_real d [] proper = refl
after_real d (c ∷ cs) proper =
    by_test (same_value c.old c.new) refl (after_real d cs proper.3)
    (after_real (put d c.cell c.new) cs (proper_put d c.cell c.new cs proper.2 proper.3))
  where
    by_test : (b : Bool) → same_value c.old c.new ≡ b → after (filter is_real cs) d ≡ after cs d
        → after (filter is_real cs) (put d c.cell c.new) ≡ after cs (put d c.cell c.new)
        → after (filter is_real (c ∷ cs)) d ≡ after cs (put d c.cell c.new)
    by_test true is left made = rw is
        (left ∙ ap (after cs) (sym (put_own d c.cell c.new proper.1 (proper.0 ∙ value_is c.old c.new is))))
    by_test false is left made = rw is made

real_good : (k : Facts) (n : ℕ) (d : Desk) (cs : List Change) → Proper d cs → AreGentle cs
    → Sound k n (after cs d) → Good k n d (real_changes cs)
unfolding real_changes
real_good k n d cs proper gentle sound = record {
  are = real_are d cs proper;
  gentle = gentle_filter is_real cs gentle;
  sound = subst (λ (e : Desk). Sound k n e) (sym (after_real d cs proper)) sound;
}

pub accepted : (k : Facts) (n m : ℕ) (d : Desk) (cs : List Change) (r : Reply) → Proper d cs → AreGentle cs
    → Sound k m (after cs d) → Leads k m d (accept k n cs r)
accepted k n m d cs r proper gentle sound =
    either k m d (nat_lt (last_number k) n) _ _ (λ is. refused)
    (λ is. record { all = real_good k m d cs proper gentle sound })

pub leads_to : (k : Facts) (n : ℕ) (d : Desk) (plan : Plan) → AllLead k n d plan → (done : Done)
    → outcome k d plan ≡ Ok done → Good k n d done.changes
leads_to k n d (Ask q rest) h done is = leads_to k n d (rest (answer k d q)) h done is
leads_to k n d (Refuse r) h done is = cc
leads_to k n d (Accept a) h done is = subst (λ (x : Done). Good k n d x.changes) (done_is a done is) h
