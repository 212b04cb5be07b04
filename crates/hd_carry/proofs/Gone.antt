-- Where the old holds have gone so far.
use Rattle.std.proofs.Common.{◌≡◌, refl, subst, ℕ, Option, Some, None}
use Rattle.hd_rules.specs.declared.holds.Hold.{Hold}
use Rattle.hd_rules.specs.Desk.{Desk}
use Rattle.hd_rules.specs.Carry.{Renumbering, IsSameCopy, IsSameHold}
use Rattle.hd_rules.specs.Settle.{with_copy}
use Rattle.hd_carry.proofs.Numbers.{copy_below}

-- a hold, with its copy where that has a number below n
abbrev pub hold_below : ℕ → Hold → Hold
hold_below n g = with_copy (copy_below n g.copy) g

-- an old hold that a hold of the new desk is
pub record Came (r : Renumbering) (d : Desk) (Told : ℕ → ℕ → Type 0) (n u q : ℕ) (h : Hold) : Type 0 where
  pub title : ℕ
  pub patron : ℕ
  pub hold : Hold
  pub told : Told title patron
  pub is : d.hold title patron ≡ Some hold
  pub same_title : r.title title ≡ Some u
  pub same_patron : r.patron patron ≡ Some q
  pub same : IsSameHold r (hold_below n hold) h

-- a hold of the new desk that an old hold is
pub record Went (r : Renumbering) (e : Desk) (n t p : ℕ) (g : Hold) : Type 0 where
  pub title : ℕ
  pub patron : ℕ
  pub hold : Hold
  pub same_title : r.title t ≡ Some title
  pub same_patron : r.patron p ≡ Some patron
  pub is : e.hold title patron ≡ Some hold
  pub same : IsSameHold r (hold_below n g) hold

-- the holds that were told so far are there, and no others
pub record Gone (r : Renumbering) (d : Desk) (Told : ℕ → ℕ → Type 0) (n : ℕ) (e : Desk) : Type 0 where
  pub from : (u q : ℕ) (h : Hold) → e.hold u q ≡ Some h → Came r d Told n u q h
  pub to : (t p : ℕ) (g : Hold) → Told t p → d.hold t p ≡ Some g → Went r e n t p g

-- the same, where others words tell which
pub retold : (r : Renumbering) (d : Desk) (A B : ℕ → ℕ → Type 0) (n : ℕ) (e : Desk)
    → ((t p : ℕ) (g : Hold) → d.hold t p ≡ Some g → A t p → B t p)
    → ((t p : ℕ) (g : Hold) → d.hold t p ≡ Some g → B t p → A t p) → Gone r d A n e → Gone r d B n e
retold r d A B n e on back gone = record {
  from = λ u q h is.
      let came : Came r d A n u q h = gone.from u q h is in
      record {
        title = came.title;
        patron = came.patron;
        hold = came.hold;
        told = on came.title came.patron came.hold came.is came.told;
        is = came.is;
        same_title = came.same_title;
        same_patron = came.same_patron;
        same = came.same;
      };
  to = λ t p g told is. gone.to t p g (back t p g is told) is;
}

-- a copy that an old one is, or none
pub copy_as : (r : Renumbering) (o m n : Option ℕ) → o ≡ m → IsSameCopy r o n → IsSameCopy r m n
copy_as r o m n e same = subst (λ (x : Option ℕ). IsSameCopy r x n) e same

-- a hold is the same where its copy is
pub same_with : (r : Renumbering) (g h : Hold) (a b : Option ℕ) → a ≡ b → IsSameHold r (with_copy a g) h
    → IsSameHold r (with_copy b g) h
same_with r g h a b e same = subst (λ (x : Option ℕ). IsSameHold r (with_copy x g) h) e same

pub no_copy : (r : Renumbering) (o : Option ℕ) → IsSameCopy r None o → o ≡ None
no_copy r None same = refl
no_copy r (Some c) same = absurd same
