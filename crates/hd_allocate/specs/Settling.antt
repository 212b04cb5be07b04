-- What settling a copy comes to, and where it is settled.
use Rattle.std.specs.Prelude.{◌≡◌, ◌↔◌, ℕ, ◌<◌, true, Option, None, Some, List, [], ◌∷◌}
use Rattle.std.specs.Ordering.{nat_cmp}
use Rattle.std.specs.FinMap.{FinMap, get}
use Rattle.hd_rules.specs.declared.cells.Change.{Change}
use Rattle.hd_rules.specs.declared.copies.CopyState.{CopyState}
use Rattle.hd_rules.specs.declared.holds.Hold.{Hold}
use Rattle.hd_rules.specs.Facts.{Facts}
use Rattle.hd_rules.specs.Desk.{Desk}
use Rattle.hd_rules.specs.Ask.{Plan, outcome}
use Rattle.hd_rules.specs.Find.{place}
use Rattle.hd_rules.specs.Choose.{stands_at}
use Rattle.hd_rules.specs.Settle.{hold_becomes, settle, tied_to}
use Rattle.hd_allocate.specs.declared.facts.CopyFacts.{CopyFacts}
use Rattle.hd_allocate.specs.declared.settled.Settled.{Settled}
use Rattle.hd_allocate.specs.declared.settled.Allotment.{Allotment}
use Rattle.hd_allocate.specs.Choosing.{IsAt}

-- the places of the branch's hold shelf at the desk, and the copies that stand there
abbrev pub IsShelfOf : Facts → Desk → ℕ → FinMap nat_cmp ℕ → Type 0
IsShelfOf k d b copies =
    (p c : ℕ) → (get copies p ≡ Some c) ↔ ((c < k.copies) × (stands_at b p (d.copy c) ≡ true))

-- the change of the hold that gets the copy, if one does
abbrev pub hold_changes : Facts → ℕ → Option Allotment → List Change
hold_changes k c None = []
hold_changes k c (Some gets) = hold_becomes (k.title_of c) gets.new.patron gets.old (Some gets.new) ∷ []

-- By the rule of settling, the copy goes there at the branch on the day, and this hold gets it: however a
-- command goes on by what settling comes to, so it goes on by this.
abbrev pub Settles : Facts → Desk → CopyFacts → ℕ → ℕ → Settled → Type 0
Settles k d copy b day settled = (rest : CopyState → List Change → Plan)
    → outcome k d (settle k copy.copy b day copy.state (tied_to copy.state) rest)
    ≡ outcome k d (rest settled.state (hold_changes k copy.copy settled.gets))

-- what is at hand where one copy is settled: the holds of its title, and the branch's least free place
pub record AtHand : Type 0 where
  pub holds : List Hold
  pub copy : CopyFacts
  pub branch : ℕ
  pub place : ℕ

-- it is so at the desk
abbrev pub IsSo : Facts → Desk → AtHand → Type 0
IsSo k d hand = IsAt k d hand.holds hand.copy × (place k d hand.branch ≡ hand.place)
