-- The titles of which patrons have holds, as lists.
use Rattle.std.specs.Prelude.{◌≡◌, ◌↔◌, ℕ, ◌==◌, nat_lt, if◌then◌else◌, Bool, true, false, List, []}
use Rattle.std.specs.Prelude.{◌∷◌, Option, None, Some}
use Rattle.std.specs.List.{AllByRecursion, Contains}
use Rattle.hd_rules.specs.declared.holds.Hold.{Hold}
use Rattle.hd_holds.specs.declared.held_title.HeldTitle.{HeldTitle}

-- stands before it: the lower patron does, then the lower stamp, then the lower title
abbrev pub is_before : HeldTitle → HeldTitle → Bool
is_before a b =
    if a.patron == b.patron
    then (if a.stamp == b.stamp then nat_lt a.title b.title else nat_lt a.stamp b.stamp)
    else nat_lt a.patron b.patron

-- stands before each of them
abbrev pub IsBeforeAll : HeldTitle → List HeldTitle → Type 0
IsBeforeAll held others = AllByRecursion (λ other. is_before held other ≡ true) others

-- each stands before all later ones
abbrev pub IsRising : List HeldTitle → Type 0
IsRising [] = Unit {0}
IsRising (held ∷ others) = IsBeforeAll held others × IsRising others

-- where it begins a list, or, where it doesn't, stands before all of it
abbrev pub BeginsWith : Bool → HeldTitle → List HeldTitle → Type 0
BeginsWith true held titles = (others : List HeldTitle) × (titles ≡ held ∷ others)
BeginsWith false held titles = IsBeforeAll held titles

-- the title with the hold's patron and stamp
abbrev pub held_title : ℕ → Hold → HeldTitle
held_title title hold = record { patron = hold.patron; stamp = hold.stamp; title = title }

-- it is that of the hold, if there is one
abbrev pub IsOf : ℕ → Option Hold → HeldTitle → Type 0
IsOf title None held = ⊥
IsOf title (Some hold) held = held ≡ held_title title hold

-- the patron has a hold of the title, and it has this stamp
abbrev pub IsHeld : (ℕ → ℕ → Option Hold) → HeldTitle → Type 0
IsHeld holds held =
    (hold : Hold) × (holds held.title held.patron ≡ Some hold) × (hold.stamp ≡ held.stamp)

-- The titles of which the patron has a hold, by rising stamp, equal stamps by title number, each once.
pub record AreHeldBy (holds : ℕ → ℕ → Option Hold) (patron : ℕ) (titles : List HeldTitle) : Type 0 where
  pub each : (held : HeldTitle) → Contains titles held ↔ ((held.patron ≡ patron) × IsHeld holds held)
  pub rising : IsRising titles
