-- Runs of numbered commands (§ Numbers, cancellation and dependence).
use Rattle.std.specs.Prelude.{◌≡◌, ◌+◌, ◌≤◌, ◌⊎◌, not, ◌==◌, nat_lt, filter, Result, Ok, Err, List, [], ◌∷◌}
use Rattle.hd_rules.specs.Words.{Refusal, Survivor}
use Rattle.hd_rules.specs.Numbers.{CommandNo}
use Rattle.hd_rules.specs.Facts.{Facts}
use Rattle.hd_rules.specs.Desk.{Desk, after}
use Rattle.hd_rules.specs.Ask.{Done, outcome}
use Rattle.hd_rules.specs.Step.{plan}
pub use Rattle.hd_rules.specs.Changes.{Fits, Elsewhere, AreChanges}

-- one of the list is this
abbrev pub IsAmong : {A : Type 0} → A → List A → Type 0
IsAmong x [] = ⊥
IsAmong x (y ∷ ys) = (x ≡ y) ⊎ IsAmong x ys

-- the desk after a command that ended so; a refused one changes nothing
abbrev pub changed_by : Result Done Refusal → Desk → Desk
changed_by (Ok done) d = after done.changes d
changed_by (Err r) d = d

module _ (k : Facts) where
  -- how the command ends at a desk
  abbrev pub outcome_of : Desk → Survivor → Result Done Refusal
  outcome_of d s = outcome k d (plan k s.number s.command)

  -- the desk after one more command
  abbrev pub step : Desk → Survivor → Desk
  step d s = changed_by (outcome_of d s) d

  -- the desk after these, one after another
  abbrev pub run_from : Desk → List Survivor → Desk
  run_from d [] = d
  run_from d (s ∷ ss) = run_from (step d s) ss

  -- the desk that they lead to from the opening desk
  abbrev pub run : List Survivor → Desk
  run ss = run_from k.opening.desk ss

-- A legal run: its commands are numbered upwards, from n on.
abbrev pub Rising : CommandNo → List Survivor → Type 0
Rising n [] = Unit {0}
Rising n (s ∷ ss) = (n ≤ s.number) × Rising (s.number + 1) ss

-- a number above all of theirs, and at least n
abbrev pub next_number : CommandNo → List Survivor → CommandNo
next_number n [] = n
next_number n (s ∷ ss) = next_number (s.number + 1) ss

-- the survivors with a smaller number
abbrev pub before : CommandNo → List Survivor → List Survivor
before n survivors = filter (λ (s : Survivor). nat_lt s.number n) survivors

-- the survivors without the one of this number
abbrev pub less : CommandNo → List Survivor → List Survivor
less n survivors = filter (λ (s : Survivor). not (s.number == n)) survivors
