-- The commands that survive, and their run.
use Rattle.std.specs.Prelude.{◌≡◌, ℕ, ◌+◌, ◌≤◌, Option, None, List, [], ◌∷◌}
use Rattle.hd_rules.specs.declared.commands.Survivor.{Survivor}
use Rattle.hd_rules.specs.Facts.{Facts, first_number}
use Rattle.hd_rules.specs.Desk.{Desk}
use Rattle.hd_rules.specs.Known.{IsKnownAction}
use Rattle.hd_rules.specs.Run.{run, outcome_of, Rising, next_number}
use Rattle.hd_rules.specs.declared.commands.Cancel.{Cancel}
use Rattle.hd_rules.specs.declared.commands.Command.{Command}
use Rattle.hd_rules.specs.declared.replies.TurnReply.{TurnReply}
use Rattle.hd_rules.specs.Searches.{target}
use Rattle.hd_rules.specs.declared.replies.TurnReply.TheVariants.{Item}
use Rattle.hd_rules.specs.declared.turns.Asked.{Asked}
use Rattle.hd_rules.specs.declared.turns.Asked.TheVariants as ask
use Rattle.hd_rules.specs.Turns.{Kept, State, item_view, next_survivor}
use Rattle.hd_rules.specs.Machine.{answered_command, answered_cancel}
use Rattle.hd_catalogue.specs.Contents.{Contents, facts_of}
use Rattle.hd_desk.specs.Desks.{Opens}

-- the survivors and the last number given, over a catalogue
pub record SurvivorRun : Type 0 where
  pub contents : Contents
  pub survivors : List Survivor
  pub last : ℕ

-- the machine's state: the desk is the run of the survivors
abbrev pub state_at : SurvivorRun → (ℕ → Option Kept) → State
state_at r kept = record {
  desk = run (facts_of r.contents) r.survivors;
  survivors = r.survivors;
  last = r.last;
  kept = kept;
}

-- what the survivor names is of the catalogue
abbrev pub IsKnownSurvivor : Facts → Survivor → Type 0
IsKnownSurvivor k s = IsKnownAction k s.command.action

abbrev pub AllKnownSurvivors : Facts → List Survivor → Type 0
AllKnownSurvivors k [] = Unit {0}
AllKnownSurvivors k (s ∷ ss) = IsKnownSurvivor k s × AllKnownSurvivors k ss

-- A list of survivors that may be run, from the opening desk: each names things of the catalogue, and their
-- numbers rise, from the first that a command is given.
pub record MayRun (k : Facts) (survivors : List Survivor) : Type 0 where
  pub opens : Opens k
  pub rising : Rising (first_number k) survivors
  pub known : AllKnownSurvivors k survivors

-- the desk is the survivors' run, and no number is above the last one given
pub record LeadsTo (r : SurvivorRun) (d : Desk) : Type 0 where
  pub desk : d ≡ run (facts_of r.contents) r.survivors
  pub may_run : MayRun (facts_of r.contents) r.survivors
  pub last : next_number (first_number (facts_of r.contents)) r.survivors ≤ r.last + 1

-- the same with nothing kept
abbrev pub state_alone : SurvivorRun → State
state_alone r = state_at r (λ t. None)

-- The terminal's command is answered so, and this is left; whatever is kept beside it stays.
abbrev pub Submitted : SurvivorRun → ℕ → Command → TurnReply → SurvivorRun → Type 0
Submitted r terminal command reply next = (kept : ℕ → Option Kept) →
    answered_command (state_at r kept) (next_survivor (state_at r kept) terminal command)
    (outcome_of (facts_of r.contents) (run (facts_of r.contents) r.survivors)
    (next_survivor (state_at r kept) terminal command))
    ≡ record { reply = reply; state = state_at next kept }

-- The terminal's cancellation is answered so, and this is left.
abbrev pub Withdrawn : SurvivorRun → ℕ → Cancel → TurnReply → SurvivorRun → Type 0
Withdrawn r terminal what reply next = (kept : ℕ → Option Kept) →
    answered_cancel (facts_of r.contents) (state_at r kept) (target terminal what r.survivors)
    ≡ record { reply = reply; state = state_at next kept }

-- What a terminal asks that is no repeat is answered so, and this is left.
abbrev pub IsCarriedOut : SurvivorRun → ℕ → Asked → TurnReply → SurvivorRun → Type 0
IsCarriedOut r terminal (ask.Command command) reply next = Submitted r terminal command reply next
IsCarriedOut r terminal (ask.Cancel what) reply next = Withdrawn r terminal what reply next
IsCarriedOut r terminal (ask.Item copy) reply next =
    (reply ≡ Item (item_view (facts_of r.contents) (run (facts_of r.contents) r.survivors) copy)) × (next ≡ r)
