-- How the target of a cancellation is found (TheTargetIsTheNewest), and the first later command that
-- depends on it (TheFirstDependentIsTheLeast).
use Rattle.std.specs.Prelude.{Bool, true, false, if◌then◌else◌, Option, Some, None, List, [], ◌∷◌}
use Rattle.hd_rules.specs.Words.{Cancel, Survivor}
use Rattle.hd_rules.specs.Numbers.{TerminalNo, CommandNo}
use Rattle.hd_rules.specs.Facts.{Facts}
use Rattle.hd_rules.specs.Desk.{Desk}
use Rattle.hd_rules.specs.Ask.{Plan, Ask, answer}
use Rattle.hd_rules.specs.Notes.{told_answer}
use Rattle.hd_rules.specs.Same.{same_answer}
use Rattle.hd_rules.specs.Step.{plan}
use Rattle.hd_rules.specs.Run.{step, run, before, less}
use Rattle.hd_rules.specs.Target.{Split, is_target}

module _ (terminal : TerminalNo) (what : Cancel) where
  -- the target among these later ones, or else the survivor before them
  abbrev pub newest_of : Survivor → List Survivor → Option Split → Option Split
  newest_of s ss (Some at) =
      Some (record { older = s ∷ at.older; survivor = at.survivor; newer = at.newer })
  newest_of s ss None =
      if is_target terminal what s then Some (record { older = []; survivor = s; newer = ss }) else None

  -- the newest target, if there is one
  abbrev pub target : List Survivor → Option Split
  target [] = None
  target (s ∷ ss) = newest_of s ss (target ss)

-- some question that the plan asks at one desk has another answer at the other
abbrev pub answered_otherwise : Facts → Desk → Desk → Plan → Bool
answered_otherwise k d e (Ask q rest) =
    if same_answer (told_answer k d q) (told_answer k e q)
    then answered_otherwise k d e (rest (answer k d q))
    else true
answered_otherwise k d e _ = false

module _ (k : Facts) (survivors : List Survivor) (c : Survivor) where
  -- d depends on c
  abbrev pub depends : Survivor → Bool
  depends d =
      answered_otherwise k (run k (before d.number survivors))
      (run k (less c.number (before d.number survivors))) (plan k d.number d.command)

  -- the number of the first of these that depends on it
  abbrev pub first_dependent : List Survivor → Option CommandNo
  first_dependent [] = None
  first_dependent (d ∷ ds) = if depends d then Some d.number else first_dependent ds

-- The same by one walk from the two desks on: that with c, and that without it.
abbrev pub first_otherwise : Facts → Desk → Desk → List Survivor → Option CommandNo
first_otherwise k with_it without [] = None
first_otherwise k with_it without (s ∷ ss) =
    if answered_otherwise k with_it without (plan k s.number s.command) then Some s.number
    else first_otherwise k (step k with_it s) (step k without s) ss
