-- Runs of lists in parts, and the stamps of their desks.
use Rattle.std.proofs.Common.{◌≡◌, sym, ◌∙◌, ap, subst, ℕ, ◌≤◌, List, [], ◌∷◌, ◌++◌}
use Rattle.hd_rules.specs.declared.commands.Survivor.{Survivor}
use Rattle.hd_rules.specs.Facts.{Facts, first_number}
use Rattle.hd_rules.specs.Desk.{Desk}
use Rattle.hd_rules.specs.Laws.{CommandsKeepDesksSound}
use Rattle.hd_rules.specs.Run.{step, run, next_number}
use Rattle.hd_rules.specs.Sound.{Sound}
use Rattle.hd_journal.specs.SurvivorRun.{IsKnownSurvivor, AllKnownSurvivors, MayRun}
use Rattle.hd_lemmas.proofs.Rules.{later_sound, rising_without, rising_more, run_from_more}

pub run_more : (k : Facts) (xs : List Survivor) (s : Survivor) (d e : Desk) → d ≡ run k xs → e ≡ step k d s
    → e ≡ run k (xs ++ s ∷ [])
run_more k xs s d e is next =
    next ∙ ap (λ (x : Desk). step k x s) is ∙ sym (run_from_more k k.opening.desk xs s)

pub sound_below : CommandsKeepDesksSound → (k : Facts) (xs : List Survivor) (n : ℕ) (d : Desk) → d ≡ run k xs
    → MayRun k xs
    → next_number (first_number k) xs ≤ n → Sound k n d
sound_below law k xs n d is may next =
    subst (Sound k n) (sym is)
    (later_sound k (next_number (first_number k) xs) n (run k xs) next
    (law.runs k xs may.opens.sound may.rising))

-- parts of a list of which each names things of the catalogue
all_first : (k : Facts) (xs ys : List Survivor) → AllKnownSurvivors k (xs ++ ys) → AllKnownSurvivors k xs
all_first k [] ys h = tt
all_first k (x ∷ xs) ys h = (h.0, all_first k xs ys h.1)

all_rest : (k : Facts) (xs ys : List Survivor) → AllKnownSurvivors k (xs ++ ys) → AllKnownSurvivors k ys
all_rest k [] ys h = h
all_rest k (x ∷ xs) ys h = all_rest k xs ys h.1

all_both : (k : Facts) (xs ys : List Survivor) → AllKnownSurvivors k xs → AllKnownSurvivors k ys
    → AllKnownSurvivors k (xs ++ ys)
all_both k [] ys left right = right
all_both k (x ∷ xs) ys left right = (left.0, all_both k xs ys left.1 right)

-- a list that may be run, without the one at a place
pub may_run_without : (k : Facts) (xs : List Survivor) (c : Survivor) (ys : List Survivor)
    → MayRun k (xs ++ c ∷ ys) → MayRun k (xs ++ ys)
may_run_without k xs c ys may = record {
  opens = may.opens;
  rising = rising_without (first_number k) xs c ys may.rising;
  known = all_both k xs ys (all_first k xs (c ∷ ys) may.known) (all_rest k xs (c ∷ ys) may.known).1;
}

-- with one more
pub may_run_last : (k : Facts) (xs : List Survivor) (s : Survivor) → MayRun k xs → IsKnownSurvivor k s
    → next_number (first_number k) xs ≤ s.number
    → MayRun k (xs ++ s ∷ [])
may_run_last k xs s may adds next = record {
  opens = may.opens;
  rising = rising_more (first_number k) xs s may.rising next;
  known = all_both k xs (s ∷ []) may.known (adds, tt);
}
