-- Where no survivor has a number, nothing is searched.
use Rattle.std.proofs.Common.{refl, sym, subst, ℕ, List, [], ◌∷◌, ◌++◌, None, inl, inr}
use Rattle.hd_rules.specs.declared.commands.Survivor.{Survivor}
use Rattle.hd_rules.specs.Facts.{Facts}
use Rattle.hd_rules.specs.Run.{IsAmong}
use Rattle.hd_meter.specs.Meter.{Counts}
use Rattle.hd_journal.specs.Stored.{IsRecordOf}
use Rattle.hd_journal.specs.Working.{IsDependenceWork}

at_split : (older : List Survivor) (s : Survivor) (newer : List Survivor) → IsAmong s (older ++ s ∷ newer)
at_split [] s newer = inl refl
at_split (x ∷ xs) s newer = inr (at_split xs s newer)

pub nothing_searched : (k : Facts) (survivors : List Survivor) (n : ℕ) (counts : Counts)
    → IsRecordOf k survivors n None → IsDependenceWork k survivors n counts counts
nothing_searched k survivors n counts none = record {
  there = λ at split number. absurd (none at.survivor
      (subst (IsAmong at.survivor) (sym split) (at_split at.older at.survivor at.newer)) number);
  not_there = λ no. refl;
}
