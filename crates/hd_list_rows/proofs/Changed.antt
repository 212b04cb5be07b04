-- The changes of a command.
use Rattle.std.proofs.Common.{ℕ, ◌≤◌, List, Some, length}
use Rattle.hd_rules.specs.Facts.{Facts}
use Rattle.hd_rules.specs.Laws.{CommandsKeepDesksSound}
use Rattle.hd_rules.specs.Record.{Record}
use Rattle.hd_rules.specs.Run.{before, run}
use Rattle.hd_rules.specs.declared.commands.Survivor.{Survivor}
use Rattle.hd_journal.specs.Stored.{IsRecordOf}

-- they are few
pub few_changes : CommandsKeepDesksSound → (k : Facts) (survivors : List Survivor) (n : ℕ) (r : Record)
    → IsRecordOf k survivors n (Some r) → length r.changes ≤ 4
few_changes law k survivors n r is =
    law.few k (run k (before is.0.number survivors)) is.0.number is.0.command
    (record { changes = r.changes; reply = r.reply }) is.3.done
