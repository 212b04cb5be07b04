use Rattle.std.proofs.Common.{◌≡◌, ◌+◌, length, map, take}
use Rattle.hd_turn_store.specs.Rows.{read_cells}
use Rattle.hd_journal_file.specs.Restored.{TakesRows}
use Rattle.hd_journal_file.proofs.restoring.take_piece.Given as goal

-- the rows so far are taken, and counted by the turns
abbrev pub invariant-loop-values : goal.invariant-loop-values
invariant-loop-values g l =
    record {
      number : l.at ≡ l.after + l.values-index;
      count : l.at + length l.initial.journal.turns ≡ l.after + length l.journal.turns;
      rows : TakesRows l.format l.initial.journal l.journal
          (take l.values-index (map read_cells l.values-items));
    }
