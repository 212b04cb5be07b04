use Rattle.std.proofs.Common.{◌≡◌, ◌≤◌, List, length, take}
use Rattle.sqlite.specs.State.{HasCleanDisk}
use Rattle.sqlite.specs.Held.{state}
use Rattle.hd_turn_store.specs.Holds.{Holds, OnlyReads}
use Rattle.hd_turn_store.specs.Kept.{KeptTurn, Head}
use Rattle.hd_journal_file.specs.Restored.{HearsUpTo, TakesRows}
use Rattle.hd_journal_file.proofs.restoring.restore_turns.Given as goal

-- some rows are taken, and with a clean disk the first ones, of which there are as many as are counted, which
-- was told
abbrev pub invariant-loop-piece : goal.invariant-loop-piece
invariant-loop-piece g l =
    let old = state g.S.Store l.initial.conn in
    let now = state g.S.Store l.conn in
    record {
      reads : OnlyReads Unit old now;
      took : (rows : List KeptTurn) × TakesRows l.format l.initial.journal l.journal rows;
      rows : HasCleanDisk now → (head : Head) (rows : List KeptTurn) → Holds old head rows
          → TakesRows l.format l.initial.journal l.journal (take l.at rows) × (l.at ≤ length rows);
      many : l._piece ≤ l.at;
      count : l.at ≡ length l.journal.turns;
      told : HearsUpTo g.P.Progress.hears l.at l.initial.progress l.progress;
    }
