use Rattle.std.proofs.Common.{◌≡◌, ◌-◌, ◌≤◌, None, take, drop}
use Rattle.hd_list_rows.specs.Rows.{turn_rows}
use Rattle.hd_list_rows.proofs.turns.show_turns.Given as goal

-- those up to here
abbrev pub invariant-loop-place : goal.invariant-loop-place
invariant-loop-place g l =
    (l.page ≡ record {
      rows = take (l.place - l.after) (drop l.after (turn_rows 1 l.journal.turns));
      next = None;
    })
    × (l.after ≤ l.place)
