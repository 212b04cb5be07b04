use Rattle.std.proofs.Common.{◌≡◌, ◌≤◌, ◌+◌, ◌-◌, ◌++◌, ℕ, List, All, Contains, drop, length, take}
use Rattle.hd_replay.specs.Replays.{AllReplayed, IsLegalReplay}
use Rattle.hd_replay.proofs.Lining.{ended}
use Rattle.hd_replay.proofs.sessions.Sessions.answer_lines.Given as goal

-- the lines so far are replayed, and nothing is changed behind them
abbrev pub invariant-loop-end : goal.invariant-loop-end
invariant-loop-end g l = record {
  done : (lines : List (List ℕ)) × (text : List ℕ) × (take l.used l.fn.text ≡ ended 10 lines) × All
      (λ line. Contains line 10 → ⊥) lines
      × AllReplayed l.fn.self l.self lines text × (l.out.items ≡ l.fn.out.items ++ text);
  behind : drop l.used l.text ≡ drop l.used l.fn.text;
  size : length l.text ≡ length l.fn.text;
  within : l.used ≤ length l.text;
  room : l.self.lines ≤ l.fn.self.lines + l.used;
  legal : IsLegalReplay l.fn.self → IsLegalReplay l.self;
}

abbrev pub decreases-loop-end : goal.decreases-loop-end
decreases-loop-end g l = length l.text - l.used
