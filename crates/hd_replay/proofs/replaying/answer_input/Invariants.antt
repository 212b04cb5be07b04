use Rattle.std.proofs.Common.{◌≡◌, ◌<◌, [], vec_len}
use Rattle.hd_replay.specs.Replays.{IsLegalReplay}
use Rattle.hd_replay.proofs.Reading.{ReadSoFar}
use Rattle.hd_replay.proofs.replaying.answer_input.Given as goal

-- the whole lines that were read are replayed, and their text is written
abbrev pub invariant-loop : goal.invariant-loop
invariant-loop g l = record {
  far : ReadSoFar l.fn.sessions l.sessions (g.R.Read.remaining l.fn.from) (g.R.Read.remaining l.from)
      (g.W.Write.contents l.fn.to) (g.W.Write.contents l.to) l.input.items l.room l.counter;
  piece : 0 < vec_len l.piece;
  out : l.out.items ≡ [];
  legal : IsLegalReplay l.fn.sessions → IsLegalReplay l.sessions;
}
