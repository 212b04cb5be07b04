-- Replays that end well.
use Rattle.std.specs.Prelude.{List, ℕ, ◌++◌, Option, Some, Ok}
use Rattle.hd_date.specs.Stamps.{Stamp}
use Rattle.hd_catalogue.specs.Contents.{Contents}
use Rattle.hd_exchange.specs.Extensions.{Extensions}
use Rattle.hd_replay.specs.Ends.{IsReplayOf, Replay}

-- Some replay of this input, over the library of a catalogue file, at a present, ends well and writes this
-- text: the reader gave the input, and the text stands behind what the writer held.
pub record WritesWell (file present input text : List ℕ) : Type 0 where
  pub left : Option (List ℕ)
  pub held : List ℕ
  pub replay : IsReplayOf file present (record {
    from = Some input;
    from' = left;
    to = Some held;
    to' = Some (held ++ text);
  }) (Ok tt)

-- The same over a library, with some extensions.
pub record WritesWellOver (k : Contents) (e : Extensions) (now : Stamp) (input text : List ℕ) : Type 0 where
  pub left : Option (List ℕ)
  pub held : List ℕ
  pub replay : Replay k e now (record {
    from = Some input;
    from' = left;
    to = Some held;
    to' = Some (held ++ text);
  }) (Ok tt)
