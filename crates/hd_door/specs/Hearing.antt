-- What is heard of a request.
use Rattle.std.specs.Prelude.{◌≡◌, ◌⊎◌, ◌<◌, ◌≤◌, ◌++◌, ⊤, ℕ, List, [], Option, length}
use Rattle.std.specs.Io.KnownBytes.{Consumes, IsAtEnd}
use Rattle.httparse.specs.Grammar.{HasNoRequest, ReadsRequest, RequestHead}
use Rattle.httparse.specs.Spans.{RequestOverflows}
use Rattle.hd_door.specs.declared.fault.HearFault.{HearFault}
use Rattle.hd_door.specs.declared.fault.HearFault.TheVariants.{Read, Ended, Memory}
use Rattle.hd_door.specs.declared.hearing.RequestText.{RequestText}
use Rattle.hd_door.specs.declared.hearing.RequestText.TheVariants.{Whole, TooLong}

-- a request begins with a whole head, or none of at most 64 fields can come of it
abbrev pub IsSettled : List ℕ → Type 0
IsSettled request =
    ((head : RequestHead) × (rest : List ℕ) × ReadsRequest request head rest) ⊎ RequestOverflows 64 request

-- What was heard by a reader that told these bytes before and after: all that it gave, at most 8,192 bytes.
-- It is a request, or else as many bytes, of which none make a head.
abbrev pub IsHeard : Option (List ℕ) → Option (List ℕ) → RequestText → Type 0
IsHeard before after (Whole request) =
    Consumes before after request.items × (length request.items ≤ 8192) × IsSettled request.items
IsHeard before after TooLong =
    (bytes : List ℕ) × Consumes before after bytes × (length bytes ≡ 8192) × HasNoRequest bytes

-- some bytes come behind others, and all of them are kept, at most 8,192
pub record Comes (before after : Option (List ℕ)) (old new : List ℕ) : Type 0 where
  pub came : List ℕ
  pub taken : Consumes before after came
  pub behind : new ≡ old ++ came
  pub some : 0 < length came
  pub most : length new ≤ 8192

-- Why no more was heard by a reader that told these bytes before and after: a read failed, for this
-- reason; the reader has ended, and gave nothing; or memory is wanting.
abbrev pub IsNoMore : Type 0 → Option (List ℕ) → Option (List ℕ) → HearFault → Type 0
IsNoMore fails before after Read = fails
IsNoMore fails before after Ended = Consumes before after [] × IsAtEnd after
IsNoMore fails before after Memory = ⊤

-- The same of a whole request: where the reader has ended, it gave fewer than 8,192 bytes, of which none
-- make a head.
abbrev pub HasReason : Type 0 → Option (List ℕ) → Option (List ℕ) → HearFault → Type 0
HasReason fails before after Read = fails
HasReason fails before after Ended =
    (bytes : List ℕ) × Consumes before after bytes × IsAtEnd after × (length bytes < 8192)
    × HasNoRequest bytes
HasReason fails before after Memory = ⊤
