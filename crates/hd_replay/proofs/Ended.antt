-- How a replay has ended.
use Rattle.std.proofs.Common.{◌≡◌, ◌⊎◌, inl, inr, ℕ, List, Result, Ok, Err, IsErr, IsErrAnd, sym, ap, subst}
use Rattle.std.proofs.lemmas.Bool.{false≢true}
use Rattle.hd_date.specs.Stamps.{Stamp, IsStamp}
use Rattle.hd_catalogue.specs.Contents.{Contents}
use Rattle.hd_catalogue.specs.Files.{IsAccepted, lines_of}
use Rattle.hd_replay.specs.declared.fault.ReplayFault.{ReplayFault}
use Rattle.hd_replay.specs.declared.fault.ReplayFault.TheVariants.{BadNow, Catalogue, InputTooLong, Memory}
use Rattle.hd_replay.specs.declared.fault.ReplayFault.TheVariants.{NoSession, Read, Write}
use Rattle.hd_connection.specs.Streams.{Streams}
use Rattle.hd_exchange.specs.Extensions.{no_extensions}
use Rattle.hd_replay.specs.Ends.{IsReplayOf, IsUntouched, Replay}

-- an end by a fault
abbrev pub by : ReplayFault → Result (Unit {0}) ReplayFault
by fault = Err fault

-- for want of memory
pub for_memory : (end : Result (Unit {0}) ReplayFault) → IsErr end → IsErrAnd end (λ fault. fault ≡ Memory)
    → end ≡ Err Memory
for_memory (Ok done) err memory = absurd (false≢true err)
for_memory (Err fault) err memory = ap by memory

module _ (file present : List ℕ) (k : Contents) (now : Stamp) (bytes : Streams)
    (accepted : IsAccepted (lines_of file) k)
    (stamp : IsStamp present k.settings.offset now) where
  -- a replay is one of its file
  pub replay_of : (end : Result (Unit {0}) ReplayFault)
      → (IsUntouched bytes × (end ≡ Err Memory)) ⊎ Replay k no_extensions now bytes end →
      IsReplayOf file present bytes end
  replay_of end (inl (untouched, memory)) =
      subst (λ (e : Result (Unit {0}) ReplayFault). IsReplayOf file present bytes e) (sym memory)
      (inl untouched)
  replay_of (Ok done) (inr replay) =
      record { k = k; accepted = accepted; now = now; stamp = stamp; replay = replay }
  replay_of (Err (NoSession number)) (inr replay) =
      record { k = k; accepted = accepted; now = now; stamp = stamp; replay = replay }
  replay_of (Err InputTooLong) (inr replay) =
      record { k = k; accepted = accepted; now = now; stamp = stamp; replay = replay }
  replay_of (Err Read) (inr replay) =
      record { k = k; accepted = accepted; now = now; stamp = stamp; replay = replay }
  replay_of (Err Write) (inr replay) =
      record { k = k; accepted = accepted; now = now; stamp = stamp; replay = replay }
  replay_of (Err Memory) (inr replay) =
      inr (record { k = k; accepted = accepted; now = now; stamp = stamp; replay = replay })
  replay_of (Err (Catalogue fault)) (inr replay) = absurd replay.reads.replayed
  replay_of (Err BadNow) (inr replay) = absurd replay.reads.replayed
