-- What was read of an input, and what was replayed of it.
use Rattle.std.proofs.Common.{⊎_elim, ◌≡◌, ◌∙◌, ◌≤◌, ◌<◌, ◌+◌, ◌-◌, min, ℕ, true, false, List, [], ◌∷◌, ◌++◌}
use Rattle.std.proofs.Common.{Option, Result, Ok, Err}
use Rattle.std.proofs.Common.{IsErr, IsErrAnd, IfErr, length, length-append, take, drop, arith, refl, sym, ap}
use Rattle.std.proofs.Common.{subst, append-nil}
use Rattle.std.proofs.KnownBytes.{Appends-nil, Appends-trans, Consumes-kept, Consumes-nil, Consumes-trans}
use Rattle.std.proofs.Math.Seq.{drop-append_seam, take-add, take-append_seam}
use Rattle.std.proofs.lemmas.Bool.{cases_lt, false≢true}
use Rattle.std.proofs.lemmas.List.{length-take-le, take-take, take_all}
use Rattle.std.specs.Io.KnownBytes.{Appends, Consumes, IsAtEnd, Keeps}
use Rattle.hd_replay.specs.declared.fault.ReplayFault.{ReplayFault}
use Rattle.hd_replay.specs.declared.fault.ReplayFault.TheVariants.{BadNow, Catalogue, InputTooLong, Memory}
use Rattle.hd_replay.specs.declared.fault.ReplayFault.TheVariants.{NoSession, Read, Write}
use Rattle.hd_connection.specs.Streams.{Streams}
use Rattle.hd_replay.specs.Ends.{EndsSo, ReadsAndWrites}
use Rattle.hd_replay.specs.Inputs.{AreLines, with_rest}
use Rattle.hd_replay.specs.Replays.{AllReplayed, IsOfLine, IsStop, Progress, Replayed}
use Rattle.hd_replay.proofs.Lining.{are_append, are_none, lines_exist, not_in_nothing}
use Rattle.hd_replay.proofs.Replayed.{all_after, none_replayed, part_of_none, replayed_after}

-- a buffer after a read into the whole of it
pub filled : (n : ℕ) (new old : List ℕ) → n ≡ length new → take n (new ++ drop (length new) old) ≡ new
filled n new old whole = rw (whole, take-append_seam) refl

-- the lesser of two lengths
taken_same : (piece : List ℕ) (count taken room : ℕ) → taken ≡ min count room → count ≤ length piece →
    take room (take count piece) ≡ take taken piece
taken_same piece count taken room is within =
    ⊎_elim
    (λ less. let all : taken ≡ count = omega (arith, is, less) in
    take_all room (take count piece) (rw (length-take-le count piece within) (omega (arith, less)))
    ∙ ap (λ (n : ℕ). take n piece) (sym all))
    (λ more. let all : taken
    ≡ room = omega (arith, is, more) in take-take room count piece (omega (arith, more))
    ∙ ap (λ (n : ℕ). take n piece) (sym all))
    (cases_lt count room)

-- of what was read, what is heard: up to the longest input
pub heard_so : (got piece : List ℕ) (count taken room : ℕ) → length got + room ≡ 16777216 → taken
    ≡ min count room → count ≤ length piece →
    take 16777216 (got ++ take count piece) ≡ got ++ take taken piece
heard_so got piece count taken room whole is within =
    let least : taken ≤ count = omega (arith, is) in
    let fits : take (length got + room) (got ++ take count piece) ≡ got ++ take room (take count piece) =
    take-add (length got) room (got ++ take count piece) ∙ rw (take-append_seam, drop-append_seam) refl in
    let same : take room (take count piece)
    ≡ take taken piece = taken_same piece count taken room is within in
    subst (λ (n : ℕ). take n (got ++ take count piece) ≡ got ++ take taken piece) whole
    (fits ∙ ap (λ (t : List ℕ). got ++ t) same)

-- What has been read so far, and replayed: the whole lines of it, and the beginning of one is left.
pub record ReadSoFar (before now : Progress) (from from' to to' : Option (List ℕ)) (left : List ℕ)
    (room counter : ℕ) : Type 0 where
  pub got : List ℕ
  pub read : Consumes from from' got
  pub lines : List (List ℕ)
  pub are : AreLines 10 got lines left
  pub text : List ℕ
  pub replayed : AllReplayed before now lines text
  pub wrote : Appends to to' text
  pub short : length got + room ≡ 16777216
  pub counted : counter ≤ length got

module _ (before now after : Progress) (from from' from'' to to' to'' : Option (List ℕ)) (left : List ℕ)
    (room counter : ℕ)
    (far : ReadSoFar before now from from' to to' left room counter) where
  abbrev pub streams : Streams
  streams = record { from = from; from' = from''; to = to; to' = to'' }

  -- more is read, in the middle of the input
  pub reads_more : (end : Result (Unit {0}) ReplayFault) (chunk heard rest put : List ℕ)
      (whole : List (List ℕ)) →
      Consumes from' from'' chunk → take 16777216 (far.got ++ chunk) ≡ far.got ++ heard
      → AreLines 10 (left ++ heard) whole rest → EndsSo end (far.got ++ chunk) false
      → Replayed now after whole end put →
      Appends to' to'' put → ReadsAndWrites before after streams end
  reads_more end chunk heard rest put whole more cut behind time replayed wrote = record {
    got = far.got ++ chunk;
    read = Consumes-trans from from' from'' far.got chunk far.read more;
    at_end = false;
    all = λ end. absurd (false≢true end);
    lines = far.lines ++ whole;
    heard = record {
      whole = far.lines ++ whole;
      rest = rest;
      are = rw cut (are_append 10 far.got heard left rest far.lines whole far.are behind);
      lines_are = refl;
    };
    time = time;
    put = far.text ++ put;
    replayed = replayed_after before now after far.lines whole end far.text put far.replayed replayed;
    wrote = Appends-trans to to' to'' far.text put far.wrote wrote;
  }

  -- the end of input is come to
  pub reads_rest : (end : Result (Unit {0}) ReplayFault) (put : List ℕ) → Consumes from' from'' []
      → IsAtEnd from'' → IfErr end IsStop
      → Replayed now after (with_rest [] left) end put → Appends to' to'' put
      → ReadsAndWrites before after streams end
  reads_rest end put more at_end stops replayed wrote = record {
    got = far.got;
    read = subst (λ (t : List ℕ). Consumes from from'' t) (append-nil far.got)
        (Consumes-trans from from' from'' far.got [] far.read more);
    at_end = true;
    all = λ end. at_end;
    lines = far.lines ++ with_rest [] left;
    heard = record {
      whole = far.lines;
      rest = left;
      are = subst (λ (t : List ℕ). AreLines 10 t far.lines left) (sym (take_all 16777216 far.got short))
          far.are;
      lines_are = sym (rest_after_all far.lines left);
    };
    time = in_time end stops;
    put = far.text ++ put;
    replayed = replayed_after before now after far.lines (with_rest [] left) end far.text put far.replayed
        replayed;
    wrote = Appends-trans to to' to'' far.text put far.wrote wrote;
  }
    where
      short : length far.got ≤ 16777216
      short = let room = far.short in omega (arith, room)

      rest_after_all : (lines : List (List ℕ)) (rest : List ℕ) → with_rest lines rest
          ≡ lines ++ with_rest [] rest
      rest_after_all lines [] = sym (append-nil lines)
      rest_after_all lines (byte ∷ rest) = refl

      in_time : (end : Result (Unit {0}) ReplayFault) → IfErr end IsStop → EndsSo end far.got true
      in_time (Ok done) stops = (refl, short)
      in_time (Err (NoSession number)) stops = λ end. short
      in_time (Err Memory) stops = λ end. short
      in_time (Err Write) stops = λ end. short
      in_time (Err Read) stops = absurd stops
      in_time (Err InputTooLong) stops = absurd stops
      in_time (Err (Catalogue bad)) stops = absurd stops
      in_time (Err BadNow) stops = absurd stops

-- what stops the lines has its time
pub time_of_stop : (fault : ReplayFault) (got : List ℕ) → IsStop fault → EndsSo (Err fault) got false
time_of_stop (NoSession number) got stop = λ end. absurd (false≢true end)
time_of_stop Memory got stop = λ end. absurd (false≢true end)
time_of_stop Write got stop = λ end. absurd (false≢true end)
time_of_stop Read got stop = absurd stop
time_of_stop InputTooLong got stop = absurd stop
time_of_stop (Catalogue bad) got stop = absurd stop
time_of_stop BadNow got stop = absurd stop

module _ (before now : Progress) (from from' from'' to to' : Option (List ℕ)) (left : List ℕ)
    (room counter : ℕ)
    (far : ReadSoFar before now from from' to to' left room counter) where
  -- a read failed
  pub reads_failed : Keeps from' from''
      → ReadsAndWrites before now (record { from = from; from' = from''; to = to; to' = to' }) (Err Read)
  reads_failed kept =
      let short : length far.got ≤ 16777216 = let room = far.short in omega (arith, room) in
      record {
        got = far.got;
        read = Consumes-kept from from' from'' far.got far.read kept;
        at_end = false;
        all = λ end. absurd (false≢true end);
        lines = far.lines;
        heard = record {
          whole = far.lines;
          rest = left;
          are = subst (λ (t : List ℕ). AreLines 10 t far.lines left) (sym (take_all 16777216 far.got short))
              far.are;
          lines_are = refl;
        };
        time = (refl, short);
        put = far.text;
        replayed = far.replayed;
        wrote = far.wrote;
      }

  -- there was no memory for what was read
  pub reads_wanting : (chunk heard : List ℕ) → Consumes from' from'' chunk → take 16777216 (far.got ++ chunk)
      ≡ far.got ++ heard
      → ReadsAndWrites before now (record { from = from; from' = from''; to = to; to' = to' }) (Err Memory)
  reads_wanting chunk heard more cut =
      let later = lines_exist 10 (left ++ heard) in
      reads_more before now now from from' from'' to to' to' left room counter far (Err Memory) chunk heard
      later.1 [] later.0 more cut
      later.2 (λ end. absurd (false≢true end)) (part_of_none now later.0) (Appends-nil to')

-- the whole of a piece is heard, and replayed
pub read_further : (before now after : Progress) (from from' from'' to to' to'' : Option (List ℕ))
    (left : List ℕ) (room counter : ℕ)
    (far : ReadSoFar before now from from' to to' left room counter)
    (piece : List ℕ) (count taken : ℕ) (whole : List (List ℕ)) (rest put left' : List ℕ) → count ≤ taken
    → taken ≡ min count room →
    count ≤ length piece → 0 < count → Consumes from' from'' (take count piece)
    → AreLines 10 (left ++ take taken piece) whole rest → AllReplayed now after whole put
    → Appends to' to'' put → left' ≡ rest →
    ReadSoFar before after from from'' to to'' left' (room - taken) (counter + 1)
read_further before now after from from' from'' to to' to'' left room counter far piece count taken whole rest
    put left' all is within some
    more are replayed wrote last =
    let same : taken ≡ count = omega (arith, all, is) in
    let long = length-take-le count piece within in
    let both = length-append far.got (take count piece) in
    let short = far.short in
    let counted = far.counted in
    record {
      got = far.got ++ take count piece;
      read = Consumes-trans from from' from'' far.got (take count piece) far.read more;
      lines = far.lines ++ whole;
      are = rw last (are_append 10 far.got (take count piece) left rest far.lines whole far.are
          (subst (λ (n : ℕ). AreLines 10 (left ++ take n piece) whole rest) same are));
      text = far.text ++ put;
      replayed = all_after before now after far.lines whole far.text put far.replayed replayed;
      wrote = Appends-trans to to' to'' far.text put far.wrote wrote;
      short = omega (arith, same, is, long, both, short);
      counted = omega (arith, long, both, counted, some);
    }

-- the fault that is passed on
pub reads_passed : (before after : Progress) (bytes : Streams) (end : Result (Unit {0}) ReplayFault)
    (fault : ReplayFault) → IsErr end →
    IsErrAnd end (λ f. f ≡ fault) → ReadsAndWrites before after bytes (Err fault)
    → ReadsAndWrites before after bytes end
reads_passed before after bytes (Ok done) fault err same reads = absurd (false≢true err)
reads_passed before after bytes (Err other) fault err same reads =
    subst (λ (f : ReplayFault). ReadsAndWrites before after bytes (Err f)) (sym same) reads

-- nothing has been read
abbrev pub read_none : (p : Progress) (from to : Option (List ℕ))
    → ReadSoFar p p from from to to [] 16777216 0
read_none p from to = record {
  got = [];
  read = Consumes-nil from;
  lines = [];
  are = are_none 10 [] (not_in_nothing 10);
  text = [];
  replayed = none_replayed p;
  wrote = Appends-nil to;
  short = refl;
  counted = omega arith;
}

-- what stops one line stops them all
pub stop_of_line : (fault : ReplayFault) → IsOfLine fault → IsStop fault
stop_of_line (NoSession number) of = tt
stop_of_line Memory of = tt
stop_of_line Write of = absurd of
stop_of_line Read of = absurd of
stop_of_line InputTooLong of = absurd of
stop_of_line (Catalogue bad) of = absurd of
stop_of_line BadNow of = absurd of

pub stop_passed : {X : Type 0} (end : Result X ReplayFault) (fault : ReplayFault)
    → IsErrAnd end (λ f. f ≡ fault) → IsStop fault →
    IfErr end IsStop
stop_passed (Ok done) fault same stop = tt
stop_passed (Err other) fault same stop = subst IsStop (sym same) stop
