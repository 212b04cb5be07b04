use Rattle.std.proofs.Common.{◌≡◌, map, string_bytes}
use Rattle.csv.specs.Records.{fields_of}
use Rattle.hd_import.proofs.UnusedLemmas.{unused_before}
use Rattle.hd_import.proofs.unused.unused_of.Given as goal

-- these are the headings of the places so far that aren't used
abbrev pub invariant-loop-place : goal.invariant-loop-place
invariant-loop-place l =
    map string_bytes l.unused.items ≡ unused_before l.sheet (fields_of l.headings) l.place
