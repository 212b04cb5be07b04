use Rattle.std.proofs.Common.{◌∙◌, [], Err, take, length-append, arith, refl, sym}
use Rattle.std.proofs.KnownBytes.{Consumes-nil}
use Rattle.std.proofs.lemmas.List.{length-take-le}
use Rattle.hd_replay.specs.declared.fault.ReplayFault.TheVariants.{InputTooLong, Memory, Read}
use Rattle.hd_replay.proofs.Lining.{fewer_lines}
use Rattle.hd_replay.proofs.Reading.{filled, heard_so, read_further, read_none, reads_failed, reads_more}
use Rattle.hd_replay.proofs.Reading.{reads_passed, reads_rest}
use Rattle.hd_replay.proofs.Reading.{reads_wanting, time_of_stop}
use Rattle.hd_replay.proofs.replaying.answer_input.Goals as goal

pub returns-in_err-piece-clause-reads : goal.returns-in_err-piece-clause-reads
returns-in_err-piece-clause-reads g c =
    reads_passed _ _ _ _ Memory c.from_residual.ensures.0 c.from_residual.ensures.1
    (reads_wanting _ _ _ _ _ _ _ [] 16777216 0 (read_none _ _ _) [] [] (Consumes-nil _) refl)

pub loop-init : goal.loop-init
loop-init g c = record {
  far = rw c.new-input.ensures.items (read_none _ _ _);
  piece = let size = c.in_ok-piece.ensures in omega (arith, size);
  out = c.new-out.ensures.items;
  legal = λ l. l;
}

pub returns-in_err-count-clause-reads : goal.returns-in_err-count-clause-reads
returns-in_err-count-clause-reads g c =
    reads_passed _ _ _ _ Read c.from_residual-in_err-count.ensures.0 c.from_residual-in_err-count.ensures.1
    (reads_failed _ _ _ _ _ _ _ _ _ _ c.loop.invariant.far c.in_err-count.ensures.read)

pub returns-then-count-eq0-clause-reads : goal.returns-then-count-eq0-clause-reads
returns-then-count-eq0-clause-reads g c =
    let more = c.in_ok-count.ensures.read in
    let none = c.if-count-eq0.true in
    let told = c.answer_rest.ensures.replayed in
    let size = c.read_some.auto.piece ∙ c.as_mut_slice.ensures.len in
    let some = c.loop.invariant.piece in
    reads_rest _ _ _ _ _ _ _ _ _ _ _ _ c.loop.invariant.far c.answer_rest.result told.0 (rw none at more.0)
    (more.1 none (omega (arith, size, some))) c.answer_rest.ensures.stops told.1 told.2

pub answer_rest-requires-clause-lines : goal.answer_rest-requires-clause-lines
answer_rest-requires-clause-lines g c =
    let far = c.loop.invariant.far in
    let first = c.requires in
    let fewer = fewer_lines 10 _ _ far.lines far.are in
    let counted = far.replayed.counted in
    let short = far.short in
    let len = c.loop.input.ok.0 in
    omega (arith, first, fewer, counted, short, len)

pub answer_rest-requires-clause-rest : goal.answer_rest-requires-clause-rest
answer_rest-requires-clause-rest g c = c.loop.invariant.far.are.unended

pub returns-in_err-extend_from_slice-clause-reads : goal.returns-in_err-extend_from_slice-clause-reads
returns-in_err-extend_from_slice-clause-reads g c =
    let far = c.loop.invariant.far in
    let more = c.in_ok-count.ensures.read in
    let cut =
    heard_so far.got c.read_some.new.piece c.in_ok-count.count c.min-taken.result c.loop.room far.short
    c.min-taken.ensures
    c.in_ok-count.ensures.count in
    reads_passed _ _ _ _ Memory c.from_residual-in_err-extend_from_slice.ensures.0
    c.from_residual-in_err-extend_from_slice.ensures.1
    (reads_wanting _ _ _ _ _ _ _ _ _ _ far _ _ more.0 cut)

pub answer_whole-requires-clause-lines : goal.answer_whole-requires-clause-lines
answer_whole-requires-clause-lines g c =
    let far = c.loop.invariant.far in
    let first = c.requires in
    let fewer = fewer_lines 10 _ _ far.lines far.are in
    let counted = far.replayed.counted in
    let short = far.short in
    let size = c.in_ok-extend_from_slice.ensures.len in
    let least = c.min-taken.ensures in
    let len = c.loop.input.ok.0 in
    omega (arith, first, fewer, counted, short, size, least, len)

pub returns-in_err-answer_whole-clause-reads : goal.returns-in_err-answer_whole-clause-reads
returns-in_err-answer_whole-clause-reads g c =
    let far = c.loop.invariant.far in
    let more = c.in_ok-count.ensures.read in
    let cut =
    heard_so far.got c.read_some.new.piece c.in_ok-count.count c.min-taken.result c.loop.room far.short
    c.min-taken.ensures
    c.in_ok-count.ensures.count in
    let told = c.in_err-answer_whole.ensures.replayed in
    let size = c.read_some.auto.piece ∙ c.as_mut_slice.ensures.len in
    let buffer = filled c.loop.piece.len c.read_some.new.piece c.loop.piece.items (sym size) in
    reads_passed _ _ _ _ c.in_err-answer_whole.field-0.0 c.from_residual-in_err-answer_whole.ensures.0
    c.from_residual-in_err-answer_whole.ensures.1
    (reads_more _ _ _ _ _ _ _ _ _ _ _ _ far _ _ _ told.1 told.2 told.0 more.0 cut
    (rw (c.in_ok-extend_from_slice.ensures.items, c.deref.ensures.value, buffer) at told.3)
    (time_of_stop _ _ c.in_err-answer_whole.ensures.stops) told.4 told.5)

pub returns-then-taken-count-clause-reads : goal.returns-then-taken-count-clause-reads
returns-then-taken-count-clause-reads g c =
    let far = c.loop.invariant.far in
    let more = c.in_ok-count.ensures.read in
    let cut =
    heard_so far.got c.read_some.new.piece c.in_ok-count.count c.min-taken.result c.loop.room far.short
    c.min-taken.ensures
    c.in_ok-count.ensures.count in
    let told = c.in_ok-answer_whole.ensures.replayed in
    let size = c.read_some.auto.piece ∙ c.as_mut_slice.ensures.len in
    let buffer = filled c.loop.piece.len c.read_some.new.piece c.loop.piece.items (sym size) in
    let less = c.if-taken-count.true in
    let least = c.min-taken.ensures in
    let short = far.short in
    let read = length-append far.got (take c.in_ok-count.count c.read_some.new.piece) in
    let taken = length-take-le c.in_ok-count.count c.read_some.new.piece c.in_ok-count.ensures.count in
    reads_more _ _ _ _ _ _ _ _ _ _ _ _ far (Err InputTooLong) _ _ told.1 told.2 told.0 more.0 cut
    (rw (c.in_ok-extend_from_slice.ensures.items, c.deref.ensures.value, buffer) at told.3)
    (refl, omega (arith, less, least, short, read, taken)) told.4 told.5

pub loop-preserved : goal.loop-preserved
loop-preserved g c =
    let far = c.loop.invariant.far in
    let more = c.in_ok-count.ensures.read in
    let told = c.in_ok-answer_whole.ensures.replayed in
    let size = c.read_some.auto.piece ∙ c.as_mut_slice.ensures.len in
    let buffer = filled c.loop.piece.len c.read_some.new.piece c.loop.piece.items (sym size) in
    let some = c.if-count-eq0.false in
    let whole = c.if-taken-count.false in
    let full = c.loop.invariant.piece in
    record {
      far = read_further _ _ _ _ _ _ _ _ _ _ _ _ far c.read_some.new.piece c.in_ok-count.count
          c.min-taken.result told.0 told.1 told.2 _
          whole c.min-taken.ensures c.in_ok-count.ensures.count
          (omega (arith, some)) more.0
          (rw (c.in_ok-extend_from_slice.ensures.items, c.deref.ensures.value, buffer) at told.3) told.4
          told.5
          told.6;
      piece = full;
      out = c.in_ok-answer_whole.ensures.out;
      legal = λ l. c.in_ok-answer_whole.ensures.legal (c.loop.invariant.legal l);
    }

pub returns-clause-reads : goal.returns-clause-reads
returns-clause-reads g c =
    let short = c.loop.invariant.far.short in
    let counted = c.loop.invariant.far.counted in
    let past = c.loop-test.false in
    absurd (omega (arith, short, counted, past))
