use Rattle.std.proofs.Common.{◌∙◌, ◌++◌, ◌∷◌, [], drop, flat_map, append_assoc}
use Rattle.hd_replay.specs.Printing.{printed_line}
use Rattle.hd_replay.proofs.Lining.{all_done, are_from, line_done, line_first, lines_exist}
use Rattle.hd_replay.proofs.Printed.{line_printed, line_within, printed_part}
use Rattle.hd_replay.proofs.printing.print_replies.Goals as goal

pub loop-reply-preserved : goal.loop-reply-preserved
loop-reply-preserved g c =
    let done = c.loop-reply.invariant in
    let found = c.in-Some.ensures.found in (
      done.0 ++ c.in-Some.reply.text.now ∷ [],
      rw c.split_at.ensures.back (line_done 13 _ _ _ _ done.0 done.1 found.split),
      all_done 13 _ done.0 done.2 found.no_return,
      line_printed _ _ _ _ _ done.0 done.3 c.in_ok-print_line.ensures,
    )

pub returns-in_err-print_line : goal.returns-in_err-print_line
returns-in_err-print_line g c =
    let done = c.loop-reply.invariant in
    let found = c.in-Some.ensures.found in
    let later = lines_exist 13 (drop c.in-Some.reply.used c.loop-reply.rest.now) in
    let rest = line_first 13 c.loop-reply.rest.now c.in-Some.reply.text.now _ later.1 later.0 found.split
    found.no_return later.2 in
    let some = c.in_err-print_line.ensures in (
      done.0 ++ c.in-Some.reply.text.now ∷ later.0,
      later.1,
      are_from 13 _ _ _ done.0 (c.in-Some.reply.text.now ∷ later.0) done.1 done.2 rest,
      printed_part _ _ _ (flat_map (printed_line c.args.session) done.0 ++ some.0) _ c.from_residual.ensures.0
          (line_within c.args.session done.0 later.0 _ some.0 some.1)
          (some.2 ∙ rw done.3 (append_assoc _ _ some.0)),
    )
