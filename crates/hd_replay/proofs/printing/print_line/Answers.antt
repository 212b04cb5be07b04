use Rattle.std.proofs.Common.{◌∙◌, refl}
use Rattle.hd_replay.proofs.Printed.{line_begins, printed_part}
use Rattle.hd_replay.proofs.printing.print_line.Goals as goal

pub returns-in_err-extend_from_slice : goal.returns-in_err-extend_from_slice
returns-in_err-extend_from_slice g c =
    printed_part _ _ _ _ _ c.from_residual.ensures.0
    (line_begins c.args.session c.as_bytes-number.result _ _ _ c.loop-part.part-index
    (c.as_bytes-number.ensures.value
    ∙ c.format.ensures.text) refl refl) (c.in_err-extend_from_slice.ensures.items ∙ c.loop-part.invariant)
