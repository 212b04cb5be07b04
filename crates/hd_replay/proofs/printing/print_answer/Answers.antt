use Rattle.hd_replay.proofs.Printed.{begins_more, printed_part, prints_after}
use Rattle.hd_replay.proofs.printing.print_answer.Goals as goal

pub returns-in_err-print_replies-clause-printed : goal.returns-in_err-print_replies-clause-printed
returns-in_err-print_replies-clause-printed g c =
    let prints = c.in_err-print_replies.ensures in
    let some = prints.3 in (
      prints.0,
      prints.1,
      prints.2,
      printed_part _ _ _ some.0 _ c.from_residual.ensures.0 (begins_more _ _ some.0 some.1) some.2,
    )

pub returns-in-Some-clause-printed : goal.returns-in-Some-clause-printed
returns-in-Some-clause-printed g c =
    let prints = c.in_ok-print_replies.ensures in (
      prints.0,
      prints.1,
      prints.2,
      rw c.in-Some.is
          (prints_after _ _ _ _ _ _ prints.3 c.print_end.ensures.printed),
    )
