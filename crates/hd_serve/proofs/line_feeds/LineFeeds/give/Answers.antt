use Rattle.hd_serve.proofs.Feeding.{all_given, gives_part}
use Rattle.hd_serve.proofs.line_feeds.LineFeeds.give.Goals as goal

pub returns-clause-gives : goal.returns-clause-gives
returns-clause-gives g c =
    let piece = c.first_part-part.result in
    rw (c.min-taken.ensures, c.len.ensures)
    (all_given _ _ _ _ _ _ _ _ _ c.in_ok-pay.ensures.gives c.in_ok-pay.ensures.ok
    (rw c.is_owed-owes.ensures
    (gives_part piece.is_ended c.args.bytes.now piece.plain.now c.in_ok-given.given _ _
    c.first_part-part.ensures
    (rw (c.as_slice.ensures.value, c.with_line_feed-piece.ensures) at c.in_ok-given.ensures.some.1)
    (rw (c.as_slice.ensures.value, c.with_line_feed-piece.ensures) at c.in_ok-given.ensures.wrote)))
    c.pay-2.ensures.gives)
