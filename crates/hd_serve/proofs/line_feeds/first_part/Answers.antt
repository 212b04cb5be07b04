use Rattle.std.proofs.Common.{arith, sym}
use Rattle.std.proofs.lemmas.List.{take-append-drop}
use Rattle.hd_serve.proofs.Feeding.{part_of_line}
use Rattle.hd_serve.proofs.line_feeds.first_part.Goals as goal

pub returns-in-Some : goal.returns-in-Some
returns-in-Some c = part_of_line _ _ c.split_at.result.1.now _ _
    (rw (c.split_at.ensures.front, c.split_at.ensures.back)
    (sym (take-append-drop c.min.result c.args.bytes.now)))
    c.in-Some.ensures.found
    (let size = c.split_at.ensures.front_len in let least = c.min.ensures in omega (arith, size, least))
