use Rattle.std.proofs.Common.{◌∙◌, ◌-◌, arith, drop, length, sym}
use Rattle.std.proofs.lemmas.List.{length-drop, take_all}
use Rattle.hd_replay.proofs.Lining.{ends_first}
use Rattle.hd_replay.proofs.sessions.line_end.Goals as goal

pub returns-clause-found : goal.returns-clause-found
returns-clause-found c =
    let found = c.in_ok-line.ensures.found in
    let left = length-drop c.args.from c.args.text.now in
    let whole = take_all (length c.args.text.now - c.args.from) (drop c.args.from c.args.text.now)
    (omega (arith, left)) in
    ends_first 10 c.args.text.now c.in_ok-line.line.now _ c.args.from c.requires (sym whole ∙ found.0) found.1
