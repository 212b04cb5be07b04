use Rattle.std.proofs.Common.{[], ◌∷◌, get_or, rules, take}
use Rattle.std.proofs.lemmas.List.{take_more}
use Rattle.hd_turn_row.proofs.ReplyLemmas.{written_both}
use Rattle.hd_turn_row.proofs.written.append.Goals as goal

pub loop-number-preserved : goal.loop-number-preserved
loop-number-preserved g c =
    let numbers = c.args.numbers.now in
    let at = c.loop-number.number-index in
    let more = take_more numbers at 0 c.loop-number-test.true in
    rw more (written_both (take at numbers) (get_or numbers at 0 ∷ []) c.args.out.now.items
    c.loop-number.out.items c.extend_from_slice.new.self.items c.loop-number.invariant (
      search (rules, c.type_inv.numbers),
      search rules,
    ))
