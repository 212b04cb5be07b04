use Rattle.std.proofs.Common.{◌≡◌, ◌∷◌, [], rules}
use Rattle.hd_turn_row.specs.Replies.{hold_numbers}
use Rattle.hd_turn_row.proofs.ReplyLemmas.{written_both}
use Rattle.hd_turn_row.proofs.reply.append_done.Goals as goal

pub returns-in_ok-append_hold-in-Held : goal.returns-in_ok-append_hold-in-Held
returns-in_ok-append_hold-in-Held g c =
    let held = c.in-Held in
    let title : c.from-title-in-Held.result ≡ held.title = search rules in
    rw (c.in-Held.is, ← c.truth_number-available.ensures, ← title)
    (written_both (3 ∷ c.args.number ∷ c.from-title-in-Held.result ∷ c.truth_number-available.result
    ∷ held.position ∷ []) (hold_numbers held.hold) c.args.out.now.items c.append-in-Held.new.out.items
    c.append_hold.new.out.items c.in_ok-append-in-Held.ensures c.in_ok-append_hold-in-Held.ensures)
