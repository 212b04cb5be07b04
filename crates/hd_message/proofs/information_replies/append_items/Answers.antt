use Rattle.std.proofs.Common.{◌≤◌, ℕ, List, [], Bor, arith, ap, get_or, length, take}
use Rattle.std.specs.List.{flat_map}
use Rattle.std.proofs.lemmas.Grind.{common_steps}
use Rattle.std.proofs.lemmas.List.{length-append}
use Rattle.hd_message.proofs.CutLemmas.{kept_within}
use Rattle.hd_message.specs.PatronReplies.{item_field}
use Rattle.hd_message.proofs.information_replies.append_items.Goals as goal

-- the item that found no room lies within the whole text
pub returns-in-Err-clause-full : goal.returns-in-Err-clause-full
returns-in-Err-clause-full g c =
    let names = c.args.names.now in
    let at = c.loop-name.name-index in
    let none : Bor (List ℕ) = record { ref_ptr = (0, 0); now = [] } in
    let fits : length (item_field c.args.code (get_or names at none)) ≤ c.loop-name.left =
    grind (arith, common_steps) in
    let within = kept_within c.args.code c.args.room c.loop-name.left at names none c.loop-name-test.true fits
    c.loop-name.invariant.count in
    let text = ap length c.loop-name.invariant.text in
    omega (
      arith,
      within,
      text,
      c.in-Err.ensures.full,
      c.loop-name.invariant.room,
      length-append c.args.out.now.items (flat_map (item_field c.args.code) (take at names)),
    )
