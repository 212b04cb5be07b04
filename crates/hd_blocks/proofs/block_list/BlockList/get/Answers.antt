use Rattle.std.proofs.Common.{◌≡◌, ◌<◌, ◌≤◌, ◌/◌, ◌%◌, ◌∙◌, List, None, ap, arith, get_or, length, slice_get}
use Rattle.std.proofs.Common.{sym, subst}
use Rattle.std.proofs.lemmas.Grind.{common_steps}
use Rattle.hd_blocks.specs.Blocks.{all_items}
use Rattle.hd_blocks.proofs.BlockLemmas.{slice_get-joined, slice_get-beyond}
use Rattle.hd_blocks.proofs.block_list.BlockList.get.Goals as goal

pub returns-in_err-block : goal.returns-in_err-block
returns-in_err-block g c =
    let blocks = c.self.inside.blocks.items in
    let number = c.args.place / 1024 in
    let past : length blocks ≤ number =
    subst (λ (bs : List (List g.row.T.Denot)). length bs ≤ number) c.deref.ensures.value
    c.in_err-block.ensures.lookup.3 in
    let none : slice_get (all_items blocks) c.args.place ≡ None =
    slice_get-beyond 1024 number (c.args.place % 1024) c.args.place blocks c.self.invariant.filled past
    (omega arith) in
    rw (← c.self.view_is) (grind (arith, common_steps, none))

pub returns : goal.returns
returns g c =
    let blocks = c.self.inside.blocks.items in
    let number = c.args.place / 1024 in
    let at = c.args.place % 1024 in
    let block = c.in_ok-block.block.now in
    let found : block ≡ get_or blocks number block =
    subst (λ (bs : List (List g.row.T.Denot)). block ≡ get_or bs number block) c.deref.ensures.value
    c.in_ok-block.ensures.lookup.1 in
    let within : number < length blocks =
    subst (λ (bs : List (List g.row.T.Denot)). number < length bs) c.deref.ensures.value
    c.in_ok-block.ensures.lookup.3.0 in
    rw (← c.self.view_is) (c.get-2.ensures ∙ ap (λ (b : List g.row.T.Denot). slice_get b at) found
    ∙ sym (slice_get-joined 1024 number at c.args.place blocks block c.self.invariant.filled
    (omega arith) within (omega arith)))
