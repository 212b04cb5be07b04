use Rattle.std.proofs.Common.{◌≡◌, ◌∙◌, ◌+◌, ◌*◌, ◌<◌, ◌^◌, ◌++◌, ◌∷◌, [], List, ap, arith, length}
use Rattle.std.proofs.Common.{length-append, sym, subst}
use Rattle.hd_blocks.specs.Blocks.{AreBlocks, all_items}
use Rattle.hd_blocks.specs.BlockListValue.{BlockListValue}
use Rattle.hd_blocks.proofs.BlockLemmas.{blocks_begun, joined_within, joined-begun, not_last}
use Rattle.hd_blocks.proofs.block_list.BlockList.ready.Given.{Over}
use Rattle.hd_blocks.proofs.block_list.BlockList.ready.Goals.{After-push_reserved}
use Rattle.hd_blocks.proofs.block_list.BlockList.ready.Goals as goal

-- an empty block stands behind the others
begun : (g : Over) (c : After-push_reserved g)
    → c.push_reserved.new.self.items ≡ c.self.inside.blocks.items ++ [] ∷ []
begun g c = c.push_reserved.ensures.items ∙ (λ j. c.reserve.ensures.items j ++ c.in_ok-block.ensures j ∷ [])

-- and the items are the same
same_items : (g : Over) (c : After-push_reserved g)
    → all_items c.push_reserved.new.self.items ≡ all_items c.self.inside.blocks.items
same_items g c = ap all_items (begun g c) ∙ joined-begun c.self.inside.blocks.items

pub invariant_of-self-2 : goal.invariant_of-self-2
invariant_of-self-2 g c =
    let there = (goal.at.invariant_of-self-2 g c).After-push_reserved in
    let fits : c.len-room.result * 1024 + 1024 < 2 ^ 64 =
    not_last _ _ _ c.is_last.ensures c.if-is_last.false in
    subst (λ (bs : List (List g.row.T.Denot)). AreBlocks 1024 c.self.inside.len bs) (sym (begun g there))
    (blocks_begun 1024 c.self.inside.len c.self.inside.blocks.items c.self.invariant
    (omega (arith, c.self.inside.blocks.ok))
    (omega (arith, c.self.inside.blocks.ok)))

pub returns-clause-items : goal.returns-clause-items
returns-clause-items g c =
    let there = (goal.at.returns-clause-items g c).After-push_reserved in
    same_items g there ∙ ap (λ (x : BlockListValue g.row.T.Denot). x.items) c.self.view_is

pub returns-clause-room : goal.returns-clause-room
returns-clause-room g c =
    let there = (goal.at.returns-clause-room g c).After-push_reserved in
    let blocks = c.self.inside.blocks.items in
    let joins : length (all_items c.push_reserved.new.self.items) ≡ length (all_items blocks) =
    ap length (same_items g there) in
    let longer : length c.push_reserved.new.self.items ≡ length blocks + 1 =
    ap length (begun g there) ∙ length-append blocks ([] ∷ []) in
    omega (arith, joined_within 1024 blocks c.self.invariant.filled)

pub returns-clause-number : goal.returns-clause-number
returns-clause-number g c =
    let there = (goal.at.returns-clause-number g c).After-push_reserved in
    let blocks = c.self.inside.blocks.items in
    let joins : length (all_items c.push_reserved.new.self.items) ≡ length (all_items blocks) =
    ap length (same_items g there) in
    omega (arith, joined_within 1024 blocks c.self.invariant.filled, c.self.inside.blocks.ok)
