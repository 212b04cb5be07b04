use Rattle.std.proofs.Common.{◌≡◌, ◌<◌, ◌+◌, ◌/◌, ◌∙◌, ◌++◌, ◌∷◌, [], List, ap, arith, get_or, length, set}
use Rattle.std.proofs.Common.{subst, sym}
use Rattle.hd_blocks.specs.Blocks.{AreBlocks, all_items}
use Rattle.hd_blocks.specs.BlockListValue.{BlockListValue}
use Rattle.hd_blocks.proofs.BlockLemmas.{IsBehind, behind_room, blocks_pushed, joined-pushed}
use Rattle.hd_blocks.proofs.block_list.BlockList.push.Given.{Over}
use Rattle.hd_blocks.proofs.block_list.BlockList.push.Goals.{After-index_mut, After-push}
use Rattle.hd_blocks.proofs.block_list.BlockList.push.Goals as goal

-- the block of the number is that of the place behind the last item, and has room
behind : (g : Over) (c : After-index_mut g)
    → IsBehind 1024 (c.self.inside.len / 1024) c.self.inside.blocks.items
behind g c = record {
  filled = c.self.invariant.filled;
  from = omega (arith, c.self.invariant.counted);
  below = omega (arith, c.self.invariant.counted);
  room =
      subst (λ (x : BlockListValue g.row.T.Denot). length x.items < x.room) (sym c.self.view_is) c.requires;
}

-- the item stands behind the others of that block
pushed : (g : Over) (c : After-push g) → c.push.new.self
    ≡ get_or c.self.inside.blocks.items (c.self.inside.len / 1024) c.index_mut.result.now ++ c.args.item ∷ []
pushed g c =
    c.push.ensures ∙ ap (λ (xs : List g.row.T.Denot). xs ++ c.args.item ∷ []) c.index_mut.ensures.value

pub push-requires : goal.push-requires
push-requires g c =
    let there = (goal.at.push-requires g c).After-index_mut in
    subst (λ (xs : List g.row.T.Denot). length xs < 1024) (sym c.index_mut.ensures.value)
    (behind_room 1024 (c.self.inside.len / 1024) c.self.inside.blocks.items c.index_mut.result.now
    (behind g there))

pub invariant_of-self : goal.invariant_of-self
invariant_of-self g c =
    let there = goal.at.invariant_of-self g c in
    let number = c.self.inside.len / 1024 in
    let blocks = c.self.inside.blocks.items in
    subst (λ (xs : List g.row.T.Denot). AreBlocks 1024 (c.self.inside.len + 1) (set blocks number xs))
    (sym (pushed g there.After-push))
    (blocks_pushed 1024 c.self.inside.len number blocks c.index_mut.result.now c.args.item c.self.invariant
    (behind g there.After-index_mut))

pub returns-clause-items : goal.returns-clause-items
returns-clause-items g c =
    let there = goal.at.returns-clause-items g c in
    let number = c.self.inside.len / 1024 in
    let blocks = c.self.inside.blocks.items in
    subst (λ (xs : List g.row.T.Denot). all_items (set blocks number xs)
    ≡ c.args.self.now.items ++ c.args.item ∷ []) (sym (pushed g there.After-push))
    (joined-pushed 1024 number blocks c.index_mut.result.now c.args.item (behind g there.After-index_mut)
    ∙ ap (λ (x : BlockListValue g.row.T.Denot). x.items ++ c.args.item ∷ []) c.self.view_is)
