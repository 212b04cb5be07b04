use Rattle.std.proofs.Common.{◌∙◌, ◌≤◌, arith}
use Rattle.std.proofs.lemmas.List.Elements.{AllWithin-more_set}
use Rattle.hd_holds.specs.HeldListsValue.{HeldListValue}
use Rattle.hd_holds.proofs.Listing.{room_kept, titles_kept}
use Rattle.hd_holds.proofs.held_lists.make_room.Goals as goal

pub returns-in_err-ready-clause-titles : goal.returns-in_err-ready-clause-titles
returns-in_err-ready-clause-titles g c =
    titles_kept c.loop-at.lists c.loop-at.at c.index-lists-at.result c.ready.new.self c.ready.ensures.titles
    ∙ c.loop-at.invariant.titles

pub returns-in_err-ready-clause-room : goal.returns-in_err-ready-clause-room
returns-in_err-ready-clause-room g c =
    λ n all. room_kept c.loop-at.lists c.loop-at.at c.index-lists-at.result c.ready.new.self (omega arith)
    c.ready.ensures.room n
    (c.loop-at.invariant.room n all)

pub loop-at-preserved : goal.loop-at-preserved
loop-at-preserved g c = record {
  titles =
      titles_kept c.loop-at.lists c.loop-at.at c.index-lists-at.result c.ready.new.self c.ready.ensures.titles
      ∙ c.loop-at.invariant.titles;
  done = AllWithin-more_set c.loop-at.lists c.loop-at.at c.ready.new.self (omega arith)
      (λ (x : HeldListValue). c.args.more ≤ x.room)
      c.loop-at.invariant.done c.in_ok-ready.ensures.ok;
  room = λ n all. room_kept c.loop-at.lists c.loop-at.at c.index-lists-at.result c.ready.new.self
      (omega arith) c.ready.ensures.room n
      (c.loop-at.invariant.room n all);
}
