use Rattle.std.proofs.Common.{◌≡◌, ◌∙◌, [], ap, arith, get_or, length, sym}
use Rattle.hd_holds.specs.HeldListsValue.{HeldListValue, HeldListsValue}
use Rattle.std.proofs.lemmas.List.{length-map}
use Rattle.hd_holds.proofs.Listing.{of_listed, read_list}
use Rattle.hd_holds.proofs.held_lists.HeldLists.of.Goals as goal

pub returns-clause-each : goal.returns-clause-each
returns-clause-each g c =
    let v = c.args.self.now in
    let lists = c.self.inside.lists.items in
    let at = c.list_number.result in
    let long : length v.lists
    ≡ length lists = ap (λ (h : HeldListsValue). length h.lists) (sym c.self.view_is)
    ∙ length-map lists (λ (l : HeldListValue). l.titles) in
    of_listed v c.args.patron at c.index.result.now.titles c.of.result.now c.list_number.ensures.number
    (read_list lists at c.index.result.now (omega (arith, long, c.list_number.ensures.within)) c.index.ensures
    ∙ ap (λ (h : HeldListsValue). get_or h.lists at []) c.self.view_is) c.of.ensures.each
