use Rattle.std.proofs.Common.{◌≡◌, ◌∙◌, ◌-◌, [], ap, arith, get_or, length, sym}
use Rattle.std.proofs.Math.ListN.{set}
use Rattle.std.proofs.lemmas.List.{length-map, map-set}
use Rattle.hd_holds.specs.HeldListsValue.{HeldListValue, HeldListsValue}
use Rattle.hd_holds.proofs.Listing.{take_listed, read_list, titles_of}
use Rattle.hd_holds.proofs.held_lists.HeldLists.take.Goals as goal

pub returns-clause-each : goal.returns-clause-each
returns-clause-each g c =
    let v = c.args.self.now in
    let lists = c.self.inside.lists.items in
    let at = c.list_number-at.result in
    let new = c.take.new.self in
    let long : length v.lists ≡ length lists =
    ap (λ (h : HeldListsValue). length h.lists) (sym c.self.view_is)
    ∙ length-map lists (λ (l : HeldListValue). l.titles) in
    take_listed v (record { lists = titles_of (set lists at new); room = c.self.inside.room }) c.args.held.now
    at
    c.index_mut.result.now.titles new.titles c.list_number-at.ensures.number c.list_number-at.ensures.within
    (read_list lists at c.index_mut.result.now (omega (arith, long, c.list_number-at.ensures.within))
    c.index_mut.ensures.value
    ∙ ap (λ (h : HeldListsValue). get_or h.lists at []) c.self.view_is)
    (map-set (λ (l : HeldListValue). l.titles) lists at new
    ∙ ap (λ (h : HeldListsValue). set h.lists at new.titles) c.self.view_is)
    c.take.ensures.each
