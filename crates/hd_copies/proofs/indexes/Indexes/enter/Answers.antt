use Rattle.std.proofs.Common.{◌≡◌, ◌∙◌, None, Some, get_or, sym, ap, arith}
use Rattle.std.specs.List.{slice_get}
use Rattle.std.specs.FinMap.{get, insert}
use Rattle.hd_rules.specs.declared.copies.CopyState.TheVariants.{Shelf, OnLoan, OnHoldShelf, InTransit}
use Rattle.hd_rules.specs.Known.{IsKnownState}
use Rattle.hd_shelf.specs.PlacesValue.{PlacesValue}
use Rattle.hd_open_shelf.specs.Counts.{HasOneCopyMore}
use Rattle.hd_catalogue.specs.Contents.{facts_of}
use Rattle.hd_copies.specs.Indexing.{IsIndexed, all_but, copy_at, no_shelf}
use Rattle.hd_copies.proofs.Moving.{but_here, comes, known_at, read_at}
use Rattle.hd_copies.proofs.Indexed.{few_of_home, few_of_title, free_for, loan-in, nowhere_on, place-in}
use Rattle.hd_copies.proofs.Indexed.{rooms-same, shelf-in, shelf_at}
use Rattle.hd_copies.proofs.Indexed.{transit-in}
use Rattle.hd_copies.proofs.indexes.Indexes.enter.Given.{Over}
use Rattle.hd_copies.proofs.indexes.Indexes.enter.Goals.{After-index_mut}
use Rattle.hd_copies.proofs.indexes.Indexes.enter.Goals as goal

-- where a hold shelf is entered: the copy's place, what it names, and the shelf that is read
stands : (g : Over) (c : After-index_mut g)
    → slice_get c.args.states.now c.args.copy ≡ Some (OnHoldShelf c.in-OnHoldShelf.there)
stands g c =
    read_at (facts_of c.args.catalogue.now) c.args.states.now c.number.result c.args.copy _ _
    c.requires.states c.requires.copy
    c.number.ensures.value c.in-OnHoldShelf.is

is_known : (g : Over) (c : After-index_mut g)
    → IsKnownState (facts_of c.args.catalogue.now) (OnHoldShelf c.in-OnHoldShelf.there)
is_known g c = known_at (facts_of c.args.catalogue.now) c.args.states.now c.args.copy _ c.requires.states
    c.requires.copy (stands g c)

is_shelf : (g : Over) (c : After-index_mut g) →
    c.index_mut.result.now ≡ get_or c.self.inside.shelves.items c.in-OnHoldShelf.there.branch no_shelf
is_shelf g c =
    let old : IsIndexed (facts_of c.args.catalogue.now)
    (all_but c.args.copy (slice_get c.args.states.now)) _ =
    rw (← c.self.view_is) at c.requires.indexed in
    shelf_at c.self.inside.shelves.items c.number-in-OnHoldShelf.result c.in-OnHoldShelf.there.branch
    c.index_mut.result.now
    c.number-in-OnHoldShelf.ensures.value
    (let known = is_known g c in omega (arith, known.0, old.shelves.branches_in))
    c.index_mut.ensures.value

pub put-requires-clause-copies : goal.put-requires-clause-copies
put-requires-clause-copies g c =
    let k = facts_of c.args.catalogue.now in
    let f = slice_get c.args.states.now in
    let but = all_but c.args.copy f in
    let old : IsIndexed k but _ = rw (← c.self.view_is) at c.requires.indexed in
    rw c.title_of.ensures.title
    (few_of_title k but but c.args.copy _ old (but_here f c.args.copy) c.requires.copy
    c.title_of.ensures.facts.copies)

pub put-requires-clause-copies_of_home : goal.put-requires-clause-copies_of_home
put-requires-clause-copies_of_home g c =
    let k = facts_of c.args.catalogue.now in
    let f = slice_get c.args.states.now in
    let but = all_but c.args.copy f in
    let old : IsIndexed k but _ = rw (← c.self.view_is) at c.requires.indexed in
    rw (c.title_of.ensures.title, c.home.ensures.branch)
    (few_of_home k but but c.args.copy _ old
    (but_here f c.args.copy) c.requires.copy c.title_of.ensures.facts.copies)

pub returns-in-Shelf-clause-indexed : goal.returns-in-Shelf-clause-indexed
returns-in-Shelf-clause-indexed g c =
    let k = facts_of c.args.catalogue.now in
    let f = slice_get c.args.states.now in
    let old : IsIndexed k (all_but c.args.copy f) _ = rw (← c.self.view_is) at c.requires.indexed in
    let at : f c.args.copy ≡ Some (Shelf c.in-Shelf.field-0) =
    read_at k c.args.states.now c.number.result c.args.copy _ _ c.requires.states c.requires.copy
    c.number.ensures.value c.in-Shelf.is
    in
    let more : HasOneCopyMore c.put.new.self c.self.inside.stock (k.title_of c.args.copy)
    (k.home c.args.copy) =
    rw (← c.title_of.ensures.title, ← c.home.ensures.branch) c.put.ensures.one_more in
    shelf-in k (all_but c.args.copy f) f c.args.copy _ old c.in-Shelf.field-0 c.put.new.self
    (comes f c.args.copy _ at) c.requires.copy more
    c.put.ensures.entries

pub returns-in-OnLoan-clause-indexed : goal.returns-in-OnLoan-clause-indexed
returns-in-OnLoan-clause-indexed g c =
    let k = facts_of c.args.catalogue.now in
    let f = slice_get c.args.states.now in
    let old : IsIndexed k (all_but c.args.copy f) _ = rw (← c.self.view_is) at c.requires.indexed in
    let at : f c.args.copy ≡ Some (OnLoan c.in-OnLoan.loan) =
    read_at k c.args.states.now c.number.result c.args.copy _ _ c.requires.states c.requires.copy
    c.number.ensures.value c.in-OnLoan.is
    in
    loan-in k (all_but c.args.copy f) f c.args.copy _ old c.in-OnLoan.loan c.lend.new.self
    (comes f c.args.copy _ at) c.lend.ensures.loans
    c.lend.ensures.copies c.lend.ensures.patrons

pub put-requires-in-OnHoldShelf-clause-free : goal.put-requires-in-OnHoldShelf-clause-free
put-requires-in-OnHoldShelf-clause-free g c =
    let k = facts_of c.args.catalogue.now in
    let w = c.in-OnHoldShelf.there in
    let shelves = c.self.inside.shelves.items in
    let there = (goal.at.put-requires-in-OnHoldShelf-clause-free g c).After-index_mut in
    let old : IsIndexed k (all_but c.args.copy (slice_get c.args.states.now)) _ =
    rw (← c.self.view_is) at c.requires.indexed in
    ap (λ (s : PlacesValue). get s.copies w.place) (is_shelf g there)
    ∙ free_for k c.args.states.now shelves c.args.copy w old.shelves c.requires.states c.requires.copy
    (stands g there)

pub put-requires-in-OnHoldShelf-clause-nowhere : goal.put-requires-in-OnHoldShelf-clause-nowhere
put-requires-in-OnHoldShelf-clause-nowhere g c = λ place is.
    let k = facts_of c.args.catalogue.now in
    let f = slice_get c.args.states.now in
    let shelves = c.self.inside.shelves.items in
    let there = (goal.at.put-requires-in-OnHoldShelf-clause-nowhere g c).After-index_mut in
    let old : IsIndexed k (all_but c.args.copy f) _ = rw (← c.self.view_is) at c.requires.indexed in
    nowhere_on k (all_but c.args.copy f) shelves c.args.copy c.in-OnHoldShelf.there.branch place old.shelves
    (but_here f c.args.copy)
    (ap (λ (s : PlacesValue). get s.copies place) (sym (is_shelf g there)) ∙ is)

pub returns-in-OnHoldShelf-clause-indexed : goal.returns-in-OnHoldShelf-clause-indexed
returns-in-OnHoldShelf-clause-indexed g c =
    let k = facts_of c.args.catalogue.now in
    let f = slice_get c.args.states.now in
    let w = c.in-OnHoldShelf.there in
    let shelves = c.self.inside.shelves.items in
    let there = (goal.at.returns-in-OnHoldShelf-clause-indexed g c).After-index_mut in
    let old : IsIndexed k (all_but c.args.copy f) _ = rw (← c.self.view_is) at c.requires.indexed in
    let at : f c.args.copy ≡ Some (OnHoldShelf w) = stands g there in
    let known : IsKnownState k (OnHoldShelf w) = is_known g there in
    let free : copy_at shelves w.branch w.place ≡ None =
    free_for k c.args.states.now shelves c.args.copy w old.shelves c.requires.states c.requires.copy at in
    rw c.number-in-OnHoldShelf.ensures.value
    (place-in k (all_but c.args.copy f) f c.args.copy _ old w c.put-in-OnHoldShelf.new.self
    (comes f c.args.copy _ at) known.0 free
    (c.put-in-OnHoldShelf.ensures.copies
    ∙ ap (λ (s : PlacesValue). insert s.copies w.place c.args.copy) (is_shelf g there)))

pub returns-in-OnHoldShelf-clause-rooms : goal.returns-in-OnHoldShelf-clause-rooms
returns-in-OnHoldShelf-clause-rooms g c =
    let there = (goal.at.returns-in-OnHoldShelf-clause-rooms g c).After-index_mut in
    rw (← c.self.view_is, c.number-in-OnHoldShelf.ensures.value)
    (rooms-same c.self.inside.shelves.items c.in-OnHoldShelf.there.branch c.put-in-OnHoldShelf.new.self
    (c.put-in-OnHoldShelf.ensures.room ∙ ap (λ (s : PlacesValue). s.room) (is_shelf g there)))

pub returns-in-InTransit-clause-indexed : goal.returns-in-InTransit-clause-indexed
returns-in-InTransit-clause-indexed g c =
    let k = facts_of c.args.catalogue.now in
    let f = slice_get c.args.states.now in
    let old : IsIndexed k (all_but c.args.copy f) _ = rw (← c.self.view_is) at c.requires.indexed in
    let at : f c.args.copy ≡ Some (InTransit c.in-InTransit.transit) =
    read_at k c.args.states.now c.number.result c.args.copy _ _ c.requires.states c.requires.copy
    c.number.ensures.value
    c.in-InTransit.is in
    transit-in k (all_but c.args.copy f) f c.args.copy _ old c.in-InTransit.transit c.send.new.self
    (comes f c.args.copy _ at)
    c.send.ensures.transits c.send.ensures.copies
