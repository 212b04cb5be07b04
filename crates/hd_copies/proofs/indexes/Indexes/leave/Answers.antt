use Rattle.std.proofs.Common.{◌≡◌, ◌∙◌, Some, get_or, ap, arith}
use Rattle.std.specs.List.{slice_get}
use Rattle.std.specs.FinMap.{remove}
use Rattle.hd_rules.specs.declared.copies.CopyState.TheVariants.{Shelf, OnLoan, OnHoldShelf, InTransit}
use Rattle.hd_rules.specs.Known.{IsKnownState}
use Rattle.hd_shelf.specs.PlacesValue.{PlacesValue}
use Rattle.hd_open_shelf.specs.Counts.{HasOneCopyMore}
use Rattle.hd_catalogue.specs.Contents.{facts_of}
use Rattle.hd_copies.specs.Indexing.{IsIndexed, all_but, no_shelf}
use Rattle.hd_copies.proofs.Moving.{goes, known_at, read_at}
use Rattle.hd_copies.proofs.Indexed.{loan-out, place-out, rooms-same, shelf-out, shelf_at, some_of_home}
use Rattle.hd_copies.proofs.Indexed.{some_of_title, transit-out}
use Rattle.hd_copies.proofs.indexes.Indexes.leave.Given.{Over}
use Rattle.hd_copies.proofs.indexes.Indexes.leave.Goals.{After-index_mut}
use Rattle.hd_copies.proofs.indexes.Indexes.leave.Goals as goal

-- where a hold shelf is left: the copy's place, what it names, and the shelf that is read
stands : (g : Over) (c : After-index_mut g)
    → slice_get c.args.states.now c.args.copy ≡ Some (OnHoldShelf c.in-OnHoldShelf.there)
stands g c =
    read_at (facts_of c.args.catalogue.now) c.args.states.now c.number.result c.args.copy _ _
    c.requires.states c.requires.copy
    c.number.ensures.value c.in-OnHoldShelf.is

is_known : (g : Over) (c : After-index_mut g)
    → IsKnownState (facts_of c.args.catalogue.now) (OnHoldShelf c.in-OnHoldShelf.there)
is_known g c = known_at (facts_of c.args.catalogue.now) c.args.states.now c.args.copy _ c.requires.states
    c.requires.copy (stands g c)

is_shelf : (g : Over) (c : After-index_mut g) →
    c.index_mut.result.now ≡ get_or c.self.inside.shelves.items c.in-OnHoldShelf.there.branch no_shelf
is_shelf g c =
    let old : IsIndexed (facts_of c.args.catalogue.now) (slice_get c.args.states.now) _ =
    rw (← c.self.view_is) at c.requires.indexed in
    shelf_at c.self.inside.shelves.items c.number-in-OnHoldShelf.result c.in-OnHoldShelf.there.branch
    c.index_mut.result.now
    c.number-in-OnHoldShelf.ensures.value
    (let known = is_known g c in omega (arith, known.0, old.shelves.branches_in))
    c.index_mut.ensures.value

pub take-requires-clause-some_of_title : goal.take-requires-clause-some_of_title
take-requires-clause-some_of_title g c =
    let k = facts_of c.args.catalogue.now in
    let f = slice_get c.args.states.now in
    let old : IsIndexed k f _ = rw (← c.self.view_is) at c.requires.indexed in
    let at : f c.args.copy ≡ Some (Shelf c.in-Shelf.field-0) =
    read_at k c.args.states.now c.number.result c.args.copy _ _ c.requires.states c.requires.copy
    c.number.ensures.value c.in-Shelf.is
    in
    rw c.title_of.ensures.title (some_of_title k f f c.args.copy _ old c.in-Shelf.field-0 at c.requires.copy)

pub take-requires-clause-some_of_home : goal.take-requires-clause-some_of_home
take-requires-clause-some_of_home g c =
    let k = facts_of c.args.catalogue.now in
    let f = slice_get c.args.states.now in
    let old : IsIndexed k f _ = rw (← c.self.view_is) at c.requires.indexed in
    let at : f c.args.copy ≡ Some (Shelf c.in-Shelf.field-0) =
    read_at k c.args.states.now c.number.result c.args.copy _ _ c.requires.states c.requires.copy
    c.number.ensures.value c.in-Shelf.is
    in
    rw (c.title_of.ensures.title, c.home.ensures.branch)
    (some_of_home k f f c.args.copy _ old c.in-Shelf.field-0 at c.requires.copy)

pub returns-in-Shelf-clause-indexed : goal.returns-in-Shelf-clause-indexed
returns-in-Shelf-clause-indexed g c =
    let k = facts_of c.args.catalogue.now in
    let f = slice_get c.args.states.now in
    let old : IsIndexed k f _ = rw (← c.self.view_is) at c.requires.indexed in
    let at : f c.args.copy ≡ Some (Shelf c.in-Shelf.field-0) =
    read_at k c.args.states.now c.number.result c.args.copy _ _ c.requires.states c.requires.copy
    c.number.ensures.value c.in-Shelf.is
    in
    let less : HasOneCopyMore c.self.inside.stock c.take.new.self (k.title_of c.args.copy)
    (k.home c.args.copy) =
    rw (← c.title_of.ensures.title, ← c.home.ensures.branch) c.take.ensures.one_less in
    shelf-out k f (all_but c.args.copy f) c.args.copy _ old c.in-Shelf.field-0 c.take.new.self
    (goes f c.args.copy _ at) c.requires.copy
    less c.take.ensures.entries

pub returns-in-OnLoan-clause-indexed : goal.returns-in-OnLoan-clause-indexed
returns-in-OnLoan-clause-indexed g c =
    let k = facts_of c.args.catalogue.now in
    let f = slice_get c.args.states.now in
    let old : IsIndexed k f _ = rw (← c.self.view_is) at c.requires.indexed in
    let at : f c.args.copy ≡ Some (OnLoan c.in-OnLoan.field-0) =
    read_at k c.args.states.now c.number.result c.args.copy _ _ c.requires.states c.requires.copy
    c.number.ensures.value c.in-OnLoan.is
    in
    loan-out k f (all_but c.args.copy f) c.args.copy _ old c.in-OnLoan.field-0 c.end.new.self
    (goes f c.args.copy _ at) c.end.ensures.loans
    c.end.ensures.copies c.end.ensures.patrons

pub index_mut-requires : goal.index_mut-requires
index_mut-requires g c =
    let k = facts_of c.args.catalogue.now in
    let f = slice_get c.args.states.now in
    let old : IsIndexed k f _ = rw (← c.self.view_is) at c.requires.indexed in
    let at : f c.args.copy ≡ Some (OnHoldShelf c.in-OnHoldShelf.there) =
    read_at k c.args.states.now c.number.result c.args.copy _ _ c.requires.states c.requires.copy
    c.number.ensures.value
    c.in-OnHoldShelf.is in
    let known : IsKnownState k (OnHoldShelf c.in-OnHoldShelf.there) =
    known_at k c.args.states.now c.args.copy _ c.requires.states c.requires.copy at in
    omega (
      arith,
      known.0,
      old.shelves.branches_in,
      c.self.inside.shelves.ok,
      c.number-in-OnHoldShelf.ensures.value,
    )

pub returns-in-OnHoldShelf-clause-indexed : goal.returns-in-OnHoldShelf-clause-indexed
returns-in-OnHoldShelf-clause-indexed g c =
    let k = facts_of c.args.catalogue.now in
    let f = slice_get c.args.states.now in
    let w = c.in-OnHoldShelf.there in
    let there = (goal.at.returns-in-OnHoldShelf-clause-indexed g c).After-index_mut in
    let old : IsIndexed k f _ = rw (← c.self.view_is) at c.requires.indexed in
    let at : f c.args.copy ≡ Some (OnHoldShelf w) = stands g there in
    let known : IsKnownState k (OnHoldShelf w) = is_known g there in
    rw c.number-in-OnHoldShelf.ensures.value
    (place-out k f (all_but c.args.copy f) c.args.copy _ old w c.take-in-OnHoldShelf.new.self
    (goes f c.args.copy _ at) known.0
    (c.take-in-OnHoldShelf.ensures.copies
    ∙ ap (λ (s : PlacesValue). remove s.copies w.place) (is_shelf g there)))

pub returns-in-OnHoldShelf-clause-rooms : goal.returns-in-OnHoldShelf-clause-rooms
returns-in-OnHoldShelf-clause-rooms g c =
    let there = (goal.at.returns-in-OnHoldShelf-clause-rooms g c).After-index_mut in
    rw (← c.self.view_is, c.number-in-OnHoldShelf.ensures.value)
    (rooms-same c.self.inside.shelves.items c.in-OnHoldShelf.there.branch c.take-in-OnHoldShelf.new.self
    (c.take-in-OnHoldShelf.ensures.room ∙ ap (λ (s : PlacesValue). s.room) (is_shelf g there)))

pub returns-in-InTransit-clause-indexed : goal.returns-in-InTransit-clause-indexed
returns-in-InTransit-clause-indexed g c =
    let k = facts_of c.args.catalogue.now in
    let f = slice_get c.args.states.now in
    let old : IsIndexed k f _ = rw (← c.self.view_is) at c.requires.indexed in
    let at : f c.args.copy ≡ Some (InTransit c.in-InTransit.field-0) =
    read_at k c.args.states.now c.number.result c.args.copy _ _ c.requires.states c.requires.copy
    c.number.ensures.value
    c.in-InTransit.is in
    transit-out k f (all_but c.args.copy f) c.args.copy _ old c.in-InTransit.field-0 c.arrive.new.self
    (goes f c.args.copy _ at)
    c.arrive.ensures.transits c.arrive.ensures.copies
