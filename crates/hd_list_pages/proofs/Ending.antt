-- The state when all turns have been counted.
use Rattle.std.proofs.Common.{◌≡◌, refl, sym, ◌∙◌, ap, Option, Some, None, inl}
use Rattle.std.specs.Prelude.{IfSome}
use Rattle.hd_journal.specs.Books.{Book}
use Rattle.hd_list_rows.specs.Counted.{counts_of}
use Rattle.hd_list_rows.specs.declared.counts.Counts.{Counts}
use Rattle.hd_http.specs.declared.state.Health.TheVariants.{Well}
use Rattle.hd_http.specs.declared.state.State.{State}
use Rattle.hd_http.specs.declared.state.Turns.{Turns}
use Rattle.hd_list_pages.specs.declared.state_reader.StateReader.{StateReader}
use Rattle.hd_list_pages.specs.Counting.{AreTallied, HasCounted, IsEnded}
use Rattle.hd_list_pages.specs.Standing.{Tells, state_of}

pub ended : (book : Book) (old new : StateReader) (state : State) → HasCounted old book new
    → IsEnded new state
    → (tallies : Option Turns) × AreTallied book.turns tallies
    × (state ≡ state_of Well (Some (counts_of book)) tallies)
ended book old new state has ends =
    let told : Some ends.0 ≡ Some (counts_of book) = sym ends.1 ∙ has.counts in (
      Some new.tallied.turns,
      (new.tallied.turns, refl),
      ends.3 ∙ ap (λ (c : Option Counts). state_of Well c (Some new.tallied.turns)) told,
    )

-- what a look tells of the journal that it showed
pub told : (MayShow : Book → Type 0) (Closed : Type 0) (book : Book) (old new : StateReader)
    → MayShow book → HasCounted old book new → (state : Option State) → IfSome state (IsEnded new)
    → IfSome state (Tells MayShow Closed AreTallied)
told MayShow Closed book old new may has None ends = ends
told MayShow Closed book old new may has (Some state) ends =
    inl (let e = ended book old new state has ends in (book, may, e.0, e.1, e.2))
