-- What is known of a look.
use Rattle.std.proofs.Common.{◌≡◌, ℕ, List, length, Result, Ok, Err, IfErr, OnOk, sym, subst}
use Rattle.hd_rules.specs.Journal.{Turn}
use Rattle.hd_journal.specs.Books.{Book, IsLegalBook}
use Rattle.hd_journal.specs.Faults.{IsNotMemory}
use Rattle.hd_journal.specs.Looks.{HasGoneOn, IsJournalOf}
use Rattle.hd_journal.specs.Openings.{Opening, IsLegalSince}
use Rattle.hd_journal.specs.declared.fault.TurnFault.{TurnFault}
use Rattle.hd_journal.specs.declared.fault.TurnFault.TheVariants as fault
use Rattle.hd_hall.specs.Faults.{IsHallFault, IsLookFault}
use Rattle.hd_hall.specs.Looking.{IsShownTo}
use Rattle.hd_hall.specs.Receipts.{Receipted, HoldsLast, LacksLast}
use Rattle.hd_hall.specs.Submitting.{IsStrangeTo}

-- what is shown has gone on by turns in which the last of the receipts stands
pub shown_to : {T E : Type 0} (o : Opening) (turns : List Turn) (rs : List Receipted) (Saw : Book → Type 0)
    (told : Result T E) → IsLegalSince o turns → OnOk told ((book : Book) × HasGoneOn o turns book × Saw book)
    → OnOk told (HoldsLast turns rs) → OnOk told ((book : Book) × IsShownTo o rs book × Saw book)
shown_to o turns rs Saw (Err why) legal saw holds = tt
shown_to o turns rs Saw (Ok seen) legal saw holds =
    (saw.0, record { since = turns; gone_on = saw.1; legal = legal; holds = holds }, saw.2)

-- it is a legal journal of the catalogue
pub shown_journal : (o : Opening) (rs : List Receipted) (book : Book) → IsShownTo o rs book
    → IsJournalOf o.contents book
shown_journal o rs book is = record {
  contents = is.gone_on.contents;
  legal = subst (λ (ts : List Turn). IsLegalBook o.contents ts) (sym is.gone_on.turns) is.legal;
}

-- where the journal lacks the seat's last turn, it is a legal journal that does
pub strange_look : {T : Type 0} (o : Opening) (turns : List Turn) (rs : List Receipted)
    (gives : TurnFault → Type 0) (told : Result T TurnFault) → IsLegalSince o turns
    → IfErr told (IsLookFault gives (λ front. (front ≡ length turns) × LacksLast turns rs))
    → IfErr told (IsLookFault gives (IsStrangeTo o rs))
strange_look o turns rs gives (Ok seen) legal why = tt
strange_look o turns rs gives (Err fault.Memory) legal why = why
strange_look o turns rs gives (Err (fault.Unwritten cause)) legal why = why
strange_look o turns rs gives (Err (fault.Estranged front)) legal why =
    record { turns = turns; legal = legal; counted = sym why.0; lacks = why.1 }

-- a look's fault is one of a turn, whatever is asked
pub look_of_any_ask : (gives : TurnFault → Type 0) (Lacks : ℕ → Type 0) (why : TurnFault)
    → IsLookFault gives Lacks why → IsHallFault gives Lacks why
look_of_any_ask gives Lacks fault.Memory is = tt
look_of_any_ask gives Lacks (fault.Unwritten cause) is = is
look_of_any_ask gives Lacks (fault.Estranged front) is = is

-- and whatever the seat
pub look_of_any_seat : (gives : TurnFault → Type 0) (Lacks : ℕ → Type 0) (why : TurnFault)
    → IsLookFault gives Lacks why → IsHallFault gives (λ front. Unit {0}) why
look_of_any_seat gives Lacks fault.Memory is = tt
look_of_any_seat gives Lacks (fault.Unwritten cause) is = is
look_of_any_seat gives Lacks (fault.Estranged front) is = tt

-- it takes no memory
pub look_no_memory : (gives : TurnFault → Type 0) (Lacks : ℕ → Type 0) (why : TurnFault)
    → IsLookFault gives Lacks why → IsNotMemory why
look_no_memory gives Lacks fault.Memory is = is
look_no_memory gives Lacks (fault.Unwritten cause) is = tt
look_no_memory gives Lacks (fault.Estranged front) is = tt
