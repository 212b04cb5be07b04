-- The first later survivor that depends on the one of a number.
use Rattle.std.proofs.Common.{arith, ◌≡◌, sym, ◌∙◌, ap, subst, ℕ, ◌+◌, ◌≤◌, List, [], ◌∷◌, ◌++◌}
use Rattle.std.proofs.Common.{Option, Some, None, MatchOption, inl, inr}
use Rattle.hd_rules.specs.declared.commands.Survivor.{Survivor}
use Rattle.hd_rules.specs.Depends.{IsLeastDependent, NoneDepends}
use Rattle.hd_rules.specs.Facts.{Facts, AreInRange, first_number}
use Rattle.hd_rules.specs.Record.{Record}
use Rattle.hd_rules.specs.Run.{IsAmong, Rising}
use Rattle.hd_rules.specs.Searches.{first_dependent}
use Rattle.hd_clash.specs.Clash.{first_clash}
use Rattle.hd_records.specs.Survivors.{changes_of, newer, older, record_of, survivor_of, survivors_of}
use Rattle.hd_records.specs.RecordsValue.{RecordsValue}
use Rattle.hd_journal.specs.Deciding.{AreKept, IsAt}
use Rattle.hd_journal.specs.Dependents.{IsFirstDependent}
use Rattle.hd_journal.specs.Laws.{CancellationLaws}
use Rattle.hd_journal.proofs.Recorded.{IsOne, Told, told}
use Rattle.hd_journal.proofs.Stored.{among_middle, first_is, parts_at, stored_known, survivors_joined}
use Rattle.hd_journal.proofs.Stored.{survivors_split}
use Rattle.hd_journal.proofs.Targets.{cut}

-- no survivor of the list has a smaller number
not_below : (n : ℕ) (xs : List Survivor) (s : Survivor) → Rising n xs → IsAmong s xs → n ≤ s.number
not_below n [] s rising among = absurd among
not_below n (x ∷ xs) s rising (inl same) =
    let here : s.number ≡ x.number = ap (λ (y : Survivor). y.number) same in
    omega (arith, here, rising.0)
not_below n (x ∷ xs) s rising (inr later) =
    let up : x.number + 1 ≤ s.number = not_below (x.number + 1) xs s rising.1 later in
    omega (arith, up, rising.0)

-- survivors of one number are one
one_of : (n : ℕ) (xs : List Survivor) (s c : Survivor) → Rising n xs → IsAmong s xs → IsAmong c xs
    → s.number ≡ c.number → s ≡ c
one_of n [] s c rising first other same = absurd first
one_of n (x ∷ xs) s c rising (inl is) (inl so) same = is ∙ sym so
one_of n (x ∷ xs) s c rising (inl is) (inr later) same =
    let up : x.number + 1 ≤ c.number = not_below (x.number + 1) xs c rising.1 later in
    let here : s.number ≡ x.number = ap (λ (y : Survivor). y.number) is in
    absurd (let no : ⊥ = omega (arith, up, here, same) in no)
one_of n (x ∷ xs) s c rising (inr later) (inl so) same =
    let up : x.number + 1 ≤ s.number = not_below (x.number + 1) xs s rising.1 later in
    let here : c.number ≡ x.number = ap (λ (y : Survivor). y.number) so in
    absurd (let no : ⊥ = omega (arith, up, here, same) in no)
one_of n (x ∷ xs) s c rising (inr later) (inr further) same =
    one_of (x.number + 1) xs s c rising.1 later further same

-- what the search finds of a survivor
abbrev OfSurvivor : Facts → List Survivor → Survivor → Option ℕ → Type 0
OfSurvivor k xs s o = MatchOption o (NoneDepends k xs s) (IsLeastDependent k xs s)

of_number : (k : Facts) (xs : List Survivor) (s : Survivor) (n : ℕ) (o : Option ℕ)
    → Rising (first_number k) xs → IsAmong s xs → s.number ≡ n → OfSurvivor k xs s o
    → IsFirstDependent k xs n o
of_number k xs s n None rising among number none = λ c there same.
    subst (NoneDepends k xs) (one_of (first_number k) xs s c rising among there (number ∙ sym same)) none
of_number k xs s n (Some m) rising among number least = (s, among, number, least)

-- the record of the number, where there is one
pub record_there : (m n : ℕ) (rs : List Record) (r : Record) → Rising m (survivors_of rs)
    → record_of n rs ≡ Some r
    → (c : Record) × IsAt rs n c × (c.number ≡ n)
record_there m n rs r rising there =
    let one : IsOne n rs r = subst (Told n rs) there (told n rs) in
    let split = ap survivors_of one.split ∙ survivors_joined one.older (r ∷ one.newer) in
    let at = cut m n rs (survivors_of one.older) (survivor_of r) (survivors_of one.newer) rising split
    one.number in
    (at.aim, at.at, ap (λ (s : Survivor). s.number) at.is ∙ one.number)

-- The first record that clashes is that of the first dependent of the survivor of the number.
pub dependent_of : (laws : CancellationLaws) (k : Facts) (value : RecordsValue) (n : ℕ) (r : Record)
    (o : Option ℕ)
    → AreInRange k → AreKept k value → record_of n value.records ≡ Some r
    → o ≡ first_clash k (changes_of n value.records) (newer n value.records)
    → IsFirstDependent k (survivors_of value.records) n o
dependent_of laws k value n r o range kept there is =
    let rs : List Record = value.records in
    let xs : List Survivor = survivors_of rs in
    let later : List Survivor = survivors_of (newer n rs) in
    let rising : Rising (first_number k) xs = kept.may_run.rising in
    let one = record_there (first_number k) n rs r rising there in
    let s : Survivor = survivor_of one.0 in
    let first : o ≡ first_dependent k xs s later =
    is ∙ first_is laws k rs n one.0 (parts_at laws k rs n one.0 one.1 kept.stored) kept.may_run
    (stored_known laws k rs range kept.may_run kept.stored) in
    let split : xs ≡ survivors_of (older n rs) ++ s ∷ later = survivors_split rs n one.0 one.1 in
    let least : OfSurvivor k xs s (first_dependent k xs s later) =
    subst (λ (ss : List Survivor). OfSurvivor k ss s (first_dependent k ss s later)) (sym split)
    (laws.dependent.least k (survivors_of (older n rs)) s later
    (subst (Rising (first_number k)) split rising)) in
    of_number k xs s n o rising
    (subst (IsAmong s) (sym split) (among_middle (survivors_of (older n rs)) s later)) one.2
    (subst (OfSurvivor k xs s) (sym first) least)

-- Where there is no record, no survivor has the number.
pub no_dependent_of : (k : Facts) (rs : List Record) (n : ℕ) → record_of n rs ≡ None
    → IsFirstDependent k (survivors_of rs) n None
no_dependent_of k rs n none s among named = absurd (subst (Told n rs) none (told n rs) s among named)
