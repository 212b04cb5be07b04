-- A catalogue stays sound with one more name.
use Rattle.std.proofs.Common.{◌≡◌, ℕ, zero, suc, ◌+◌, ◌<◌, ◌≤◌, ◌⊎◌, List, [], ◌∷◌, ◌++◌, length, refl, sym}
use Rattle.std.proofs.Common.{inl, inr, subst, arith}
use Rattle.std.proofs.Common.{length-append, Option, None, Some, IfSome, All, slice_index_or}
use Rattle.hd_rules.specs.declared.limits.TheConstants.{MOST_BRANCHES, MOST_COMMANDS, MOST_COPIES, MOST_GIVEN}
use Rattle.hd_rules.specs.declared.limits.TheConstants.{MOST_LOANS, MOST_LOAN_DAYS, MOST_PATRONS}
use Rattle.hd_rules.specs.declared.limits.TheConstants.{MOST_RENEWALS, MOST_TERMINALS, MOST_TITLES}
use Rattle.hd_rules.specs.declared.rows.OpeningRow.{OpeningRow}
use Rattle.hd_rules.specs.declared.holds.HoldKind.{HoldKind}
use Rattle.hd_rules.specs.declared.holds.HoldKind.TheVariants.{Any, One, AtBranch}
use Rattle.hd_rules.specs.declared.rows.OpeningRow.TheVariants as row
use Rattle.hd_rules.specs.Facts.{Facts}
use Rattle.hd_rules.specs.Known.{IsKnownCopy, IsKnownKind, IsKnownRow}
use Rattle.hd_catalogue.specs.Contents.{Contents, Fits, IsSound, branch_of, facts_of, fact_of, told_by}
use Rattle.hd_catalogue.specs.Contents.{without_names}
use Rattle.hd_catalogue.specs.Terminal.{Terminal}
use Rattle.hd_catalogue.specs.declared.facts.BranchFacts.{BranchFacts}
use Rattle.hd_catalogue.specs.declared.facts.CopyFacts.{CopyFacts}
use Rattle.hd_catalogue.specs.declared.facts.PatronFacts.{PatronFacts}
use Rattle.hd_catalogue.specs.declared.facts.Settings.{Settings}
use Rattle.hd_catalogue.specs.declared.facts.TitleFacts.{TitleFacts}

-- of a list with one more name each old number is known as before, and the new one by the new facts
known-push : {F V : Type 0} (fact : F → V) (none : V) (names : List (List ℕ × F)) (e : List ℕ × F) (i : ℕ)
    → i < length (names ++ e ∷ [])
    → ((i < length names) × (fact_of fact none (names ++ e ∷ []) i ≡ fact_of fact none names i))
    ⊎ (fact_of fact none (names ++ e ∷ []) i ≡ fact e.1)
known-push fact none [] e zero h = inr refl
known-push fact none [] e (suc i) h = absurd (omega arith)
known-push fact none (x ∷ xs) e zero h = inl (omega arith, refl)
known-push fact none (x ∷ xs) e (suc i) h =
    elim (known-push fact none xs e i (omega arith))
    [ inl old ↦ inl (omega (arith, old.0), old.1) | inr new ↦ inr new ]

-- what holds of each is kept, where it holds of the new one
each-push : {F V : Type 0} (fact : F → V) (none : V) (P : V → Type 0) (names : List (List ℕ × F))
    (e : List ℕ × F) → ((i : ℕ) → i < length names → P (fact_of fact none names i)) → P (fact e.1) → (i : ℕ)
    → i < length (names ++ e ∷ []) → P (fact_of fact none (names ++ e ∷ []) i)
each-push fact none P names e all new i h = elim (known-push fact none names e i h) [
  | inl old ↦ subst P (sym old.1) (all i old.0)
  | inr is ↦ subst P (sym is) new
]

room : {F : Type 0} (names : List (List ℕ × F)) (e : List ℕ × F) (most : ℕ) → length names < most
    → length (names ++ e ∷ []) ≤ most
room names e most h = omega (arith, length-append names (e ∷ []))

longer : {F : Type 0} (names : List (List ℕ × F)) (e : List ℕ × F) → length names ≤ length (names ++ e ∷ [])
longer names e = omega (arith, length-append names (e ∷ []))

-- what is known stays so where there is more of each kind
more-kind : (j k : Facts) (kind : HoldKind) → j.copies ≤ k.copies → IsKnownKind j kind → IsKnownKind k kind
more-kind j k Any more known = tt
more-kind j k (One c) more known = omega (arith, more, known)
more-kind j k AtBranch more known = tt

more-copy : (j k : Facts) (copy : Option ℕ) → j.copies ≤ k.copies → IsKnownCopy j copy → IsKnownCopy k copy
more-copy j k None more known = tt
more-copy j k (Some c) more known = omega (arith, more, known)

more-known : (j k : Facts) (r : OpeningRow) → j.branches ≤ k.branches → j.titles ≤ k.titles
    → j.copies ≤ k.copies → j.patrons ≤ k.patrons → IsKnownRow j r → IsKnownRow k r
more-known j k (row.Loan c l) b t x p known = (omega (arith, x, known.0), omega (arith, p, known.1))
more-known j k (row.OpenShelf c to) b t x p known = (omega (arith, x, known.0), omega (arith, b, known.1))
more-known j k (row.Hold u h) b t x p known = (
  omega (arith, t, known.0),
  record {
    patron = omega (arith, p, known.1.patron);
    kind = more-kind j k h.kind x known.1.kind;
    pickup = omega (arith, b, known.1.pickup);
    copy = more-copy j k h.copy x known.1.copy;
  },
)
more-known j k (row.HoldShelf c q place) b t x p known =
    (omega (arith, x, known.0), omega (arith, p, known.1))
more-known j k (row.HoldTransit c q from) b t x p known =
    (omega (arith, x, known.0), omega (arith, p, known.1), omega (arith, b, known.2))
more-known j k (row.Transit c from to) b t x p known =
    (omega (arith, x, known.0), omega (arith, b, known.1), omega (arith, b, known.2))

pub more-fit : (j k : Facts) (n : ℕ) (rows : List OpeningRow) → j.branches ≤ k.branches → j.titles ≤ k.titles
    → j.copies ≤ k.copies → j.patrons ≤ k.patrons → All (Fits j n) rows → All (Fits k n) rows
more-fit j k n rows b t x p all = λ i d below.
    let fits = all i d below in (more-known j k (slice_index_or rows i d) b t x p fits.0, fits.1)

-- a catalogue without names
pub sound-none : (settings : Settings) (institution : List ℕ) → 1 ≤ settings.command_limit
    → settings.command_limit ≤ MOST_COMMANDS → IsSound (without_names settings institution)
unfolding facts_of branch_of
sound-none settings institution some most = record {
  facts = record {
    branches = omega arith;
    terminals = omega arith;
    titles = omega arith;
    copies = omega arith;
    patrons = omega arith;
    home = λ c h. absurd (omega arith);
    title_of = λ c h. absurd (omega arith);
    loan_days = λ t h. absurd (omega arith);
    renewals = λ t h. absurd (omega arith);
    loan_limit = λ p h. absurd (omega arith);
    some_command = some;
    command_limit = most;
  };
  terminals = λ t h. absurd (omega arith);
  rows = λ i d h. absurd (omega (arith, h));
  last = omega arith;
}

pub sound-branch : (k : Contents) (e : List ℕ × BranchFacts) → IsSound k → length k.branches < MOST_BRANCHES
    → IsSound (record k { branches = k.branches ++ e ∷ [] })
unfolding facts_of branch_of
sound-branch k e s h = record {
  facts = record {
    branches = room k.branches e MOST_BRANCHES h;
    terminals = s.facts.terminals;
    titles = s.facts.titles;
    copies = s.facts.copies;
    patrons = s.facts.patrons;
    home = λ c l. omega (arith, s.facts.home c l, length-append k.branches (e ∷ []));
    title_of = s.facts.title_of;
    loan_days = s.facts.loan_days;
    renewals = s.facts.renewals;
    loan_limit = s.facts.loan_limit;
    some_command = s.facts.some_command;
    command_limit = s.facts.command_limit;
  };
  terminals = λ t l. omega (arith, s.terminals t l, length-append k.branches (e ∷ []));
  rows = more-fit (facts_of k) (facts_of (record k { branches = k.branches ++ e ∷ [] }))
      (k.opening.last + 1) k.opening.rows
      (longer k.branches e) (omega arith) (omega arith) (omega arith) s.rows;
  last = s.last;
}

pub sound-terminal : (k : Contents) (name : List ℕ) (facts : Terminal) → IsSound k
    → length k.terminals < MOST_TERMINALS → facts.branch < length k.branches
    → IsSound (record k { terminals = k.terminals ++ (name, facts) ∷ [] })
unfolding facts_of branch_of
sound-terminal k name facts s h branch = record {
  facts = record {
    branches = s.facts.branches;
    terminals = room k.terminals (name, facts) MOST_TERMINALS h;
    titles = s.facts.titles;
    copies = s.facts.copies;
    patrons = s.facts.patrons;
    home = s.facts.home;
    title_of = s.facts.title_of;
    loan_days = s.facts.loan_days;
    renewals = s.facts.renewals;
    loan_limit = s.facts.loan_limit;
    some_command = s.facts.some_command;
    command_limit = s.facts.command_limit;
  };
  terminals = each-push (λ terminal. terminal.branch) 0 (λ b. b < length k.branches) k.terminals
      (name, facts) s.terminals branch;
  rows = more-fit (facts_of k) (facts_of (record k { terminals = k.terminals ++ (name, facts) ∷ [] }))
      (k.opening.last + 1) k.opening.rows
      (omega arith) (omega arith) (omega arith) (omega arith) s.rows;
  last = s.last;
}

pub sound-patron : (k : Contents) (name : List ℕ) (facts : PatronFacts)
    → IsSound k → length k.patrons < MOST_PATRONS → facts.loan_limit ≤ MOST_LOANS
    → IsSound (record k { patrons = k.patrons ++ (name, facts) ∷ [] })
unfolding facts_of branch_of
sound-patron k name facts s h limit = record {
  facts = record {
    branches = s.facts.branches;
    terminals = s.facts.terminals;
    titles = s.facts.titles;
    copies = s.facts.copies;
    patrons = room k.patrons (name, facts) MOST_PATRONS h;
    home = s.facts.home;
    title_of = s.facts.title_of;
    loan_days = s.facts.loan_days;
    renewals = s.facts.renewals;
    loan_limit = each-push (λ patron. patron.loan_limit) 0 (λ n. n ≤ MOST_LOANS) k.patrons
        (name, facts) s.facts.loan_limit limit;
    some_command = s.facts.some_command;
    command_limit = s.facts.command_limit;
  };
  terminals = s.terminals;
  rows = more-fit (facts_of k) (facts_of (record k { patrons = k.patrons ++ (name, facts) ∷ [] }))
      (k.opening.last + 1) k.opening.rows
      (omega arith) (omega arith) (omega arith) (longer k.patrons (name, facts)) s.rows;
  last = s.last;
}

pub sound-title : (k : Contents) (name : List ℕ) (facts : TitleFacts) → IsSound k
    → length k.titles < MOST_TITLES → facts.loan_days ≤ MOST_LOAN_DAYS → facts.renewals ≤ MOST_RENEWALS
    → IsSound (record k { titles = k.titles ++ (name, facts) ∷ [] })
unfolding facts_of branch_of
sound-title k name facts s h days renewals = record {
  facts = record {
    branches = s.facts.branches;
    terminals = s.facts.terminals;
    titles = room k.titles (name, facts) MOST_TITLES h;
    copies = s.facts.copies;
    patrons = s.facts.patrons;
    home = s.facts.home;
    title_of = λ c l. omega (arith, s.facts.title_of c l, length-append k.titles ((name, facts) ∷ []));
    loan_days = each-push (λ title. title.loan_days) 0 (λ n. n ≤ MOST_LOAN_DAYS) k.titles
        (name, facts) s.facts.loan_days days;
    renewals = each-push (λ title. title.renewals) 0 (λ n. n ≤ MOST_RENEWALS) k.titles
        (name, facts) s.facts.renewals renewals;
    loan_limit = s.facts.loan_limit;
    some_command = s.facts.some_command;
    command_limit = s.facts.command_limit;
  };
  terminals = s.terminals;
  rows = more-fit (facts_of k) (facts_of (record k { titles = k.titles ++ (name, facts) ∷ [] }))
      (k.opening.last + 1) k.opening.rows
      (omega arith) (longer k.titles (name, facts)) (omega arith) (omega arith) s.rows;
  last = s.last;
}

pub sound-copy : (k : Contents) (name : List ℕ) (facts : CopyFacts) → IsSound k
    → length k.copies < MOST_COPIES → facts.title < length k.titles → facts.home < length k.branches
    → IsSound (record k { copies = k.copies ++ (name, facts) ∷ [] })
unfolding facts_of branch_of
sound-copy k name facts s h title home = record {
  facts = record {
    branches = s.facts.branches;
    terminals = s.facts.terminals;
    titles = s.facts.titles;
    copies = room k.copies (name, facts) MOST_COPIES h;
    patrons = s.facts.patrons;
    home =
        each-push (λ copy. copy.home) 0 (λ b. b < length k.branches) k.copies (name, facts) s.facts.home home;
    title_of = each-push (λ copy. copy.title) 0 (λ t. t < length k.titles) k.copies
        (name, facts) s.facts.title_of title;
    loan_days = s.facts.loan_days;
    renewals = s.facts.renewals;
    loan_limit = s.facts.loan_limit;
    some_command = s.facts.some_command;
    command_limit = s.facts.command_limit;
  };
  terminals = s.terminals;
  rows = more-fit (facts_of k) (facts_of (record k { copies = k.copies ++ (name, facts) ∷ [] }))
      (k.opening.last + 1) k.opening.rows
      (omega arith) (omega arith) (longer k.copies (name, facts)) (omega arith) s.rows;
  last = s.last;
}

-- with another opening, whose rows fit
pub sound-opening : (k : Contents) (rows : List OpeningRow) (last : ℕ)
    → IsSound k → All (Fits (facts_of k) (last + 1)) rows → last ≤ MOST_GIVEN
    → IsSound (record k { opening = told_by rows last })
unfolding facts_of branch_of
sound-opening k rows last s fit most = record {
  facts = record {
    branches = s.facts.branches;
    terminals = s.facts.terminals;
    titles = s.facts.titles;
    copies = s.facts.copies;
    patrons = s.facts.patrons;
    home = s.facts.home;
    title_of = s.facts.title_of;
    loan_days = s.facts.loan_days;
    renewals = s.facts.renewals;
    loan_limit = s.facts.loan_limit;
    some_command = s.facts.some_command;
    command_limit = s.facts.command_limit;
  };
  terminals = s.terminals;
  rows = more-fit (facts_of k) (facts_of (record k { opening = told_by rows last })) (last + 1) rows
      (omega arith) (omega arith) (omega arith) (omega arith) fit;
  last = most;
}

-- a fact of Some, where the option is that
pub when_some : {T : Type 0} (o : Option T) (x : T) (P : T → Type 0) → IfSome o P → o ≡ Some x → P x
when_some o x P h e = subst (λ p. IfSome p P) e h
