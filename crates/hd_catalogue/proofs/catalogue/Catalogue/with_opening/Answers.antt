use Rattle.std.proofs.Common.{◌+◌, ◌≤◌, All, arith, sym, subst}
use Rattle.hd_rules.specs.declared.limits.TheConstants.{MOST_GIVEN}
use Rattle.hd_catalogue.specs.Contents.{Contents, Fits, facts_of}
use Rattle.hd_catalogue.proofs.SoundLemmas.{sound-opening}
use Rattle.hd_catalogue.proofs.catalogue.Catalogue.with_opening.Goals as goal

pub invariant_of-self : goal.invariant_of-self
invariant_of-self g c =
    let rows = c.args.rows.items in
    let last = c.args.last in
    let most : last ≤ MOST_GIVEN = omega arith in
    let names = c.self.invariant.1 in
    let fit : All (Fits (facts_of c.args.self) (last + 1)) rows =
    subst (All (Fits (facts_of c.args.self) (last + 1))) c.as_slice.ensures.value c.in-None.ensures.none in (
      sound-opening _ rows last c.self.invariant.0
          (subst (λ (k : Contents). All (Fits (facts_of k) (last + 1)) rows) (sym c.self.view_is) fit) most,
      record {
        institution = names.institution;
        branches = names.branches;
        terminals = names.terminals;
        patrons = names.patrons;
        titles = names.titles;
        copies = names.copies;
      },
    )

pub returns-in-None-clause-fit : goal.returns-in-None-clause-fit
returns-in-None-clause-fit g c =
    subst (All (Fits (facts_of c.args.self) (c.args.last + 1))) c.as_slice.ensures.value
    c.in-None.ensures.none
