use Rattle.std.proofs.Common.{sym, ◌∙◌}
use Rattle.hd_catalogue.proofs.ShortLemmas.{names-push}
use Rattle.hd_lemmas.proofs.Results.{when_ok}
use Rattle.hd_catalogue.proofs.SoundLemmas.{sound-patron}
use Rattle.hd_catalogue.proofs.catalogue.Catalogue.read_patron.Goals as goal

pub invariant_of-self-2 : goal.invariant_of-self-2
invariant_of-self-2 g c =
    let names = c.self.invariant.1 in
    let new = sym c.is_name.ensures ∙ c.if-not-is_name.false in
    rw (when_ok c.define.result _ c.define.ensures.ok (sym c.is_err.ensures.value ∙ c.if-is_err.false)) (
      sound-patron _ _ _ c.self.invariant.0 c.in_ok-check_name.ensures.room
          c.in-Some-patron_facts.ensures.limit,
      record {
        institution = names.institution;
        branches = names.branches;
        terminals = names.terminals;
        patrons = names-push _ _ names.patrons new;
        titles = names.titles;
        copies = names.copies;
      },
    )
