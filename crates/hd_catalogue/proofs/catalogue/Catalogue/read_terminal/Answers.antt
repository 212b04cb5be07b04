use Rattle.std.proofs.Common.{◌≡◌, ◌<◌, length, sym, ap, subst, ◌∙◌}
use Rattle.hd_catalogue.proofs.ShortLemmas.{first-name, names-push}
use Rattle.hd_lemmas.proofs.Results.{when_ok}
use Rattle.hd_catalogue.proofs.SoundLemmas.{sound-terminal, when_some}
use Rattle.hd_catalogue.proofs.catalogue.Catalogue.read_terminal.Goals as goal

pub invariant_of-self-2 : goal.invariant_of-self-2
invariant_of-self-2 g c =
    let names = c.self.invariant.1 in
    let new = first-name _ _ _ (sym c.are_names.ensures ∙ c.if-not-are_names.false) in
    let known : c.unwrap.result < length c.self.inside.branches =
    subst (λ n. c.unwrap.result < n) (ap (λ k. length k.branches) (sym c.self.view_is))
    (when_some c.known_branch-branch.result c.unwrap.result _ c.known_branch-branch.ensures.in_range
    c.unwrap.ensures) in
    let branch : c.new-facts.result.branch ≡ c.unwrap.result = ap (λ t. t.branch) c.new-facts.ensures in
    rw (when_ok c.define.result _ c.define.ensures.ok (sym c.is_err.ensures.value ∙ c.if-is_err.false)) (
      sound-terminal _ _ _ c.self.invariant.0 c.in_ok-check_name.ensures.room (rw branch known),
      record {
        institution = names.institution;
        branches = names.branches;
        terminals = names-push _ _ names.terminals new;
        patrons = names.patrons;
        titles = names.titles;
        copies = names.copies;
      },
    )
