use Rattle.std.proofs.Common.{◌<◌, length, sym, ap, subst, ◌∙◌}
use Rattle.hd_catalogue.proofs.ShortLemmas.{first-name, names-push}
use Rattle.hd_lemmas.proofs.Results.{when_ok}
use Rattle.hd_catalogue.proofs.SoundLemmas.{sound-copy, when_some}
use Rattle.hd_catalogue.proofs.catalogue.Catalogue.read_copy.Goals as goal

pub invariant_of-self-2 : goal.invariant_of-self-2
invariant_of-self-2 g c =
    let names = c.self.invariant.1 in
    let new = first-name _ _ _ (sym c.are_names.ensures ∙ c.if-not-are_names.false) in
    let title : c.unwrap.result.title < length c.self.inside.titles =
    subst (λ n. c.unwrap.result.title < n) (ap (λ k. length k.titles) (sym c.self.view_is))
    (when_some c.copy_facts-facts.result c.unwrap.result _ c.copy_facts-facts.ensures.title
    c.unwrap.ensures) in
    let home : c.unwrap.result.home < length c.self.inside.branches =
    subst (λ n. c.unwrap.result.home < n) (ap (λ k. length k.branches) (sym c.self.view_is))
    (when_some c.copy_facts-facts.result c.unwrap.result _ c.copy_facts-facts.ensures.home
    c.unwrap.ensures) in
    rw (when_ok c.define.result _ c.define.ensures.ok (sym c.is_err.ensures.value ∙ c.if-is_err.false)) (
      sound-copy _ _ _ c.self.invariant.0 c.in_ok-check_name.ensures.room title home,
      record {
        institution = names.institution;
        branches = names.branches;
        terminals = names.terminals;
        patrons = names.patrons;
        titles = names.titles;
        copies = names-push _ _ names.copies new;
      },
    )
