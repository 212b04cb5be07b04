use Rattle.std.proofs.Common.{◌≡◌, ◌∙◌, ap, None}
use Rattle.hd_catalogue.specs.Names.{number_of}
use Rattle.hd_catalogue.proofs.NamesLemmas.{distinct-push, insert-new}
use Rattle.hd_catalogue.proofs.names.Names.define.Goals as goal

pub invariant_of-self-2 : goal.invariant_of-self-2
invariant_of-self-2 g c = λ number name.
    let old = c.self.inside.table.entries in
    let none : number_of old c.in_ok-name.name ≡ None =
    rw (c.in_ok-name.ensures.bytes) (ap (λ n. number_of n c.args.name.now) c.self.view_is ∙ c.requires) in
    rw (c.in_ok-insert.ensures.entries, insert-new old c.in_ok-name.name c.args.facts none)
    (distinct-push old c.in_ok-name.name c.args.facts none c.self.invariant number name)

pub returns-clause-ok : goal.returns-clause-ok
returns-clause-ok g c =
    let none : number_of c.self.inside.table.entries c.in_ok-name.name ≡ None =
    rw (c.in_ok-name.ensures.bytes) (ap (λ n. number_of n c.args.name.now) c.self.view_is ∙ c.requires)
    in rw (
      c.in_ok-insert.ensures.entries,
      ← c.self.view_is,
      ← c.in_ok-name.ensures.bytes,
    ) (insert-new c.self.inside.table.entries c.in_ok-name.name c.args.facts none)
