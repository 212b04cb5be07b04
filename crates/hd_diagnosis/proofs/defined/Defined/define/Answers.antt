use Rattle.std.proofs.Common.{◌≡◌, ◌∙◌, ◌++◌, ◌∷◌, [], refl, ap, map, None, arith}
use Rattle.std.proofs.lemmas.Grind.{common_steps}
use Rattle.hd_diagnosis.specs.Names.{line_of, with_name}
use Rattle.hd_diagnosis.proofs.NameLemmas.{entry, insert-new}
use Rattle.hd_diagnosis.proofs.defined.Defined.define.Goals as goal

pub returns-in_ok-insert-clause-ok : goal.returns-in_ok-insert-clause-ok
returns-in_ok-insert-clause-ok c =
    let old = map (entry (λ v. v.items)) c.self.inside.lines.entries in
    let none : line_of c.args.self.now c.args.name.now ≡ None = grind (arith, common_steps) in
    let new : line_of old c.in_ok-name.name.items ≡ None =
    rw (c.in_ok-name.ensures.items) (ap (λ names. line_of names c.args.name.now) c.self.view_is ∙ none) in
    let last : with_name c.args.self.now c.args.name.now c.args.line
    ≡ c.args.self.now ++ (c.args.name.now, c.args.line) ∷ [] = rw none refl in
    rw (last, c.in_ok-insert.ensures.entries, ← c.self.view_is, ← c.in_ok-name.ensures.items)
    (insert-new (λ v. v.items) c.self.inside.lines.entries c.in_ok-name.name c.args.line new)
