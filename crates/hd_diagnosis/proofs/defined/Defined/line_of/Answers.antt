use Rattle.std.proofs.Common.{◌∙◌, ap}
use Rattle.hd_diagnosis.specs.Names.{line_of}
use Rattle.hd_diagnosis.proofs.NameLemmas.{lookup-entry}
use Rattle.hd_diagnosis.proofs.defined.Defined.line_of.Goals as goal

pub returns : goal.returns
returns c =
    c.copied.ensures ∙ c.get.ensures.value
    ∙ lookup-entry (λ v. v.items) c.args.name.now c.self.inside.lines.entries
    ∙ ap (λ names. line_of names c.args.name.now) c.self.view_is
