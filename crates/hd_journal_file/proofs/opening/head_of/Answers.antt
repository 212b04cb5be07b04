use Rattle.std.proofs.Common.{refl}
use Rattle.hd_journal_file.proofs.Results.{passes}
use Rattle.hd_journal_file.specs.declared.open_fault.OpenFault.TheVariants.{File}
use Rattle.hd_journal_file.proofs.opening.head_of.Goals as goal

pub returns-in_err-heading-clause-told : goal.returns-in_err-heading-clause-told
returns-in_err-heading-clause-told g c clean =
    passes c.from_residual.result (File c.in_err-heading.field-0.0) _ c.from_residual.ensures.1
    (λ head rows holds.
    (c.in_err-heading.field-0.0, refl, c.in_err-heading.ensures.why clean head rows holds))
