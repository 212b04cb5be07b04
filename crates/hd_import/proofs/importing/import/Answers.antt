use Rattle.std.proofs.Common.{◌≡◌, arith, List, ℕ, ◌∙◌, inl, inr, string_bytes, subst, true}
use Rattle.std.proofs.lemmas.Grind.{common_steps}
use Rattle.hd_catalogue.specs.Files.{IsFirstBad, lines_of}
use Rattle.hd_catalogue.specs.Text.{is_name}
use Rattle.hd_import.specs.Faults.{IsFault, IsTraced}
use Rattle.hd_import.proofs.FaultLemmas.{handed_on}
use Rattle.hd_import.proofs.importing.import.Goals as goal

pub returns-clause-refused : goal.returns-clause-refused
returns-clause-refused c =
    let lines = c.in_ok-text.ensures.lines in
    let text = string_bytes c.in_ok-text.field-0.text in
    let bad : IsFirstBad (lines_of text) c.in-Err.fault =
    subst (λ (bytes : List ℕ). IsFirstBad (lines_of bytes) c.in-Err.fault) c.as_bytes-2.ensures.value
    c.in-Err.ensures.refused in
    let counted = c.as_slice.ensures.value ∙ lines.2 in
    let named : is_name c.args.settings.now.institution.now ≡ true = grind (arith, common_steps) in
    inr (inr (
      named,
      (
        lines.0,
        text,
        c.in-Err.fault,
        lines.1,
        bad,
        subst
            (λ (counts : List ℕ).
            IsTraced c.args.format c.args.sources.now counts c.in-Err.fault c.trace.result)
            counted (c.trace.ensures c.args.settings.now lines.0 text lines.1 counted),
      ),
    ))

pub returns-in_err-text-clause-refused : goal.returns-in_err-text-clause-refused
returns-in_err-text-clause-refused c =
    let named : is_name c.args.settings.now.institution.now ≡ true = grind (arith, common_steps) in
    handed_on c.from_residual.result (IsFault c.args.settings.now c.args.format c.args.sources.now)
    c.in_err-text.field-0.0 (inr (inl (named, c.in_err-text.ensures.refused))) c.from_residual.ensures.1
