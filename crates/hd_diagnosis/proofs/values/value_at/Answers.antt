use Rattle.std.proofs.Common.{◌≡◌, ◌-◌, ◌+◌, ◌∙◌, suc, ap, drop, arith}
use Rattle.std.specs.Prelude.{slice_get}
use Rattle.hd_catalogue.specs.Text.{values_of}
use Rattle.hd_diagnosis.proofs.LineLemmas.{drop-suc, slice_get-drop}
use Rattle.hd_diagnosis.proofs.values.value_at.Goals as goal

pub loop-index-preserved : goal.loop-index-preserved
loop-index-preserved c =
    let next : suc c.loop-index.index ≡ c.loop-index.index + 1 = omega arith in
    c.take.ensures.rest ∙ ap (drop 1) c.loop-index.invariant
    ∙ drop-suc c.loop-index.index (values_of c.args.line.now)
    ∙ ap (λ n. drop n (values_of c.args.line.now)) next

pub returns : goal.returns
returns c =
    let last : c.loop-index.index ≡ c.args.number - 1 = omega (arith, c.saturating_sub-index-end.ensures) in
    c.take-2.ensures.value ∙ ap (λ vs. slice_get vs 0) c.loop-index.invariant
    ∙ slice_get-drop c.loop-index.index (values_of c.args.line.now)
    ∙ ap (slice_get (values_of c.args.line.now)) last
