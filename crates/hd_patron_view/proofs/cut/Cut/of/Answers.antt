use Rattle.std.proofs.Common.{sym, ◌∙◌, ap, ℕ, ◌-◌, Option, drop, take}
use Rattle.hd_rules.specs.Views.{as_far_as}
use Rattle.hd_patron_view.proofs.Paging.{cut_before}
use Rattle.hd_patron_view.proofs.cut.Cut.of.Goals as goal

pub returns-in-Some : goal.returns-in-Some
returns-in-Some c = λ items.
    ap (λ (n : ℕ). take n (drop c.saturating_sub-skip.result items)) c.saturating_sub.ensures
    ∙ cut_before c.saturating_sub-skip.result c.in-Some.last items
    ∙ ap (λ (n : ℕ). drop n (take c.in-Some.last items)) c.saturating_sub-skip.ensures
    ∙ ap (λ (o : Option ℕ). drop (c.args.wanted.now.first - 1) (as_far_as o items)) (sym c.in-Some.is)
