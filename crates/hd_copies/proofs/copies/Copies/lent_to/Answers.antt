use Rattle.std.proofs.Common.{◌≡◌, ◌∙◌, ap, length}
use Rattle.std.specs.Arc.{arc_value}
use Rattle.hd_loans.specs.Counts.{loans_of}
use Rattle.hd_loans.specs.Lent.{lent_to as lent_by}
use Rattle.hd_catalogue.specs.Contents.{facts_of}
use Rattle.hd_copies.specs.Standing.{standing}
use Rattle.hd_copies.proofs.Answering.{lent-are, loans-are}
use Rattle.hd_copies.proofs.copies.Copies.lent_to.Goals as goal

pub returns-clause-copies : goal.returns-clause-copies
unfolding standing
returns-clause-copies g c =
    let x = c.self.inside.indexes in
    let list : c.of.result ≡ lent_by x.loans.loans x.loans.copies c.args.patron =
    c.of.ensures.copies ∙ ap (λ (v : _). lent_by v.indexes.loans.loans v.indexes.loans.copies c.args.patron)
    c.self-inside.view_is in
    rw (← c.self.view_is)
    (lent-are (facts_of (arc_value c.self.inside.catalogue)) c.self.inside.states.items x c.args.patron
    c.of.result c.self.invariant list)

pub returns-clause-count : goal.returns-clause-count
unfolding standing
returns-clause-count g c = λ d e.
    let x = c.self.inside.indexes in
    let count : length c.of.result ≡ loans_of x.loans.loans x.loans.copies c.args.patron =
    c.of.ensures.count ∙ ap (λ (v : _). loans_of v.indexes.loans.loans v.indexes.loans.copies c.args.patron)
    c.self-inside.view_is in
    rw (← c.self.view_is)
    (loans-are (facts_of (arc_value c.self.inside.catalogue)) c.self.inside.states.items x d c.args.patron
    (length c.of.result) c.self.invariant (rw (← c.self.view_is) at e) count)
