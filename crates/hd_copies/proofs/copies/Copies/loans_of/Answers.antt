use Rattle.std.proofs.Common.{◌≡◌, ◌∙◌, ap}
use Rattle.std.specs.Arc.{arc_value}
use Rattle.hd_loans.specs.Counts.{loans_of}
use Rattle.hd_catalogue.specs.Contents.{facts_of}
use Rattle.hd_copies.specs.Standing.{standing}
use Rattle.hd_copies.proofs.Answering.{loans-are}
use Rattle.hd_copies.proofs.copies.Copies.loans_of.Goals as goal

pub returns : goal.returns
unfolding standing
returns g c = λ d e.
    let x = c.self.inside.indexes in
    let count : c.count.result ≡ loans_of x.loans.loans x.loans.copies c.args.patron =
    c.count.ensures.value ∙ ap (λ (v : _).
    loans_of v.indexes.loans.loans v.indexes.loans.copies c.args.patron) c.self-inside.view_is in
    rw (← c.self.view_is)
    (loans-are (facts_of (arc_value c.self.inside.catalogue)) c.self.inside.states.items x d c.args.patron
    c.count.result c.self.invariant (rw (← c.self.view_is) at e) count)
