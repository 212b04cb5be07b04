use Rattle.std.proofs.Common.{◌≡◌, ◌∙◌, ap}
use Rattle.std.specs.Arc.{arc_value}
use Rattle.hd_open_shelf.specs.Counts.{of_home, of_title}
use Rattle.hd_catalogue.specs.Contents.{facts_of}
use Rattle.hd_copies.specs.Standing.{facts, standing}
use Rattle.hd_copies.proofs.Answering.{bit-one, home-is, one-is, title-is}
use Rattle.hd_copies.proofs.copies.Copies.on_shelf.Goals as goal

pub returns-in-Any : goal.returns-in-Any
unfolding standing
returns-in-Any g c = λ d e.
    let x = c.self.inside.indexes in
    let count : c.of_title.result ≡ of_title x.stock c.args.title =
    c.of_title.ensures ∙ ap (λ (v : _). of_title v.indexes.stock c.args.title) c.self-inside.view_is in
    rw (← c.self.view_is, c.in-Any.is)
    (title-is (facts_of (arc_value c.self.inside.catalogue)) c.self.inside.states.items x d c.args.title
    c.args.pickup c.of_title.result c.self.invariant (rw (← c.self.view_is) at e) count)

pub returns-in-One : goal.returns-in-One
unfolding standing
returns-in-One g c = λ d e.
    rw (c.in-One.is, c.from.ensures, c.stands_ready.ensures)
    (bit-one _ ∙ one-is (facts c.args.self.now) d
    (standing c.args.self.now) c.args.title c.in-One.copy c.args.pickup e)

pub returns-in-AtBranch : goal.returns-in-AtBranch
unfolding standing
returns-in-AtBranch g c = λ d e.
    let x = c.self.inside.indexes in
    let count : c.of_home.result ≡ of_home x.stock c.args.title c.args.pickup =
    c.of_home.ensures
    ∙ ap (λ (v : _). of_home v.indexes.stock c.args.title c.args.pickup) c.self-inside.view_is in
    rw (← c.self.view_is, c.in-AtBranch.is)
    (home-is (facts_of (arc_value c.self.inside.catalogue)) c.self.inside.states.items x d
    c.args.title c.args.pickup c.of_home.result c.self.invariant (rw (← c.self.view_is) at e) count)
