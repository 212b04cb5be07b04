use Rattle.std.proofs.Common.{◌≡◌, ◌∷◌, ◌∙◌, [], ap, sym, drop, take, refl}
use Rattle.hd_catalogue.specs.Text.{values_of}
use Rattle.hd_catalogue.specs.Values.{values_left}
use Rattle.hd_catalogue.proofs.LineLemmas.{values-front, values-whole}
use Rattle.hd_catalogue.proofs.values.Values.take.Goals as goal

pub returns-in-Some-clause-value : goal.returns-in-Some-clause-value
returns-in-Some-clause-value c =
    let text = c.in_ok-text.text.now in
    let all : c.args.self.now ≡ take c.in-Some.bar text ∷ values_of (drop 1 (drop c.in-Some.bar text)) =
    sym c.self.view_is ∙ ap values_left c.in_ok-text.was
    ∙ values-front text c.in-Some.bar c.in-Some.ensures in
    rw (all, c.split_at.ensures.front) refl

pub returns-in-Some-clause-rest : goal.returns-in-Some-clause-rest
returns-in-Some-clause-rest c =
    let text = c.in_ok-text.text.now in
    let all : c.args.self.now ≡ take c.in-Some.bar text ∷ values_of (drop 1 (drop c.in-Some.bar text)) =
    sym c.self.view_is ∙ ap values_left c.in_ok-text.was
    ∙ values-front text c.in-Some.bar c.in-Some.ensures in
    rw (all, c.split_at-in-Some.ensures.back, c.split_at.ensures.back) refl

pub returns-in-None-clause-value : goal.returns-in-None-clause-value
returns-in-None-clause-value c =
    let text = c.in_ok-text.text.now in
    let all : c.args.self.now ≡ text ∷ [] = sym c.self.view_is ∙ ap values_left c.in_ok-text.was
    ∙ values-whole text c.in-None.ensures in
    rw all refl

pub returns-in-None-clause-rest : goal.returns-in-None-clause-rest
returns-in-None-clause-rest c =
    let text = c.in_ok-text.text.now in
    let all : c.args.self.now ≡ text ∷ [] = sym c.self.view_is ∙ ap values_left c.in_ok-text.was
    ∙ values-whole text c.in-None.ensures in
    rw all refl
