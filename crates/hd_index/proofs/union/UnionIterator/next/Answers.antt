use Rattle.std.proofs.Common.{◌≡◌, ◌<◌, List, ℕ, Bor, None, Some, ap, arith, length, map, rules, sym, take}
use Rattle.std.proofs.Common.{◌∙◌}
use Rattle.std.proofs.lemmas.List.{length-take-le, take_at}
use Rattle.hd_index.specs.Union.{least_first, union}
use Rattle.hd_index.proofs.Ahead.{ahead, behind_first, some_lists}
use Rattle.hd_index.proofs.UnionLemmas.{least_front, least_none, past_rising}
use Rattle.hd_index.proofs.union.UnionIterator.next.Goals as goal

pub returns-in_err-least-clause-steps : goal.returns-in_err-least-clause-steps
returns-in_err-least-clause-steps c =
    let none : least_first None c.args.self.now ≡ None =
    ap (least_first None) (sym c.self.view_is) ∙ sym c.least_first.ensures ∙ c.in_err-least.was in
    let empty = least_none c.args.self.now none in
    rw c.from_residual.ensures (empty, empty)

pub invariant_of-self-2 : goal.invariant_of-self-2
invariant_of-self-2 c =
    let now : Bor (List ℕ) → List ℕ = λ list. list.now in
    let few = c.self.invariant.few in
    let long : length c.pass.new.lists ≡ c.self.inside.count =
    c.pass.auto.lists ∙ length-take-le c.self.inside.count c.self.inside.lists (omega (arith, c.self.told)) in
    let some : 0 < c.self.inside.count =
    some_lists now c.self.inside.count c.in_ok-least.least c.self.inside.lists
    (sym c.least_first.ensures ∙ c.in_ok-least.was) in
    record {
      few = few;
      behind = behind_first now c.self.inside.count c.lower_bound-self-inside.result c.pass.new.lists _ some
          long c.lower_bound-self-inside.ensures;
      rising = rw (take_at c.pass.new.lists _ c.self.inside.count long, c.pass.ensures)
          (past_rising c.in_ok-least.least
          (map now (take c.self.inside.count c.self.inside.lists)) c.self.invariant.rising);
    }

pub returns-clause-steps : goal.returns-clause-steps
returns-clause-steps c =
    let now : Bor (List ℕ) → List ℕ = λ list. list.now in
    let few = c.self.invariant.few in
    let lists = map now (take c.self.inside.count c.self.inside.lists) in
    let long : length c.pass.new.lists ≡ c.self.inside.count =
    c.pass.auto.lists ∙ length-take-le c.self.inside.count c.self.inside.lists (omega (arith, c.self.told)) in
    let some : least_first None lists ≡ Some c.in_ok-least.least =
    sym c.least_first.ensures ∙ c.in_ok-least.was in
    rw (take_at c.pass.new.lists _ c.self.inside.count long, c.pass.ensures, ← c.self.view_is)
    (least_front lists c.in_ok-least.least c.self.invariant.rising some)

pub returns-clause-goes : goal.returns-clause-goes
returns-clause-goes c = let steps = returns-clause-steps c in search rules

pub invariant_of-self : goal.invariant_of-self
invariant_of-self c =
    let now : Bor (List ℕ) → List ℕ = λ list. list.now in
    (ahead now c.self.inside.count c.self.inside.others c.in-Some.first.now c.in-Some.rest _
    c.self.inside.lists c.self.invariant
    (omega (arith, c.self.told)) c.in-Some.ensures.cases.0
    (omega (arith, c.from.ensures, c.if-from-self.true))).lists

pub returns-then-from-self-clause-steps : goal.returns-then-from-self-clause-steps
returns-then-from-self-clause-steps c =
    let now : Bor (List ℕ) → List ℕ = λ list. list.now in
    ap union (sym c.self.view_is)
    ∙ (ahead now c.self.inside.count c.self.inside.others c.in-Some.first.now c.in-Some.rest _
    c.self.inside.lists c.self.invariant
    (omega (arith, c.self.told)) c.in-Some.ensures.cases.0
    (omega (arith, c.from.ensures, c.if-from-self.true))).steps

pub returns-then-from-self-clause-goes : goal.returns-then-from-self-clause-goes
returns-then-from-self-clause-goes c = let steps = returns-then-from-self-clause-steps c in search rules
