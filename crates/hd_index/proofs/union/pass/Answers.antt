use Rattle.std.proofs.Common.{◌≡◌, List, ℕ, arith, length, map, Bor}
use Rattle.std.proofs.lemmas.List.{length-map}
use Rattle.hd_index.specs.Union.{past}
use Rattle.hd_index.proofs.Passing.{passed_more}
use Rattle.hd_index.proofs.UnionLemmas.{past_there, past_other, past_none}
use Rattle.hd_index.proofs.union.pass.Goals as goal
use Rattle.hd_index.proofs.union.pass.Goals.{in-Some+then-first-number, in-Some+else-first-number, in_default}

pub loop-list-preserved : goal.loop-list-preserved
loop-list-preserved c =
    let now : Bor (List ℕ) → List ℕ = λ list. list.now in
    let lists = map now c.args.lists.now in
    let long : length lists ≡ length c.args.lists.now = length-map c.args.lists.now now in
    let same = c.loop-list.auto.lists in
    let more = passed_more now (past c.args.number) lists c.loop-list.lists c.loop-list.list-index in
    elim c.match-split_first.branch [
      | in-Some+then-first-number w ↦ rw w.lists-is
          (more _ _ (omega arith) (omega arith) c.loop-list.invariant
          (past_there c.args.number w.in-Some.first.now _ w.in-Some.rest.now w.in-Some.ensures.cases.0
          w.if-first-number.true))
      | in-Some+else-first-number w ↦ rw w.lists-is
          (more _ _ (omega arith) (omega arith) c.loop-list.invariant
          (past_other c.args.number w.in-Some.first.now _ w.in-Some.rest.now w.in-Some.ensures.cases.0
          w.if-first-number.false))
      | in_default w ↦ rw w.lists-is (more _ _ (omega arith) (omega arith) c.loop-list.invariant
          (past_none c.args.number _ w.in_default.ensures.cases))
    ]
