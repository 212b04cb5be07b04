use Rattle.std.proofs.Common.{◌≡◌, ◌+◌, ◌<◌, Some, sym, arith, ap, ◌∷◌, length}
use Rattle.std.proofs.lemmas.Grind.{common_steps}
use Rattle.std.proofs.lemmas.Bool.Decides.{nat_tests}
use Rattle.std.specs.FinMap.{get}
use Rattle.hd_rules.specs.declared.limits.TheConstants.{MOST_COPIES}
use Rattle.hd_transit.specs.Bound.{bound_from}
use Rattle.hd_transit.proofs.TransitsLemmas.{bound_from-step, some_where}
use Rattle.hd_transit.proofs.bound.BoundIterator.next.Goals as goal

pub returns-in-loop-self : goal.returns-in-loop-self
returns-in-loop-self g c =
    let now = c.loop-self.self-inside
    in let rest = bound_from now.table.now.entries now.table.now.size now.to (now.next + 1)
    in let step =
    bound_from-step now.table.now.entries now.table.now.size now.to now.next
    (omega (arith, c.loop-self-test.true, c.size.ensures.value))
    in let found : get now.table.now.entries now.next ≡ Some c.in-Some.transit.now =
    sym {b = get now.table.now.entries now.next} c.in-Some.ensures
    in let known : now.next < MOST_COPIES =
    c.loop-self.invariant.known.known now.next c.in-Some.transit.now found
    in let given : c.new.result ≡ Some now.next =
    some_where c.new.result (now.next < MOST_COPIES) now.next c.new.ensures known
    in let split : c.args.self.now ≡ now.next ∷ rest =
    grind (arith, nat_tests, common_steps, step, found, c.loop-self.invariant.same_rest, c.if-eq.ensures)
    in rw given (record {
      steps = split;
      goes = record { on = λ f. (tt, tt, omega (arith, ap length split)); keeps = tt; rests = λ f. tt };
    })
