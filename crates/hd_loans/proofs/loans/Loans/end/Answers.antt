use Rattle.std.proofs.Common.{◌≡◌, ◌-◌, arith, ap, sym, ◌∙◌, Some, None, get_or}
use Rattle.std.proofs.Math.ListN.{length-set}
use Rattle.std.proofs.lemmas.List.{get_or_default}
use Rattle.std.specs.FinMap.{get}
use Rattle.hd_lemmas.proofs.Maps.{remove-absent}
use Rattle.hd_loans.proofs.LoansLemmas.{AreCounts-end, counted}
use Rattle.hd_loans.proofs.loans.Loans.end.Goals as goal

pub invariant_of-self : goal.invariant_of-self
invariant_of-self g c =
    let linked = c.self.inside.linked
    in let none : get linked.loans c.args.copy ≡ None = sym c.in_err-loan.ensures.ended
    in record {
      counted = rw (
        c.in_err-loan.ensures.loans,
        c.in_err-loan.ensures.copies,
        remove-absent linked.loans c.args.copy none,
      )
          c.self.invariant.counted;
      room = c.self.invariant.room ∙ sym c.in_err-loan.ensures.patrons;
    }

-- the count is at least 1
pub overflow_sub-index_mut : goal.overflow_sub-index_mut
overflow_sub-index_mut g c =
    let inside = c.self.inside
    in let loan = c.in_ok-loan.loan
    in let some : get inside.linked.loans c.args.copy ≡ Some loan = sym c.in_ok-loan.ensures.ended
    in let counts = c.self.invariant.counted
    in let within = counts.within c.args.copy loan some
    in let was : c.index_mut.result.now ≡ get_or inside.counts.items loan.patron 0 =
    c.index_mut.ensures.value
    ∙ ap (λ i. get_or inside.counts.items i c.index_mut.result.now) c.number.ensures.value
    ∙ get_or_default inside.counts.items loan.patron c.index_mut.result.now 0 within.1
    in omega (
      arith,
      was,
      counted inside.linked.loans inside.linked.copies c.args.copy inside.counts.items loan counts some,
    )

pub invariant_of-self-2 : goal.invariant_of-self-2
invariant_of-self-2 g c =
    let inside = c.self.inside
    in let loan = c.in_ok-loan.loan
    in let some : get inside.linked.loans c.args.copy ≡ Some loan = sym c.in_ok-loan.ensures.ended
    in let counts = c.self.invariant.counted
    in let within = counts.within c.args.copy loan some
    in let was : c.index_mut.result.now ≡ get_or inside.counts.items loan.patron 0 =
    c.index_mut.ensures.value
    ∙ ap (λ i. get_or inside.counts.items i c.index_mut.result.now) c.number.ensures.value
    ∙ get_or_default inside.counts.items loan.patron c.index_mut.result.now 0 within.1
    in let one =
    counted inside.linked.loans inside.linked.copies c.args.copy inside.counts.items loan counts some
    in record {
      counted = rw (c.in_ok-loan.ensures.loans, c.in_ok-loan.ensures.copies, c.number.ensures.value)
          (AreCounts-end inside.linked.loans inside.linked.copies c.args.copy
          (c.index_mut.result.now - 1) inside.counts.items loan
          counts some (omega (arith, was, one)));
      room = length-set inside.counts.items c.number.result (c.index_mut.result.now - 1)
          ∙ c.self.invariant.room
          ∙ sym c.in_ok-loan.ensures.patrons;
    }
