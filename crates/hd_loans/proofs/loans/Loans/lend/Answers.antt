use Rattle.std.proofs.Common.{◌≡◌, ◌<◌, ◌+◌, arith, ap, sym, ◌∙◌, None, length, get_or}
use Rattle.std.proofs.Math.ListN.{length-set}
use Rattle.std.proofs.lemmas.List.{get_or_default}
use Rattle.std.specs.FinMap.{get}
use Rattle.hd_loans.proofs.LoansLemmas.{AreCounts-lend, not_all}
use Rattle.hd_loans.proofs.loans.Loans.lend.Goals as goal

-- the count is below the number of copies
pub overflow_add-index_mut : goal.overflow_add-index_mut
overflow_add-index_mut g c =
    let inside = c.self.inside
    in let counts = c.self.invariant.counted
    in let at : c.number-patron.result < length inside.counts.items =
    omega (
      arith,
      ap (λ l. l.patrons) c.self.view_is,
      c.self.invariant.room,
      c.requires.patron,
      c.number-patron.ensures.value,
    )
    in let none : get inside.linked.loans c.args.copy ≡ None =
    rw (ap (λ l. l.loans) c.self.view_is) c.requires.free
    in let below : c.args.copy < inside.linked.copies =
    omega (arith, ap (λ l. l.copies) c.self.view_is, c.requires.copy)
    in let fewer =
    not_all inside.linked.loans inside.linked.copies c.args.copy c.number-patron.result inside.counts.items
    counts none below at
    in omega (
      arith,
      c.index_mut.ensures.value,
      get_or_default inside.counts.items c.number-patron.result c.index_mut.result.now 0 at,
      fewer,
      counts.few,
    )

pub invariant_of-self : goal.invariant_of-self
invariant_of-self g c =
    let inside = c.self.inside
    in let at : c.args.loan.patron < length inside.counts.items =
    omega (arith, ap (λ l. l.patrons) c.self.view_is, c.self.invariant.room, c.requires.patron)
    in let none : get inside.linked.loans c.args.copy ≡ None =
    rw (ap (λ l. l.loans) c.self.view_is) c.requires.free
    in let below : c.args.copy < inside.linked.copies =
    omega (arith, ap (λ l. l.copies) c.self.view_is, c.requires.copy)
    in let was : c.index_mut.result.now ≡ get_or inside.counts.items c.args.loan.patron 0 =
    c.index_mut.ensures.value
    ∙ ap (λ i. get_or inside.counts.items i c.index_mut.result.now) c.number-patron.ensures.value
    ∙ get_or_default inside.counts.items c.args.loan.patron c.index_mut.result.now 0 at
    in record {
      counted = rw (c.lend.ensures.loans, c.lend.ensures.copies, c.number-patron.ensures.value)
          (AreCounts-lend inside.linked.loans inside.linked.copies c.args.copy
          (c.index_mut.result.now + 1) inside.counts.items _
          c.self.invariant.counted none below at (omega (arith, was)));
      room = length-set inside.counts.items c.number-patron.result (c.index_mut.result.now + 1)
          ∙ c.self.invariant.room
          ∙ sym c.lend.ensures.patrons;
    }
