use Rattle.std.proofs.Common.{arith, ◌≡◌, ◌∙◌, ap, get_or}
use Rattle.std.specs.FinMap.{empty}
use Rattle.std.proofs.Math.ListN.{replicate}
use Rattle.std.proofs.lemmas.List.{get_or-replicate}
use Rattle.hd_loans.proofs.LoansLemmas.{AreCounts-empty}
use Rattle.hd_loans.proofs.loans.Loans.new.Goals as goal

pub invariant_of-result : goal.invariant_of-result
invariant_of-result g c =
    let linked = c.in_ok-linked.linked
    in let counts = c.in_ok-counts.counts
    in let none : linked.loans ≡ empty = c.in_ok-linked.ensures.loans
    in let zeros : counts.items ≡ replicate c.args.patrons 0 =
    c.in_ok-counts.ensures.items_if_clones_equal (λ y e. e)
    in record {
      counted =
          rw none (AreCounts-empty linked.copies counts.items (omega (arith, c.in_ok-linked.ensures.copies))
          (λ p l. ap (λ cs. get_or cs p 0) zeros
          ∙ get_or-replicate c.args.patrons p 0 0 (omega (arith, c.in_ok-counts.ensures.len, counts.ok))));
      room = omega (arith, c.in_ok-counts.ensures.len, counts.ok, c.in_ok-linked.ensures.patrons);
    }
