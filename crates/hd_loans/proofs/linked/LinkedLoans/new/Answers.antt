use Rattle.std.proofs.Common.{◌≡◌, ◌∙◌, ap, arith, length, get_or}
use Rattle.std.specs.FinMap.{empty}
use Rattle.std.proofs.Math.ListN.{replicate}
use Rattle.std.proofs.lemmas.List.{get_or-replicate, length-replicate}
use Rattle.hd_rules.specs.declared.limits.TheConstants.{MOST_COPIES}
use Rattle.hd_loans.proofs.LinkedLemmas.{AreLinked-empty}
use Rattle.hd_loans.proofs.linked.LinkedLoans.new.Goals as goal

pub invariant_of-result : goal.invariant_of-result
invariant_of-result g c =
    let none : c.grow.new.self.entries ≡ empty = c.in_ok-grow.ensures.entries ∙ c.new-table.ensures.entries
    in let lists = c.in_ok-lists.lists
    in let ends : lists.firsts ≡ replicate c.args.patrons MOST_COPIES = c.in_ok-lists.ensures.firsts
    in let long : length lists.firsts ≡ c.args.patrons =
    ap length ends ∙ length-replicate c.args.patrons MOST_COPIES
    in rw none (AreLinked-empty c.grow.new.self.size lists.firsts lists.nexts
    (omega (arith, c.in_ok-lists.ensures.nexts, c.in_ok-grow.ensures.ok, c.new-table.ensures.size))
    (λ p l. ap (λ xs. get_or xs p 0) ends
    ∙ get_or-replicate c.args.patrons p MOST_COPIES 0 (omega (arith, long))))
