use Rattle.std.proofs.Common.{◌≡◌, ℕ, ◌<◌, true, false, ap, sym, ◌∙◌, arith, inl, inr}
use Rattle.std.proofs.lemmas.Bool.{cases_lt}
use Rattle.std.specs.Cmp.{nat_cmp_is}
use Rattle.std.specs.Ordering.{nat_cmp, is_lt}
use Rattle.std.specs.declared.cmp.Ordering.TheVariants.{Equal, Greater}
use Rattle.hd_loans.specs.Lent.{is_lent_to}
use Rattle.hd_loans.proofs.LinksLemmas.{reached-passes}
use Rattle.hd_loans.proofs.linked.LinkedLoans.last_below.Goals as goal

-- what a comparison of copies says
lt_from_is_lt : (a b : ℕ) → is_lt (nat_cmp a b) ≡ true → a < b
lt_from_is_lt a b is = elim (cases_lt a b) [
  | inl less ↦ less
  | inr no_less ↦ elim (cases_lt b a) [
    | inl more ↦ absurd (let no : false ≡ true = ap is_lt (nat_cmp_is a b Greater more) ∙ is in cc)
    | inr no_more ↦
        let same : a ≡ b = omega arith
        in absurd (let no : false ≡ true = ap is_lt (nat_cmp_is a b Equal same) ∙ is in cc)
  ]
]

pub loop-lent-preserved : goal.loop-lent-preserved
loop-lent-preserved g c =
    let lent = c.in-Some.lent
    in let loans = ap (λ v. v.loans) c.self.view_is
    in let is : is_lent_to c.args.self.now.loans c.args.patron lent ≡ true =
    rw c.in-Some.ensures.1
    (reached-passes (is_lent_to c.args.self.now.loans c.args.patron) c.args.copy c.loop-lent.last
    c.loop-lent.link c.loop-lent.invariant.reached c.in-Some.ensures.0)
    in record {
      reached = (
        lt_from_is_lt lent c.args.copy (sym c.lt.ensures ∙ c.if-lt.true),
        is,
        rw (c.next_to-link.ensures, ← loans) (c.self.invariant.next c.args.patron lent (rw loans is)),
      );
    }
