use Rattle.std.proofs.Common.{◌≡◌, ◌<◌, ◌∙◌, ap, Some, None, length, get_or, arith}
use Rattle.std.proofs.lemmas.List.{get_or_default}
use Rattle.hd_rules.specs.declared.limits.TheConstants.{MOST_COPIES}
use Rattle.hd_loans.specs.Lent.{is_lent_to}
use Rattle.hd_loans.specs.Links.{IsLastBelow, AreLinked, LinksValue}
use Rattle.hd_loans.proofs.LinkedLemmas.{both, AreLinked-lend_first, AreLinked-lend_behind}
use Rattle.hd_loans.proofs.links.Links.put.Goals as goal

pub returns-in-Some-clause-linked : goal.returns-in-Some-clause-linked
returns-in-Some-clause-linked g c loans copies loan same behind linked =
    let fs = c.self.inside.firsts.items
    in let ns = c.self.inside.nexts.items
    in let k = c.args.copy
    in let last = c.in-Some.before
    in let was : AreLinked loans copies (both fs ns) = rw c.self.view_is linked
    in let last_is : IsLastBelow (is_lent_to loans loan.patron) k (Some last) =
    rw c.in-Some.is at behind.last_is
    in let last_in = rw c.in-Some.is at c.requires.last_in
    in let nexts = ap (λ (v : LinksValue). length v.nexts) c.self.view_is
    in let firsts = ap (λ (v : LinksValue). length v.firsts) c.self.view_is
    in let room : last < length ns = omega (arith, nexts, last_in)
    in let next : c.index-next.result.now ≡ get_or ns last 0 =
    c.index-next.ensures ∙ ap (λ i. get_or ns i c.index-next.result.now) c.number-before.ensures.value
    ∙ get_or_default ns last c.index-next.result.now 0 room
    in let kn : k < copies = omega (arith, was.room, nexts, c.requires.copy_in)
    in let km : k < MOST_COPIES = omega (arith, c.number-at.ensures.value, c.number-at.ensures.in_range)
    in let pl : loan.patron < length fs = omega (arith, same, firsts, c.requires.patron_in)
    in rw (c.number-at.ensures.value, c.number-before.ensures.value, c.to.ensures, next)
    (AreLinked-lend_behind loans copies k loan last fs ns was behind.free kn km pl last_is)

pub returns-in-None-clause-linked : goal.returns-in-None-clause-linked
returns-in-None-clause-linked g c loans copies loan same behind linked =
    let fs = c.self.inside.firsts.items
    in let ns = c.self.inside.nexts.items
    in let k = c.args.copy
    in let was : AreLinked loans copies (both fs ns) = rw c.self.view_is linked
    in let last_is : IsLastBelow (is_lent_to loans loan.patron) k None = rw c.in-None.is at behind.last_is
    in let nexts = ap (λ (v : LinksValue). length v.nexts) c.self.view_is
    in let firsts = ap (λ (v : LinksValue). length v.firsts) c.self.view_is
    in let pl : loan.patron < length fs = omega (arith, same, firsts, c.requires.patron_in)
    in let patron_in : c.args.patron < length fs = omega (arith, firsts, c.requires.patron_in)
    in let next : c.index-next-in-None.result.now ≡ get_or fs c.args.patron 0 =
    c.index-next-in-None.ensures
    ∙ ap (λ i. get_or fs i c.index-next-in-None.result.now) c.number-patron.ensures.value
    ∙ get_or_default fs c.args.patron c.index-next-in-None.result.now 0 patron_in
    in let kn : k < copies = omega (arith, was.room, nexts, c.requires.copy_in)
    in let km : k < MOST_COPIES = omega (arith, c.number-at.ensures.value, c.number-at.ensures.in_range)
    in rw (c.number-at.ensures.value, c.number-patron.ensures.value, c.to-in-None.ensures, next, ← same)
    (AreLinked-lend_first loans copies k loan fs ns was behind.free kn km pl last_is)
