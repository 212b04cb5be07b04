use Rattle.std.proofs.Common.{◌≡◌, ◌<◌, ◌∙◌, ap, Some, None, length, get_or, arith}
use Rattle.std.proofs.lemmas.List.{get_or_default}
use Rattle.hd_loans.specs.Lent.{is_lent_to}
use Rattle.hd_loans.specs.Links.{IsLastBelow, AreLinked, LinksValue}
use Rattle.hd_loans.proofs.LinkedLemmas.{both, AreLinked-end_first, AreLinked-end_behind}
use Rattle.hd_loans.proofs.links.Links.take.Goals as goal

pub returns-in-Some-clause-linked : goal.returns-in-Some-clause-linked
returns-in-Some-clause-linked g c loans copies loan same behind linked =
    let fs = c.self.inside.firsts.items
    in let ns = c.self.inside.nexts.items
    in let k = c.args.copy
    in let was : AreLinked loans copies (both fs ns) = rw c.self.view_is linked
    in let last_is : IsLastBelow (is_lent_to loans loan.patron) k (Some c.in-Some.before) =
    rw c.in-Some.is at behind.last_is
    in let room : k < length ns =
    omega (arith, ap (λ (v : LinksValue). length v.nexts) c.self.view_is, c.requires.copy_in)
    in let next : c.index-next.result.now ≡ get_or ns k 0 =
    c.index-next.ensures ∙ ap (λ i. get_or ns i c.index-next.result.now) c.number.ensures.value
    ∙ get_or_default ns k c.index-next.result.now 0 room
    in rw (c.number-in-Some.ensures.value, next)
    (AreLinked-end_behind loans copies k loan c.in-Some.before fs ns was behind.lent last_is)

pub returns-in-None-clause-linked : goal.returns-in-None-clause-linked
returns-in-None-clause-linked g c loans copies loan same behind linked =
    let fs = c.self.inside.firsts.items
    in let ns = c.self.inside.nexts.items
    in let k = c.args.copy
    in let was : AreLinked loans copies (both fs ns) = rw c.self.view_is linked
    in let last_is : IsLastBelow (is_lent_to loans loan.patron) k None = rw c.in-None.is at behind.last_is
    in let room : k < length ns =
    omega (arith, ap (λ (v : LinksValue). length v.nexts) c.self.view_is, c.requires.copy_in)
    in let next : c.index-next.result.now ≡ get_or ns k 0 =
    c.index-next.ensures ∙ ap (λ i. get_or ns i c.index-next.result.now) c.number.ensures.value
    ∙ get_or_default ns k c.index-next.result.now 0 room
    in rw (c.number-in-None.ensures.value, next, ← same)
    (AreLinked-end_first loans copies k loan fs ns was behind.lent last_is)
