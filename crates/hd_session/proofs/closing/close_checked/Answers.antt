use Rattle.std.proofs.Common.{◌∙◌, ap, ℕ, List, ◌++◌, ◌∷◌, []}
use Rattle.hd_session.proofs.Ends.{sealed_so}
use Rattle.hd_session.proofs.closing.close_checked.Goals as goal

pub returns-clause-text : goal.returns-clause-text
returns-clause-text g c =
    c.put_return.ensures.items
    ∙ (ap (λ (t : List ℕ). t ++ 13 ∷ []) (rw c.unwrap.ensures at c.seal.ensures.appended)
    ∙ sealed_so c.args.from c.args.out.now.items _)
