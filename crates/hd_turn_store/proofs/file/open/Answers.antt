use Rattle.std.proofs.lemmas.Result.{IfOk-weaker}
use Rattle.hd_turn_store.proofs.Finding.{found_blank, found_held}
use Rattle.hd_turn_store.proofs.file.open.Goals as goal

pub returns-in-Ok-clause-read : goal.returns-in-Ok-clause-read
returns-in-Ok-clause-read g c =
    IfOk-weaker c.readable.result _ _ (λ r it. rw c.in-Ok.is it) c.readable.ensures.ok

pub returns-in-Ok-clause-begun : goal.returns-in-Ok-clause-begun
returns-in-Ok-clause-begun g c =
    IfOk-weaker c.readable.result _ _ (λ r it. it.begun) c.readable.ensures.ok

pub returns-in-Ok-clause-new : goal.returns-in-Ok-clause-new
returns-in-Ok-clause-new g c =
    let found = c.in-Ok.found.found in
    IfOk-weaker c.readable.result _ _
    (λ r it clean is head ks. found_blank _ _ found (it.clean clean) (it.blank is) head ks) c.readable.ensures.ok

pub returns-in-Ok-clause-restored : goal.returns-in-Ok-clause-restored
returns-in-Ok-clause-restored g c =
    let found = c.in-Ok.found.found in
    IfOk-weaker c.readable.result _ _ (λ r it clean old head ks held.
    it.same clean old head ks (found_held _ _ found (it.clean clean) head ks held (it.journal old))) c.readable.ensures.ok

pub returns-in-Ok-clause-known : goal.returns-in-Ok-clause-known
returns-in-Ok-clause-known g c =
    let found = c.in-Ok.found.found in
    IfOk-weaker c.readable.result _ _ (λ r it clean old head ks held.
    it.known clean old head ks (found_held _ _ found (it.clean clean) head ks held (it.journal old))) c.readable.ensures.ok
