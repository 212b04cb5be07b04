use Rattle.std.proofs.Common.{sym, subst}
use Rattle.hd_index.specs.Rising.{AreBelow}
use Rattle.hd_index.specs.RowValue.{RowValue}
use Rattle.hd_index.proofs.RisingLemmas.{rising_push}
use Rattle.hd_index.proofs.row.Row.push.Goals as goal

pub invariant_of-self : goal.invariant_of-self
invariant_of-self g c =
    let below =
    subst (λ (r : RowValue). AreBelow c.args.place r.places) (sym c.self.view_is) c.requires.above in
    rw c.push_reserved.ensures.items
    (rising_push c.self.inside.places.items c.args.place c.self.invariant below)
