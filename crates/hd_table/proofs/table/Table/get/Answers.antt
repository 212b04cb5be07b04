use Rattle.std.proofs.Common.{arith, None}
use Rattle.std.proofs.lemmas.Grind.{common_steps}
use Rattle.std.proofs.lemmas.List.{get_or_past}
use Rattle.hd_table.proofs.SlotsLemmas.{get-map_of}
use Rattle.hd_table.proofs.table.Table.get.Goals as goal

pub returns : goal.returns
returns g c =
    rw (← c.self.view_is, get-map_of c.self.inside.slots.items c.args.at)
    (grind (arith, common_steps, c.in_ok-get.ensures, c.as_ref.ensures.value))

pub returns-in_err-get : goal.returns-in_err-get
returns-in_err-get g c =
    rw (← c.self.view_is, get-map_of c.self.inside.slots.items c.args.at)
    (grind (arith, common_steps, c.in_err-get.ensures, get_or_past c.self.inside.slots.items c.args.at None))
