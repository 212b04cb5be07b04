use Rattle.std.proofs.Common.{sym, arith}
use Rattle.std.proofs.lemmas.Grind.{common_steps}
use Rattle.hd_catalogue.proofs.names.Names.name.Goals as goal

pub returns-in-Some-clause-value : goal.returns-in-Some-clause-value
returns-in-Some-clause-value g c =
    rw (← c.self.view_is) (grind (arith, common_steps, c.in-Some.ensures.entry, c.as_slice.ensures))

pub returns-in-Some-clause-found : goal.returns-in-Some-clause-found
returns-in-Some-clause-found g c =
    let at = sym (returns-in-Some-clause-value g c) in
    rw (← c.self.view_is) (c.self.invariant c.args.number c.as_slice.result.now (rw (← c.self.view_is) at at))
