use Rattle.std.proofs.Common.{◌∙◌, subst}
use Rattle.hd_hall.specs.Closings.{LacksReceipt}
use Rattle.hd_journal.specs.Openings.{Opening}
use Rattle.hd_hall.proofs.Lending.{written_back}
use Rattle.hd_hall.proofs.hall_state.HallState.close.Goals as goal

pub differing-requires-clause-seats : goal.differing-requires-clause-seats
differing-requires-clause-seats g c = rw c.as_mut_slice.ensures.value c.requires.seats

pub returns-in-None-clause-in_order : goal.returns-in-None-clause-in_order
returns-in-None-clause-in_order g c = rw (← c.as_mut_slice.ensures.value) c.differing.ensures.whole

pub returns-clause-missing : goal.returns-clause-missing
returns-clause-missing g c =
    let locked = c.args.self in
    let lacks = rw c.as_mut_slice.ensures.value at c.in-Some.ensures.some in (
      written_back c.args.seats.len c.args.seats.items c.differing.new.seats c.args.seats.ok.0
          (c.in-Some.ensures.same ∙ c.as_mut_slice.ensures.value),
      locked.ours,
      subst
          (λ (o : Opening). LacksReceipt o
          (g.K.Turns.turns locked.keeper) c.args.seats.items c.in-Some.number)
          locked.ours lacks,
      rw (← c.as_mut_slice.ensures.value) c.in-Some.ensures.whole,
    )
