use Rattle.std.proofs.Common.{inl, inr}
use Rattle.std.specs.List.{Contains}
use Rattle.hd_periods.proofs.LastLemmas.{complete_is_up_to}
use Rattle.hd_periods.proofs.library.lacking.Goals as goal

pub returns-in-None-clause-none : goal.returns-in-None-clause-none
returns-in-None-clause-none c whole joined above =
    elim c.in-None.ensures.none [
      | inl broken ↦ broken
      | inr complete ↦
          absurd (above (complete_is_up_to (Contains c.args.names.now) c.args.last c.args.name.now.file.number
          c.requires complete))
    ]
