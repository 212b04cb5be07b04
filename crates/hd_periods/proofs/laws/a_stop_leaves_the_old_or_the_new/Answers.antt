use Rattle.std.proofs.Common.{◌≡◌, inl, inr}
use Rattle.hd_periods.specs.Steps.{carry_steps}
use Rattle.hd_periods.proofs.Stops.{during}
use Rattle.hd_periods.proofs.Carrying.{old_or_new, at_the_end}
use Rattle.hd_periods.proofs.Libraries.{old_library, new_library, begins_old}
use Rattle.hd_periods.proofs.laws.a_stop_leaves_the_old_or_the_new.Goals as goal

pub returns-clause-stop : goal.returns-clause-stop
returns-clause-stop c bytes start left last next count later above library h =
    elim (old_or_new bytes start next left (begins_old start last next later above library)
    (during bytes count (carry_steps next) start (λ folder. folder ≡ start) left h)) [
      | inl old ↦ (old.others, inl (old_library next start left old.others last later above library old))
      | inr new ↦ (
        new.others,
        inr (record {
          library = new_library next start left new.others bytes last above library new.files;
          files = new.files;
        }),
      )
    ]

pub returns-clause-end : goal.returns-clause-end
returns-clause-end c bytes start left last next later above library h =
    let new = at_the_end bytes start next left (begins_old start last next later above library) h in
    record {
      library = new_library next start left new.others bytes last above library new.files;
      files = new.files;
    }
