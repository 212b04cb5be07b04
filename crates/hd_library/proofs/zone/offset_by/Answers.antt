use Rattle.std.proofs.Common.{IfOk, sym, subst}
use Rattle.hd_library.specs.Moments.{IsOffsetThen}
use Rattle.hd_zone.specs.Zones.{IsOffsetAt}
use Rattle.hd_library.proofs.zone.offset_by.Goals as goal

pub returns-in-Ok : goal.returns-in-Ok
returns-in-Ok g c = (
  c.clock.result,
  c.clock.ensures,
  subst (λ r. IfOk c.offset_told.result (IsOffsetThen c.args.file.now r)) (sym c.in-Ok.is)
      (subst (λ n. IfOk c.offset_told.result (IsOffsetAt c.args.file.now n)) c.as_secs.ensures c.offset_told.ensures),
)
