use Rattle.std.proofs.Common.{sym, ap, subst}
use Rattle.jiff_tz.specs.Tzif.{offset_at}
use Rattle.hd_zone.proofs.MovedLemmas.{trans}
use Rattle.hd_zone.specs.Zones.{IsWhole}
use Rattle.hd_zone.proofs.zone.offset_at.Goals as goal

pub returns-in-Some-minutes_of-clause-offset : goal.returns-in-Some-minutes_of-clause-offset
returns-in-Some-minutes_of-clause-offset c = (
  c.in_ok-zone.zone,
  c.in_ok-zone.ensures.zone,
  trans c.in-Some-minutes_of.ensures.minutes
      (ap (λ o. o.seconds)
      (trans c.to_offset.ensures (ap (offset_at c.in_ok-zone.zone) c.in-Some.ensures.moment))),
)

pub returns-clause-fault : goal.returns-clause-fault
returns-clause-fault c = (
  c.in_ok-zone.zone,
  c.in_ok-zone.ensures.zone,
  λ whole. c.in-None.ensures.none
      (subst IsWhole
      (sym (ap (λ o. o.seconds)
      (trans c.to_offset.ensures (ap (offset_at c.in_ok-zone.zone) c.in-Some.ensures.moment))))
      whole),
)
