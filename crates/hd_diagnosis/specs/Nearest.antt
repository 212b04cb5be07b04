-- Of names that may have been meant the first of the nearest.
use Rattle.std.specs.Prelude.{nat_le, Option, None, Some, if◌then◌else◌}
use Rattle.hd_diagnosis.specs.declared.near.Near.{Near}

-- the one before stays, unless fewer edits lead to the next
abbrev pub nearer : Option Near → Near → Near
nearer None next = next
nearer (Some before) next = if nat_le before.edits next.edits then before else next
