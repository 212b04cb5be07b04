-- The rows that a line can say.
use Rattle.std.specs.Prelude.{◌≡◌, ℕ, ◌≤◌, None}
use Rattle.hd_rules.specs.declared.rows.OpeningRow.{OpeningRow}
use Rattle.hd_rules.specs.declared.limits.TheConstants.{MOST_RENEWALS}
use Rattle.hd_rules.specs.declared.rows.OpeningRow.TheVariants as row
use Rattle.hd_opening.specs.declared.limits.TheConstants.{MOST_PLACES}

-- The numbers of a row lie within their limits, and its hold waits for a copy.
abbrev pub IsInLimits : ℕ → OpeningRow → Type 0
IsInLimits last (row.Loan c l) = l.renewals ≤ MOST_RENEWALS
IsInLimits last (row.OpenShelf c b) = Unit {0}
IsInLimits last (row.Hold t h) = (1 ≤ h.stamp) × (h.stamp ≤ last) × (h.copy ≡ None)
IsInLimits last (row.HoldShelf c p place) = (1 ≤ place) × (place ≤ MOST_PLACES)
IsInLimits last (row.HoldTransit c p from) = Unit {0}
IsInLimits last (row.Transit c from to) = Unit {0}
