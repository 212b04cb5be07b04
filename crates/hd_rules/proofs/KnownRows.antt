-- Rows that name things of the catalogue lead from a desk that does to a desk that does.
use Rattle.std.proofs.Common.{ℕ, suc, ◌<◌, arith, List, [], ◌∷◌, All, Option, Some, None}
use Rattle.hd_rules.specs.Words.{OpeningRow, Hold, CopyState, Shelf, OnLoan, InTransit, CopyCell, HoldCell}
use Rattle.hd_rules.specs.Words.{CopyHas, HoldHas}
use Rattle.hd_rules.specs.declared.rows.OpeningRow.TheVariants as row
use Rattle.hd_rules.specs.Facts.{Facts, AreInRange}
use Rattle.hd_rules.specs.Desk.{Desk, put, at_home}
use Rattle.hd_rules.specs.Settle.{with_copy}
use Rattle.hd_rules.specs.Known.{IsKnownState, IsKnownHold, IsKnownHeld, IsKnownDesk, IsKnownRow}
use Rattle.hd_rules.specs.Rows.{kept_at, sent_from, given, with_row, with_rows}
use Rattle.hd_rules.proofs.Familiar.{hold_with}
use Rattle.hd_rules.proofs.FamiliarTurns.{put_known}

-- where a hold that gets the copy sends it is known
given_known : (k : Facts) (d : Desk) (c p : ℕ) (goes : Hold → CopyState) (o : Option Hold) → IsKnownDesk k d
    → c < k.copies → ((h : Hold) → IsKnownHold k h → IsKnownState k (goes h)) → IsKnownHeld k o
    → IsKnownDesk k (given k.title_of d c p goes o)
given_known k d c p goes None known in_c there held = known
given_known k d c p goes (Some h) known in_c there held =
    put_known k (put d (CopyCell c) (CopyHas (goes h))) (HoldCell (k.title_of c) p)
    (HoldHas (Some (with_copy (Some c) h)))
    (put_known k d (CopyCell c) (CopyHas (goes h)) known (there h held)) (hold_with k (Some c) h held in_c)

row_known : (k : Facts) (d : Desk) (r : OpeningRow) → AreInRange k → IsKnownDesk k d → IsKnownRow k r
    → IsKnownDesk k (with_row k.title_of d r)
row_known k d (row.Loan c l) range known is = put_known k d (CopyCell c) (CopyHas (OnLoan l)) known is.1
row_known k d (row.OpenShelf c b) range known is = put_known k d (CopyCell c) (CopyHas (Shelf b)) known is.1
row_known k d (row.Hold t h) range known is =
    put_known k d (HoldCell t h.patron) (HoldHas (Some h)) known is.1
row_known k d (row.HoldShelf c p place) range known is =
    given_known k d c p (kept_at p place) (d.hold (k.title_of c) p) known is.0 (λ h held. (held.pickup, is.1))
    (known.holds (k.title_of c) p (range.title_of c is.0) is.1)
row_known k d (row.HoldTransit c p from) range known is =
    given_known k d c p (sent_from p from) (d.hold (k.title_of c) p) known is.0
    (λ h held. (is.2, held.pickup, is.1))
    (known.holds (k.title_of c) p (range.title_of c is.0) is.1)
row_known k d (row.Transit c from to) range known is =
    put_known k d (CopyCell c) (CopyHas (InTransit (record { from = from; to = to; patron = None }))) known
    (is.1, is.2, tt)

pub rows_known : (k : Facts) (d : Desk) (rows : List OpeningRow) → AreInRange k → IsKnownDesk k d
    → All (IsKnownRow k) rows → IsKnownDesk k (with_rows k.title_of d rows)
rows_known k d [] range known all = known
rows_known k d (r ∷ rows) range known all =
    rows_known k (with_row k.title_of d r) rows range (row_known k d r range known (all 0 r (omega arith)))
    (λ i x below. all (suc i) x (omega (arith, below)))

pub told_known : (k : Facts) (rows : List OpeningRow) → AreInRange k → All (IsKnownRow k) rows
    → IsKnownDesk k (with_rows k.title_of (at_home k.home) rows)
told_known k rows range all =
    rows_known k (at_home k.home) rows range (record { copies = range.home; holds = λ t p in_t in_p. tt }) all
