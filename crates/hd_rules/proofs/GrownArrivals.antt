-- A catalogue grows where each new copy's arrival stands behind the rows of its opening.
use Rattle.std.proofs.Common.{arith, ◌≡◌, refl, sym, ◌∙◌, ap, subst, ℕ, suc, zero, ◌+◌, ◌-◌, ◌<◌, ◌≤◌, ◌⊎◌}
use Rattle.std.proofs.Common.{inl, inr, true, ◌==◌, List, [], ◌∷◌, ◌++◌, All, Option, Some}
use Rattle.std.proofs.Common.{None}
use Rattle.hd_rules.specs.Words.{OpeningRow, Hold, CopyState, Shelf, OnLoan, InTransit, CopyCell, HoldCell}
use Rattle.hd_rules.specs.Words.{CopyHas, HoldHas}
use Rattle.hd_rules.specs.declared.rows.OpeningRow.TheVariants as row
use Rattle.hd_rules.specs.Facts.{Facts, AreInRange}
use Rattle.hd_rules.specs.Desk.{Desk, put, at_home}
use Rattle.hd_rules.specs.Settle.{with_copy}
use Rattle.hd_rules.specs.Known.{IsKnownRow}
use Rattle.hd_rules.specs.Rows.{kept_at, sent_from, given, with_row, with_rows}
use Rattle.hd_rules.specs.Growth.{IsGrownDesk, IsLonger, Grows, arrivals, ArriveBehind}
use Rattle.hd_rules.proofs.Tests.{number_self}
use Rattle.hd_rules.proofs.Puts.{copy_cases}
use Rattle.hd_rules.proofs.Growing.{old_or_new}
use Rattle.hd_rules.proofs.GrownTurns.{put_grown}

-- the longer catalogue, each of whose copies is at home
abbrev homely : Facts → Facts
homely j = record j { opening = record { desk = at_home j.home; last = j.opening.last } }

rows_appended : (title_of : ℕ → ℕ) (d : Desk) (rows more : List OpeningRow)
    → with_rows title_of d (rows ++ more) ≡ with_rows title_of (with_rows title_of d rows) more
rows_appended title_of d [] more = refl
rows_appended title_of d (r ∷ rows) more = rows_appended title_of (with_row title_of d r) rows more

module _ (k j : Facts) (longer : IsLonger k j) (range : AreInRange k) where
  given_grown : (d e : Desk) (c p : ℕ) (goes : Hold → CopyState) (o : Option Hold)
      → IsGrownDesk k (homely j) d e → c < k.copies → p < k.patrons
      → IsGrownDesk k (homely j) (given k.title_of d c p goes o) (given k.title_of e c p goes o)
  given_grown d e c p goes None grown in_c in_p = grown
  given_grown d e c p goes (Some h) grown in_c in_p =
      put_grown k (homely j) (put d (CopyCell c) (CopyHas (goes h))) (put e (CopyCell c) (CopyHas (goes h)))
      (HoldCell (k.title_of c) p) (HoldHas (Some (with_copy (Some c) h)))
      (put_grown k (homely j) d e (CopyCell c) (CopyHas (goes h)) grown in_c)
      (range.title_of c in_c, in_p)

  given_both : (d e : Desk) (c p : ℕ) (goes : Hold → CopyState) → IsGrownDesk k (homely j) d e
      → c < k.copies → p < k.patrons
      → IsGrownDesk k (homely j) (given k.title_of d c p goes (d.hold (k.title_of c) p))
      (given j.title_of e c p goes (e.hold (j.title_of c) p))
  given_both d e c p goes grown in_c in_p =
      let title : j.title_of c ≡ k.title_of c = longer.title_of c in_c in
      let held : e.hold (j.title_of c) p ≡ d.hold (k.title_of c) p =
      ap (λ (t : ℕ). e.hold t p) title ∙ grown.holds (k.title_of c) p (range.title_of c in_c) in_p in
      subst (IsGrownDesk k (homely j) (given k.title_of d c p goes (d.hold (k.title_of c) p)))
      (sym (by_title (e.hold (j.title_of c) p) title
      ∙ ap (given k.title_of e c p goes) held))
      (given_grown d e c p goes (d.hold (k.title_of c) p) grown in_c in_p)
    where
      by_title : (o : Option Hold) → j.title_of c ≡ k.title_of c
          → given j.title_of e c p goes o ≡ given k.title_of e c p goes o
      by_title None title = refl
      by_title (Some h) title = ap (λ (t : ℕ). put (put e (CopyCell c) (CopyHas (goes h))) (HoldCell t p)
          (HoldHas (Some (with_copy (Some c) h)))) title

  row_grown : (d e : Desk) (r : OpeningRow) → IsGrownDesk k (homely j) d e → IsKnownRow k r
      → IsGrownDesk k (homely j) (with_row k.title_of d r) (with_row j.title_of e r)
  row_grown d e (row.Loan c l) grown known =
      put_grown k (homely j) d e (CopyCell c) (CopyHas (OnLoan l)) grown known.0
  row_grown d e (row.OpenShelf c b) grown known =
      put_grown k (homely j) d e (CopyCell c) (CopyHas (Shelf b)) grown known.0
  row_grown d e (row.Hold t h) grown known =
      put_grown k (homely j) d e (HoldCell t h.patron) (HoldHas (Some h)) grown (known.0, known.1.patron)
  row_grown d e (row.HoldShelf c p place) grown known =
      given_both d e c p (kept_at p place) grown known.0 known.1
  row_grown d e (row.HoldTransit c p from) grown known =
      given_both d e c p (sent_from p from) grown known.0 known.1
  row_grown d e (row.Transit c from to) grown known =
      put_grown k (homely j) d e (CopyCell c)
      (CopyHas (InTransit (record { from = from; to = to; patron = None }))) grown known.0

  rows_grown : (d e : Desk) (rows : List OpeningRow) → IsGrownDesk k (homely j) d e
      → All (IsKnownRow k) rows
      → IsGrownDesk k (homely j) (with_rows k.title_of d rows) (with_rows j.title_of e rows)
  rows_grown d e [] grown all = grown
  rows_grown d e (r ∷ rows) grown all =
      rows_grown (with_row k.title_of d r) (with_row j.title_of e r) rows
      (row_grown d e r grown (all 0 r (omega arith))) (λ i x below. all (suc i) x (omega (arith, below)))

  told_grown : (rows : List OpeningRow) → All (IsKnownRow k) rows
      → IsGrownDesk k (homely j) (with_rows k.title_of (at_home k.home) rows)
      (with_rows j.title_of (at_home j.home) rows)
  told_grown rows all = rows_grown (at_home k.home) (at_home j.home) rows (record {
    copies = λ c in_c. ap Shelf (longer.home c in_c);
    holds = λ t p in_t in_p. refl;
    new_copies = λ c new. refl;
    new_holds = λ t p new. refl;
  }) all

-- what arrivals leave as it was
arrivals_holds : (title_of home : ℕ → ℕ) (d : Desk) (n more : ℕ)
    → (with_rows title_of d (arrivals home n more)).hold ≡ d.hold
arrivals_holds title_of home d n zero = refl
arrivals_holds title_of home d n (suc more) =
    arrivals_holds title_of home (with_row title_of d (row.Transit n (home n) (home n))) (n + 1) more

abbrev arriving : (ℕ → ℕ) → ℕ → CopyState
arriving home c = InTransit (record { from = home c; to = home c; patron = None })

other_copy : (d : Desk) (n c : ℕ) (s : CopyState) → (n ≡ c → ⊥)
    → (put d (CopyCell n) (CopyHas s)).copy c ≡ d.copy c
other_copy d n c s other = copy_cases (λ (v : CopyState). v ≡ d.copy c) n c s (d.copy c)
    (λ is. absurd (other is)) (λ is. refl)

same_copy : (d : Desk) (n : ℕ) (s : CopyState) → (put d (CopyCell n) (CopyHas s)).copy n ≡ s
same_copy d n s = copy_cases (λ (v : CopyState). v ≡ s) n n s (d.copy n)
    (λ is. refl) (λ is. absurd (let e : (n == n) ≡ true = number_self n in let never : ⊥ = cc in never))

arrivals_below : (title_of home : ℕ → ℕ) (d : Desk) (n more c : ℕ) → c < n
    → (with_rows title_of d (arrivals home n more)).copy c ≡ d.copy c
arrivals_below title_of home d n zero c below = refl
arrivals_below title_of home d n (suc more) c below =
    arrivals_below title_of home (with_row title_of d (row.Transit n (home n) (home n))) (n + 1) more c
    (omega arith)
    ∙ other_copy d n c (InTransit (record { from = home n; to = home n; patron = None }))
    (λ is. let never : ⊥ = omega arith in never)

arrivals_past : (title_of home : ℕ → ℕ) (d : Desk) (n more c : ℕ) → n + more ≤ c
    → (with_rows title_of d (arrivals home n more)).copy c ≡ d.copy c
arrivals_past title_of home d n zero c past = refl
arrivals_past title_of home d n (suc more) c past =
    arrivals_past title_of home (with_row title_of d (row.Transit n (home n) (home n))) (n + 1) more c
    (omega arith)
    ∙ other_copy d n c (InTransit (record { from = home n; to = home n; patron = None }))
    (λ is. let never : ⊥ = omega arith in never)

arrivals_there : (title_of home : ℕ → ℕ) (d : Desk) (n more c : ℕ) → n ≤ c → c < n + more
    → (with_rows title_of d (arrivals home n more)).copy c ≡ arriving home c
arrivals_there title_of home d n zero c low lt = absurd (let never : ⊥ = omega arith in never)
arrivals_there title_of home d n (suc more) c low lt = cases (old_or_new n c)
    (λ up. arrivals_there title_of home (with_row title_of d (row.Transit n (home n) (home n))) (n + 1) more c
    (omega arith) (omega arith))
  where
    cases : (n < c) ⊎ (c ≤ n)
        → (n < c → (with_rows title_of (with_row title_of d (row.Transit n (home n) (home n)))
        (arrivals home (n + 1) more)).copy c ≡ arriving home c)
        → (with_rows title_of (with_row title_of d (row.Transit n (home n) (home n)))
        (arrivals home (n + 1) more)).copy c ≡ arriving home c
    cases (inl up) later = later up
    cases (inr down) later =
        let is : n ≡ c = omega arith in
        subst (λ (x : ℕ). (with_rows title_of (with_row title_of d (row.Transit n (home n) (home n)))
        (arrivals home (n + 1) more)).copy x ≡ arriving home x) is
        (arrivals_below title_of home (with_row title_of d (row.Transit n (home n) (home n))) (n + 1) more n
        (omega arith)
        ∙ same_copy d n (InTransit (record { from = home n; to = home n; patron = None })))

module _ (k j : Facts) (rows : List OpeningRow) (low : AreInRange k) (high : AreInRange j)
    (behind : ArriveBehind k j rows) where
  -- the rows of both, and then the arrivals
  abbrev told : Desk
  told = with_rows j.title_of (at_home j.home) rows

  abbrev more : ℕ
  more = j.copies - k.copies

  desk_is : j.opening.desk ≡ with_rows j.title_of told (arrivals j.home k.copies more)
  desk_is = behind.behind ∙ rows_appended j.title_of (at_home j.home) rows (arrivals j.home k.copies more)

  all_told : IsGrownDesk k (homely j) k.opening.desk told
  all_told = subst (λ (d : Desk). IsGrownDesk k (homely j) d told) (sym behind.before)
      (told_grown k j behind.longer low rows behind.known)

  holds_are : (t p : ℕ) → j.opening.desk.hold t p ≡ told.hold t p
  holds_are t p = ap (λ (d : Desk). d.hold t p) desk_is
      ∙ ap (λ (holds : ℕ → ℕ → Option Hold). holds t p)
      (arrivals_holds j.title_of j.home told k.copies more)

  ends : k.copies + more ≡ j.copies
  ends = let le : k.copies ≤ j.copies = behind.longer.copies in omega arith

  pub arrivals_grow : Grows k j
  arrivals_grow = record {
    longer = behind.longer;
    opening = record {
      copies = λ c in_c. ap (λ (d : Desk). d.copy c) desk_is
          ∙ arrivals_below j.title_of j.home told k.copies more c in_c ∙ all_told.copies c in_c;
      holds = λ t p in_t in_p. holds_are t p ∙ all_told.holds t p in_t in_p;
      new_copies = λ c new. refl;
      new_holds = λ t p new. refl;
    };
    on_the_way = λ c new in_c. record {
      from = j.home c;
      to = j.home c;
      is = ap (λ (d : Desk). d.copy c) desk_is
          ∙ arrivals_there j.title_of j.home told k.copies more c new
          (subst (λ (n : ℕ). c < n) (sym ends) in_c);
      known_from = high.home c in_c;
      known_to = high.home c in_c;
    };
    past = λ c past. (
      j.home c,
      ap (λ (d : Desk). d.copy c) desk_is
          ∙ arrivals_past j.title_of j.home told k.copies more c (subst (λ (n : ℕ). n ≤ c) (sym ends) past)
          ∙ all_told.new_copies c (let le : k.copies ≤ j.copies = behind.longer.copies in omega arith),
    );
    not_held = λ t p new. holds_are t p ∙ all_told.new_holds t p new;
  }
