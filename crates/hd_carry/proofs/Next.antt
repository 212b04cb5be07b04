-- The next journal begins with the old desk, by names.
use Rattle.std.proofs.Common.{◌≡◌, refl, ap, ◌∙◌, ℕ, ◌+◌, ◌⊎◌, inl, inr, List, [], ◌∷◌, slice_index_or}
use Rattle.hd_rules.specs.declared.rows.OpeningRow.{OpeningRow}
use Rattle.hd_rules.specs.declared.copies.CopyState.TheVariants.{Shelf}
use Rattle.hd_rules.specs.declared.rows.OpeningRow.TheVariants as row
use Rattle.hd_rules.specs.Facts.{Facts, Opening, AreInRange}
use Rattle.hd_rules.specs.Desk.{Desk, at_home}
use Rattle.hd_rules.specs.Known.{IsKnownRow}
use Rattle.hd_rules.specs.Rows.{with_row, with_rows, MayStand, EachMayStand, Waits}
use Rattle.hd_rules.specs.Carry.{Renumbering, Stayed, IsAdded, Pair, Later, IsCarriedOver}
use Rattle.hd_rules.specs.Laws.{RowsTellASoundDesk, KnownRowsTellAKnownDesk}
use Rattle.hd_catalogue.specs.Contents.{Contents, facts_of, told_by, branch_name, title_name, copy_name}
use Rattle.hd_catalogue.specs.Contents.{patron_name}
use Rattle.hd_catalogue.specs.Contents.{branch_number, title_number, copy_number, patron_number}
use Rattle.hd_carry.specs.ByNames.{by_names}
use Rattle.hd_carry.specs.Laws.{CarryOver, BeginsWith}

-- how the new journal begins is no matter for what is carried over
other_opening : (k j i : Facts) (r : Renumbering) (d e : Desk) → j.home ≡ i.home → IsCarriedOver r k j d e
    → IsCarriedOver r k i d e
other_opening k j i r d e home over = record {
  copies = λ x. by_case x (over.copies x);
  gone = over.gone;
  holds = over.holds;
  older = λ u q h is.
      let pair : Pair r u q = over.older u q h is in
      record {
        title = pair.title;
        patron = pair.patron;
        same_title = pair.same_title;
        same_patron = pair.same_patron;
      };
  kept = λ t p h is.
      let later : Later r t p = over.kept t p h is in
      record {
        title = later.title;
        patron = later.patron;
        same_title = later.same_title;
        same_patron = later.same_patron;
      };
}
  where
    by_case : (x : ℕ) → Stayed r k d e x ⊎ IsAdded r j e x → Stayed r k d e x ⊎ IsAdded r i e x
    by_case x (inl stayed) = inl stayed
    by_case x (inr added) = inr (record {
      none = added.none;
      home = added.home ∙ ap (λ (at : ℕ → ℕ). Shelf (at x)) home;
    })

-- the same facts with another opening
module _ (j : Facts) (o : Opening) where
  abbrev other : Facts
  other = record j { opening = o }

  abbrev waits_too : (e : Desk) (c p : ℕ) → Waits j e c p → Waits other e c p
  waits_too e c p waits = record { hold = waits.hold; is = waits.is; none = waits.none }

  may_too : (n : ℕ) (e : Desk) (w : OpeningRow) → MayStand j e n w → MayStand other e n w
  may_too n e (row.Hold t h) may =
      record { new = may.new; none = may.none; stamp = may.stamp; apart = may.apart }
  may_too n e (row.HoldShelf c p place) may = record {
    home = may.home;
    waits = waits_too e c p may.waits;
    from_one = may.from_one;
    free = may.free;
  }
  may_too n e (row.HoldTransit c p from) may = (may.0, waits_too e c p may.1)
  may_too n e (row.Loan c l) may = may
  may_too n e (row.OpenShelf c b) may = may
  may_too n e (row.Transit c from to) may = may

  stand_too : (n : ℕ) (e : Desk) (rows : List OpeningRow) → EachMayStand j n e rows
      → EachMayStand other n e rows
  stand_too n e [] may = tt
  stand_too n e (w ∷ rows) may = (may_too n e w may.0, stand_too n (with_row j.title_of e w) rows may.1)

  known_too : (w : OpeningRow) → IsKnownRow j w → IsKnownRow other w
  known_too (row.Hold t h) known = (
    known.0,
    record {
      patron = known.1.patron;
      kind = known.1.kind;
      pickup = known.1.pickup;
      copy =
          known.1.copy;
    },
  )
  known_too (row.HoldShelf c p place) known = known
  known_too (row.HoldTransit c p from) known = known
  known_too (row.Loan c l) known = known
  known_too (row.OpenShelf c b) known = known
  known_too (row.Transit c from to) known = known

pub begins : (old new : Contents) (last : ℕ) (d : Desk) (rows : List OpeningRow) → RowsTellASoundDesk
    → KnownRowsTellAKnownDesk
    → AreInRange (facts_of new) → CarryOver (facts_of old) (facts_of new) (by_names old new) (last + 1) d rows
    → BeginsWith old (record new { opening = told_by rows last }) d
unfolding facts_of by_names branch_name title_name copy_name patron_name branch_number title_number
    copy_number patron_number
begins old new last d rows told known range over =
    let next : Contents = record new { opening = told_by rows last } in
    let in_range : AreInRange (facts_of next) = record {
      branches = range.branches;
      terminals = range.terminals;
      titles = range.titles;
      copies = range.copies;
      patrons = range.patrons;
      home = range.home;
      title_of = range.title_of;
      loan_days = range.loan_days;
      renewals = range.renewals;
      loan_limit = range.loan_limit;
      some_command = range.some_command;
      command_limit = range.command_limit;
    } in
    record {
      sound = told.all (facts_of next) rows
          (stand_too (facts_of new) (facts_of next).opening (last + 1) (at_home (facts_of new).home) rows
          over.stand) refl;
      known = known.told (facts_of next) rows in_range
          (λ i none l. known_too (facts_of new) (facts_of next).opening (slice_index_or rows i none)
          (over.known i none l));
      over = other_opening (facts_of old) (facts_of new) (facts_of next) (by_names old new) d
          (with_rows (facts_of new).title_of (at_home (facts_of new).home) rows) refl over.over;
    }
