use Rattle.std.proofs.Common.{arith, refl, rules, ◌≡◌, ◌∙◌, ap, ap₂, ℕ, ◌+◌, ◌-◌, List, length, filter}
use Rattle.std.proofs.lemmas.Iterator.Consumers.{YieldsList-from_first, count_from_yields_List}
use Rattle.hd_rules.specs.declared.views.TitleHold.{TitleHold}
use Rattle.hd_rules.specs.Choose.{loans}
use Rattle.hd_rules.specs.Views.{holds_of, is_kept, is_overdue, kept_of, loans_of, may_borrow, overdue_of}
use Rattle.hd_rules.specs.Views.{waiting_of}
use Rattle.hd_desk.specs.Desks.{desk_of, facts}
use Rattle.hd_patron_view.specs.Held.{held_by, kept_copy}
use Rattle.hd_patron_view.proofs.Viewing.{as_many_copies, fewer_found, kept_are, overdue_counted}
use Rattle.hd_patron_view.proofs.views.view.Goals as goal

pub overflow_sub-waiting : goal.overflow_sub-waiting
overflow_sub-waiting g c =
    omega (
      arith,
      fewer_found (kept_copy (desk_of c.args.desk.now) c.args.patron) c.held-held.result.now,
      c.count_kept-kept.ensures,
    )

pub returns : goal.returns
returns g c =
    let counted : c.count-charged.result ≡ length c.lent.result =
    count_from_yields_List c.lent.result c.count-charged.result c.count-charged.ensures.ran
    (YieldsList-from_first (λ (copy : ℕ). copy) (λ (copies : List ℕ). copies) c.lent.result refl) in
    let charged : c.count-charged.result
    ≡ length (loans_of (facts c.args.desk.now) (desk_of c.args.desk.now) c.args.patron) =
    counted ∙ ap (λ (cs : List ℕ). length cs) c.lent.ensures.copies in
    let overdue : c.count_overdue-overdue.result
    ≡ length (overdue_of (facts c.args.desk.now) (desk_of c.args.desk.now) c.args.patron c.args.day) =
    c.count_overdue-overdue.ensures ∙ overdue_counted (desk_of c.args.desk.now) c.args.day c.lent-2.result
    ∙ ap (λ (cs : List ℕ). length (filter (λ x. is_overdue c.args.day ((desk_of c.args.desk.now).copy x)) cs))
    c.lent-2.ensures.copies in
    let kept : c.count_kept-kept.result
    ≡ length (kept_of (facts c.args.desk.now) (desk_of c.args.desk.now) c.args.patron) =
    c.count_kept-kept.ensures
    ∙ ap (λ xs. length xs) (kept_are (desk_of c.args.desk.now) c.args.patron c.held-held.result.now)
    ∙ as_many_copies (desk_of c.args.desk.now)
    (held_by (desk_of c.args.desk.now) c.args.patron c.held-held.result.now)
    ∙ ap (λ (hs : List TitleHold). length (filter (is_kept (desk_of c.args.desk.now)) hs))
    c.held-held.ensures.holds in
    let both : length (kept_of (facts c.args.desk.now) (desk_of c.args.desk.now) c.args.patron) + length
    (waiting_of (facts c.args.desk.now) (desk_of c.args.desk.now) c.args.patron)
    ≡ length (holds_of (facts c.args.desk.now) (desk_of c.args.desk.now) c.args.patron) =
    c.kept_and_waiting_are_the_holds.ensures.counted (facts c.args.desk.now) (desk_of c.args.desk.now)
    c.args.patron in
    let all : length c.held-held.result.now
    ≡ length (holds_of (facts c.args.desk.now) (desk_of c.args.desk.now) c.args.patron) =
    c.held-held.ensures.count in
    let waiting : length c.held-held.result.now - c.count_kept-kept.result
    ≡ length (waiting_of (facts c.args.desk.now) (desk_of c.args.desk.now) c.args.patron) = omega arith in
    let limit : c.loan_limit-loan_limit.result ≡ (facts c.args.desk.now).loan_limit c.args.patron =
    search rules in
    let borrowing : c.may_borrow.result
    ≡ may_borrow (loans (facts c.args.desk.now) (desk_of c.args.desk.now) c.args.patron)
    ((facts c.args.desk.now).loan_limit c.args.patron) =
    c.may_borrow.ensures
    ∙ ap₂ (λ (m n : ℕ). may_borrow m n)
    (charged ∙ c.charged_are_counted.ensures (facts c.args.desk.now) (desk_of c.args.desk.now) c.args.patron)
    limit in
    λ i. record {
      charged = charged i;
      overdue = overdue i;
      kept = kept i;
      waiting = waiting i;
      borrowing = borrowing i;
      loan_limit = limit i;
    }
