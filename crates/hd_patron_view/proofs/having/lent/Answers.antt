use Rattle.std.proofs.Common.{arith, rules, ◌≡◌, sym, ap, subst, ℕ, ◌<◌, ◌≤◌, length, List, All}
use Rattle.hd_rules.specs.declared.limits.TheConstants.{MOST_COPIES}
use Rattle.hd_rules.specs.Choose.{is_lent_to}
use Rattle.hd_rules.specs.Facts.{AreInRange}
use Rattle.hd_rules.specs.Views.{loans_of}
use Rattle.hd_desk.specs.Desks.{desk_of, facts}
use Rattle.hd_patron_view.proofs.Viewing.{few_copies, known_copies}
use Rattle.hd_patron_view.proofs.having.lent.Goals as goal

pub returns-clause-known : goal.returns-clause-known
returns-clause-known g c =
    subst (All (λ (copy : ℕ). copy < (facts c.args.desk.now).copies)) (sym c.lent_to.ensures)
    (known_copies (facts c.args.desk.now)
    (λ (x : ℕ). is_lent_to c.args.patron ((desk_of c.args.desk.now).copy x)) 0
    (facts c.args.desk.now).copies (omega arith))

pub returns-clause-few : goal.returns-clause-few
returns-clause-few g c =
    let few : length (loans_of (facts c.args.desk.now) (desk_of c.args.desk.now) c.args.patron)
    ≤ (facts c.args.desk.now).copies =
    few_copies (λ (x : ℕ). is_lent_to c.args.patron ((desk_of c.args.desk.now).copy x)) 0
    (facts c.args.desk.now).copies in
    let same : length c.lent_to.result
    ≡ length (loans_of (facts c.args.desk.now) (desk_of c.args.desk.now) c.args.patron) =
    ap (λ (xs : List ℕ). length xs) c.lent_to.ensures in
    let range : AreInRange (facts c.args.desk.now) = search rules in
    let most : (facts c.args.desk.now).copies ≤ MOST_COPIES = range.copies in
    omega arith
