use Rattle.std.proofs.Common.{◌≤◌, sym, ap, subst}
use Rattle.hd_rules.specs.Facts.{first_number}
use Rattle.hd_rules.specs.Rows.{IsInBounds, MayStand}
use Rattle.hd_desk.specs.DeskValue.{DeskValue}
use Rattle.hd_desk.specs.Desks.{desk_of, facts}
use Rattle.hd_desk.proofs.Telling.{free-there, may-keep}
use Rattle.hd_desk.proofs.desk.Desk.judge.Goals as goal

pub returns-else-is_some-2-clause-ok : goal.returns-else-is_some-2-clause-ok
returns-else-is_some-2-clause-ok g c =
    let k = facts c.args.self.now in
    let hold = c.in_ok-hold-in-HoldShelf.hold in
    let from : 1 ≤ c.in-HoldShelf.place =
    subst (IsInBounds (first_number k)) c.in-HoldShelf.is c.requires.bounds in
    subst (MayStand k (desk_of c.args.self.now) (first_number k)) (sym c.in-HoldShelf.is)
    (may-keep k (desk_of c.args.self.now) c.in-HoldShelf.copy c.in-HoldShelf.patron c.in-HoldShelf.place hold
    from
    c.in_ok-hold-in-HoldShelf.ensures.ok
    (free-there c.args.self.now c.self.inside.copies hold.pickup c.in-HoldShelf.place c.at.result
    c.is_some-in-HoldShelf.result
    (ap (λ (d : DeskValue). d.copies) c.self.view_is) c.at.ensures c.is_some-in-HoldShelf.ensures
    c.if-is_some-2.false))
