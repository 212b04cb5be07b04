use Rattle.std.proofs.Common.{◌≡◌, ◌++◌}
use Rattle.hd_catalogue.specs.Contents.{facts_of}
use Rattle.hd_desk.specs.Desks.{desk_of, facts}
use Rattle.hd_carry.specs.Numbers.{renumbering}
use Rattle.hd_carry.specs.CarriedRows.{copy_rows}
use Rattle.hd_carry.specs.WriteOffs.{is_noted, without_loans}
use Rattle.hd_carry.proofs.copy_rows.add_copy_rows.Given as goal

abbrev pub invariant-loop-number : goal.invariant-loop-number
invariant-loop-number g l =
    l.rows.items ≡ l.fn.rows.items ++ copy_rows (renumbering l.numbers) (facts_of l.new)
    (without_loans (facts l.desk) (is_noted l.write_off) (desk_of l.desk)) l.number
