use Rattle.std.proofs.Common.{◌∙◌}
use Rattle.hd_desk.proofs.Writing.{are-two}
use Rattle.hd_desk.proofs.cells.DeskCells.put.Goals as goal

pub write-requires-clause-room : goal.write-requires-clause-room
write-requires-clause-room g c =
    c.requires.room (λ own. are-two c.tests_are_exact.ensures c.get.result c.args.value c.is_same.result
    c.is_same.ensures
    c.if-not-is_same.true (c.get.ensures.value ∙ own))
