use Rattle.std.proofs.lemmas.Result.{on_ok_weaker}
use Rattle.hd_opening.proofs.WriteLemmas.{hold_line}
use Rattle.hd_opening.proofs.writing.put_hold.Goals as goal

pub returns : goal.returns
returns g c =
    on_ok_weaker c.put_line.result
    (λ h. hold_line c.args.catalogue.now c.args.title c.args.hold.now c.admits_piece.result
    c.copy_piece.result c.day_piece.result h.0
    c.args.out.now.items c.put_line.new.out.items c.admits_piece.ensures c.copy_piece.ensures
    c.day_piece.ensures h.1 h.2)
    c.put_line.ensures
