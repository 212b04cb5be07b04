use Rattle.std.proofs.Common.{sym}
use Rattle.std.proofs.lemmas.Bool.Decides.{Decides-int_eq}
use Rattle.hd_catalogue.specs.Files.{lines_of}
use Rattle.hd_zone.proofs.MovedLemmas.{own_offset, read_moved, trans}
use Rattle.hd_zone.proofs.reading.read_at.Goals as goal

pub returns-then-eq-clause-read : goal.returns-then-eq-clause-read
returns-then-eq-clause-read c = (
  c.in_ok-catalogue.catalogue,
  c.in_ok-catalogue.ensures.accepted,
  own_offset c.in_ok-catalogue.catalogue c.args.offset
      (trans (sym c.offset.ensures)
      ((Decides-int_eq c.offset.result c.args.offset).0 (trans (sym c.eq.ensures) c.if-eq.true))),
)

pub returns-then-eq-2-clause-read : goal.returns-then-eq-2-clause-read
returns-then-eq-2-clause-read c = (
  c.in_ok-catalogue.catalogue,
  c.in_ok-catalogue.ensures.accepted,
  read_moved (lines_of c.args.file.now)
      (lines_of c.as_slice-bytes.result.now) c.in_ok-catalogue.catalogue c.in-Ok-read.catalogue
      c.args.offset (c.is_moved.ensures c.if-not-is_moved.false) c.in_ok-catalogue.ensures.accepted
      c.in-Ok-read.ensures.accepted
      (trans (sym c.offset-2.ensures)
      ((Decides-int_eq c.offset-2.result c.args.offset).0 (trans (sym c.eq-2.ensures) c.if-eq-2.true))),
)
