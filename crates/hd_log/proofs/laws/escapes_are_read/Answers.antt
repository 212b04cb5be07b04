use Rattle.std.proofs.Common.{◌<◌, arith}
use Rattle.std.proofs.lemmas.List.Elements.{All-from_get_or}
use Rattle.hd_log.proofs.Printable.{unescaped-escaped}
use Rattle.hd_log.proofs.laws.escapes_are_read.Goals as goal

pub returns : goal.returns
returns c = unescaped-escaped _
    (All-from_get_or (λ b. b < 256) c.args.bytes.now 0 (λ i within. omega (arith, c.type_inv.bytes i)))
