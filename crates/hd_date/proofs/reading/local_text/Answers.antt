use Rattle.std.proofs.Common.{rules}
use Rattle.hd_date.specs.Stamps.{IsLocal}
use Rattle.hd_date.proofs.StampLemmas.{own_print}
use Rattle.hd_date.proofs.reading.local_text.Goals as goal

pub returns-in-Some-Local-clause-printed : goal.returns-in-Some-Local-clause-printed
returns-in-Some-Local-clause-printed c offset stamp shows =
    let here : IsLocal c.in-Ok.text.now = search rules in
    own_print c.in-Ok.text.now offset stamp here shows
