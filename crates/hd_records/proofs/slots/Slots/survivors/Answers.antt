use Rattle.std.proofs.Common.{◌∙◌, ap, sym}
use Rattle.hd_records.specs.Laid.{survivors_in}
use Rattle.hd_records.specs.Slots.{records_there}
use Rattle.hd_records.specs.SlotsValue.{SlotsValue}
use Rattle.hd_records.specs.Survivors.{survivors_of}
use Rattle.hd_records.proofs.Laid.{survivors_stored}
use Rattle.hd_records.proofs.slots.Slots.survivors.Goals as goal

pub returns : goal.returns
returns g c =
    c.new.ensures ∙ ap survivors_in c.as_slice.ensures.value
    ∙ sym (survivors_stored c.self.inside.slots.items c.self.inside.findings.items
    c.self.inside.changes.items)
    ∙ ap (λ (v : SlotsValue). survivors_of (records_there v.items)) c.self.view_is
