use Rattle.std.proofs.Common.{◌∙◌, ap, sym, length}
use Rattle.hd_records.specs.SlotsValue.{SlotsValue}
use Rattle.hd_records.proofs.Laid.{length_stored}
use Rattle.hd_records.proofs.slots.Slots.len.Goals as goal

pub returns : goal.returns
returns g c =
    c.len.ensures ∙ c.self.inside.slots.ok.0
    ∙ sym (length_stored c.self.inside.slots.items c.self.inside.findings.items c.self.inside.changes.items)
    ∙ ap (λ (v : SlotsValue). length v.items) c.self.view_is
