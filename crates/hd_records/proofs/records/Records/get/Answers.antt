use Rattle.std.proofs.Common.{◌∙◌, ap, sym, Some, option_map}
use Rattle.hd_rules.specs.Record.{Record}
use Rattle.hd_records.specs.RecordsValue.{RecordsValue}
use Rattle.hd_records.specs.Shown.{record_shown}
use Rattle.hd_records.specs.Survivors.{record_of}
use Rattle.hd_records.proofs.Numbered.{record_there}
use Rattle.hd_records.proofs.records.Records.get.Goals as goal

pub returns-in_err-stored-clause-record : goal.returns-in_err-stored-clause-record
returns-in_err-stored-clause-record g c =
    ap (option_map record_shown) c.from_residual.ensures ∙ c.in_err-stored.ensures
    ∙ sym (record_there c.args.number c.self.inside.slots.items c.self.invariant.0)
    ∙ ap (λ (x : RecordsValue). record_of c.args.number x.records) c.self.view_is

pub returns-clause-record : goal.returns-clause-record
returns-clause-record g c =
    ap (λ (r : Record). Some r) c.show.ensures.shown ∙ c.in_ok-stored.ensures
    ∙ sym (record_there c.args.number c.self.inside.slots.items c.self.invariant.0)
    ∙ ap (λ (x : RecordsValue). record_of c.args.number x.records) c.self.view_is
