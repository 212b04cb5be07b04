-- A record, as it is lent.
use Rattle.hd_rules.specs.Record.{Record}
use Rattle.hd_records.specs.declared.record.RecordRef.{RecordRef}

abbrev pub record_shown : RecordRef → Record
record_shown r = record {
  number = r.survivor.number;
  terminal = r.survivor.terminal;
  command = r.survivor.command;
  reply = r.reply;
  findings = r.findings.now;
  changes = r.changes.now;
}
