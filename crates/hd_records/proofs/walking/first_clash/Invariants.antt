use Rattle.std.proofs.Common.{◌≡◌}
use Rattle.hd_catalogue.specs.Contents.{facts_of}
use Rattle.hd_clash.specs.Clash.{first_clash}
use Rattle.hd_clash.specs.Records.{EachRecordIsKnown}
use Rattle.hd_index.specs.Union.{union}
use Rattle.hd_records.specs.Looks.{after_walk}
use Rattle.hd_records.specs.Slots.{records_at}
use Rattle.hd_records.proofs.walking.first_clash.Given as goal

abbrev pub invariant-loop-number : goal.invariant-loop-number
invariant-loop-number g l = record {
  known : EachRecordIsKnown (facts_of l.catalogue) (records_at (union l.number-iterator) l.slots.items);
  rest : first_clash (facts_of l.catalogue) l.changes (records_at (union l.number-iterator) l.slots.items)
      ≡ first_clash (facts_of l.catalogue) l.changes (records_at (union l.fn.numbers) l.slots.items);
  work : after_walk (facts_of l.catalogue) l.changes (records_at (union l.number-iterator) l.slots.items)
      l.meter
      ≡ after_walk (facts_of l.catalogue) l.changes (records_at (union l.fn.numbers) l.slots.items)
      l.fn.meter;
}
