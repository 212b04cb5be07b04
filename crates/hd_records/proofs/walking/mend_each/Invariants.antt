use Rattle.std.proofs.Common.{◌≡◌, length}
use Rattle.hd_catalogue.specs.Contents.{facts_of}
use Rattle.hd_clash.specs.Records.{EachRecordIsKnown}
use Rattle.hd_index.specs.Rising.{IsRising}
use Rattle.hd_index.specs.Union.{union}
use Rattle.hd_records.specs.Looks.{after_looks}
use Rattle.hd_records.specs.Slots.{records_at, shift_at}
use Rattle.hd_records.proofs.walking.mend_each.Given as goal

abbrev pub invariant-loop-number : goal.invariant-loop-number
invariant-loop-number g l = record {
  rising : IsRising (union l.number-iterator);
  known : EachRecordIsKnown (facts_of l.catalogue) (records_at (union l.number-iterator) l.slots.items);
  rest : shift_at (facts_of l.catalogue) l.changes (union l.number-iterator) 0 l.slots.items
      ≡ shift_at (facts_of l.catalogue) l.changes (union l.fn.numbers) 0 l.fn.slots.items;
  room : l.slots.room ≡ l.fn.slots.room;
  work : after_looks (length (union l.number-iterator)) l.meter
      ≡ after_looks (length (union l.fn.numbers)) l.fn.meter;
}
