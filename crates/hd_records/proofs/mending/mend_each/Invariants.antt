use Rattle.std.proofs.Common.{◌≡◌, ◌++◌, length, take, drop}
use Rattle.hd_catalogue.specs.Contents.{facts_of}
use Rattle.hd_clash.specs.Counting.{EachIsSmall}
use Rattle.hd_clash.specs.Shift.{shift_each}
use Rattle.hd_records.proofs.mending.mend_each.Given as goal

abbrev pub invariant-loop-at : goal.invariant-loop-at
invariant-loop-at g l = record {
  length : length l.findings ≡ length l.fn.findings;
  small : EachIsSmall (drop l.at l.findings);
  rest :
      take l.at l.findings ++ shift_each (facts_of l.catalogue) l.changes (drop l.at l.findings)
      ≡ shift_each (facts_of l.catalogue) l.changes l.fn.findings;
}
