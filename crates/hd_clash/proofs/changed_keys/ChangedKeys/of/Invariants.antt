use Rattle.std.proofs.Common.{◌≡◌, ◌≤◌, ◌*◌, [], length, drop}
use Rattle.hd_catalogue.specs.Contents.{facts_of}
use Rattle.hd_clash.specs.ChangedKeys.{with_keys}
use Rattle.hd_clash.specs.Keys.{keys_of}
use Rattle.hd_clash.specs.Law.{EachCellIsKnown}
use Rattle.hd_clash.proofs.changed_keys.ChangedKeys.of.Given as goal

abbrev pub invariant-loop-change : goal.invariant-loop-change
invariant-loop-change g l = record {
  known : EachCellIsKnown (facts_of l.catalogue) (drop l.change-index l.changes);
  few : length l.keys ≤ 3 * l.change-index;
  rest :
      with_keys l.keys (keys_of (facts_of l.catalogue) (drop l.change-index l.changes))
      ≡ with_keys [] (keys_of (facts_of l.catalogue) l.changes);
}
