use Rattle.std.proofs.Common.{sym, subst}
use Rattle.hd_clash.specs.declared.key.Key.TheVariants as key
use Rattle.hd_index.specs.Rising.{AreBelow}
use Rattle.hd_records.specs.Index.{listed_under}
use Rattle.hd_records.specs.IndexValue.{IndexValue}
use Rattle.hd_records.proofs.index.Index.push.Goals as goal

pub push_at-requires-clause-above : goal.push_at-requires-clause-above
push_at-requires-clause-above g c n =
    subst (λ (x : IndexValue). AreBelow c.args.number (listed_under (key.Title n) x)) (sym c.self.view_is)
    (c.requires.above (key.Title n))

pub push_at-requires-2-clause-above : goal.push_at-requires-2-clause-above
push_at-requires-2-clause-above g c n =
    subst (λ (x : IndexValue). AreBelow c.args.number (listed_under (key.Patron n) x)) (sym c.self.view_is)
    (c.requires.above (key.Patron n))

pub push_at-requires-3-clause-above : goal.push_at-requires-3-clause-above
push_at-requires-3-clause-above g c n =
    subst (λ (x : IndexValue). AreBelow c.args.number (listed_under (key.Branch n) x)) (sym c.self.view_is)
    (c.requires.above (key.Branch n))
